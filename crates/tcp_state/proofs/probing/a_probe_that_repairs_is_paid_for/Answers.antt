use Rattle.tcp_state.proofs.TailEnds.{repaired_pays, repeated_is_free}
use Rattle.tcp_state.proofs.probing.a_probe_that_repairs_is_paid_for.Goals as goal

pub returns : goal.returns
returns c = record { paid = repaired_pays; free = repeated_is_free }
