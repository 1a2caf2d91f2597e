use Rattle.tcp_state.proofs.TailEnds.{forgotten_at_expiry, tail_stays}
use Rattle.tcp_state.proofs.probing.the_end_of_a_probe_is_known.Goals as goal

pub returns : goal.returns
returns c = record { expiry = forgotten_at_expiry; all = tail_stays }
