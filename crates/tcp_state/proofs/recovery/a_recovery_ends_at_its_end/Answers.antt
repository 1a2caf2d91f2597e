use Rattle.tcp_state.proofs.Recovering.{ends_at_end}
use Rattle.tcp_state.proofs.recovery.a_recovery_ends_at_its_end.Goals as goal

pub returns : goal.returns
returns c = ends_at_end
