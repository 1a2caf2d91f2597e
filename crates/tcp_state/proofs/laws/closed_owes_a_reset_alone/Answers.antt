use Rattle.tcp_state.proofs.Unchanged.{closed_owes}
use Rattle.tcp_state.proofs.laws.closed_owes_a_reset_alone.Goals as goal

pub returns : goal.returns
returns c = closed_owes
