use Rattle.tcp_state.proofs.Unchanged.{rejected_leaves_at, rejected_leaves}
use Rattle.tcp_state.proofs.laws.rejected_changes_nothing.Goals as goal

pub returns : goal.returns
returns c = record { timed = rejected_leaves_at; heard = rejected_leaves }
