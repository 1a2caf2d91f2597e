use Rattle.tcp_state.proofs.GoesOut.{due-may}
use Rattle.tcp_state.proofs.progress.what_is_due_may_go_out.Goals as goal

pub returns : goal.returns
returns c = due-may
