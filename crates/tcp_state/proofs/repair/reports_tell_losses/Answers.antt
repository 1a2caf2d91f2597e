use Rattle.tcp_state.proofs.Repairs.{loss_resends}
use Rattle.tcp_state.proofs.repair.reports_tell_losses.Goals as goal

pub returns : goal.returns
returns c = loss_resends
