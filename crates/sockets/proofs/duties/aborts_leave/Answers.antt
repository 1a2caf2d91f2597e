use Rattle.sockets.proofs.Closings.{connection_reset}
use Rattle.sockets.proofs.duties.aborts_leave.Goals as goal

pub returns : goal.returns
returns c = λ h id v o. connection_reset h id o v
