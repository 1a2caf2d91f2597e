use Rattle.sockets.proofs.Closings.{connection_aborted, connection_left_open}
use Rattle.sockets.proofs.duties.closes_leave.Goals as goal

pub returns : goal.returns
returns c = record { aborted = λ h id v o. connection_aborted h id o v; going_on = λ h id v o. connection_left_open h id o v }
