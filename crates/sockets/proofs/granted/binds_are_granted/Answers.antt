use Rattle.sockets.proofs.Grants.{bind_granted}
use Rattle.sockets.proofs.granted.binds_are_granted.Goals as goal

pub returns : goal.returns
returns c = bind_granted
