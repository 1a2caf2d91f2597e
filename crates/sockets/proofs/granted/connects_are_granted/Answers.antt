use Rattle.sockets.proofs.Grants.{connect_granted}
use Rattle.sockets.proofs.granted.connects_are_granted.Goals as goal

pub returns : goal.returns
returns c = connect_granted
