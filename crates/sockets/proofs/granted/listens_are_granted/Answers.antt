use Rattle.sockets.proofs.Grants.{listen_granted}
use Rattle.sockets.proofs.granted.listens_are_granted.Goals as goal

pub returns : goal.returns
returns c = listen_granted
