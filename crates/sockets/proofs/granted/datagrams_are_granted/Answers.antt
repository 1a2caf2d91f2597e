use Rattle.sockets.proofs.Grants.{datagram_granted}
use Rattle.sockets.proofs.granted.datagrams_are_granted.Goals as goal

pub returns : goal.returns
returns c = datagram_granted
