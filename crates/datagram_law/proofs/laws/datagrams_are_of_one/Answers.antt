use Rattle.datagram_law.proofs.Parting.{carries_udp, no_fragment}
use Rattle.datagram_law.proofs.laws.datagrams_are_of_one.Goals as goal

pub returns-clause-protocol : goal.returns-clause-protocol
returns-clause-protocol c = carries_udp

pub returns-clause-whole : goal.returns-clause-whole
returns-clause-whole c = no_fragment
