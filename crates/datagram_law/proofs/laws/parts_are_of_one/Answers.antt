use Rattle.datagram_law.proofs.Parting.{numbered}
use Rattle.datagram_law.proofs.laws.parts_are_of_one.Goals as goal

pub returns : goal.returns
returns c = numbered
