use Rattle.datagram_law.proofs.InTurn.{unique}
use Rattle.datagram_law.proofs.laws.identifications_are_unique.Goals as goal

pub returns : goal.returns
returns c = unique
