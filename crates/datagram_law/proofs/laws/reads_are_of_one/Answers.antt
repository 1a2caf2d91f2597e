use Rattle.datagram_law.proofs.Keeping.{reads_are_of_one}
use Rattle.datagram_law.proofs.laws.reads_are_of_one.Goals as goal

pub returns : goal.returns
returns c = reads_are_of_one
