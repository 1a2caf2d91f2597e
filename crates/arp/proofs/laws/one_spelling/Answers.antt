use Rattle.arp.proofs.OnePacket.{length-spelling, one_spelling}
use Rattle.arp.proofs.laws.one_spelling.Goals as goal

pub returns-clause-len : goal.returns-clause-len
returns-clause-len c = length-spelling

pub returns-clause-spelled : goal.returns-clause-spelled
returns-clause-spelled c = one_spelling
