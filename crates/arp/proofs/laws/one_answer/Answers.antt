use Rattle.arp.proofs.OnePacket.{one_answer}
use Rattle.arp.proofs.laws.one_answer.Goals as goal

pub returns : goal.returns
returns c = one_answer
