use Rattle.ipv4.proofs.Answering.{one_answer}
use Rattle.ipv4.proofs.laws.datagram.one_answer.Goals as goal

pub returns : goal.returns
returns c = one_answer
