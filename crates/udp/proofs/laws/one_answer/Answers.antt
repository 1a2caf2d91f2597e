use Rattle.udp.proofs.Answering.{one_answer}
use Rattle.udp.proofs.laws.one_answer.Goals as goal

pub returns : goal.returns
returns c = one_answer
