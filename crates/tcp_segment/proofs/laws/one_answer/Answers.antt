use Rattle.tcp_segment.proofs.Answering.{one_answer}
use Rattle.tcp_segment.proofs.laws.one_answer.Goals as goal

pub returns : goal.returns
returns c = one_answer
