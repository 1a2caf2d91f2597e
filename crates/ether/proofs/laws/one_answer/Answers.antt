use Rattle.ether.proofs.Answering.{one_answer, short}
use Rattle.ether.proofs.laws.one_answer.Goals as goal

pub returns-clause-one : goal.returns-clause-one
returns-clause-one c = one_answer

pub returns-clause-short : goal.returns-clause-short
returns-clause-short c = short
