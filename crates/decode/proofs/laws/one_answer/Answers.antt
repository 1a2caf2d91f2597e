use Rattle.decode.proofs.OneAnswer.{one-shown, one-decoded}
use Rattle.decode.proofs.laws.one_answer.Goals as goal

pub returns-clause-shown : goal.returns-clause-shown
returns-clause-shown c = one-shown

pub returns-clause-decoded : goal.returns-clause-decoded
returns-clause-decoded c = one-decoded
