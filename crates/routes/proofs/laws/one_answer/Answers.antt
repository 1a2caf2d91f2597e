use Rattle.routes.proofs.Tables.{one_pick}
use Rattle.routes.proofs.laws.one_answer.Goals as goal

pub returns : goal.returns
returns c = one_pick
