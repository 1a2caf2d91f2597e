use Rattle.routes.proofs.Tables.{one_best}
use Rattle.routes.proofs.laws.one_best_route.Goals as goal

pub returns : goal.returns
returns c = one_best
