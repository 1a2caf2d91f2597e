use Rattle.routes.proofs.Tables.{one_pick_of_same}
use Rattle.routes.proofs.laws.order_does_not_matter.Goals as goal

pub returns : goal.returns
returns c = one_pick_of_same
