use Rattle.capture.proofs.Ours.{orders_alike}
use Rattle.capture.proofs.laws.either_order.Goals as goal

pub returns : goal.returns
returns c = orders_alike
