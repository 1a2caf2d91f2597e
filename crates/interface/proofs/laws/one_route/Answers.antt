use Rattle.std.proofs.Common.{sym}
use Rattle.interface.proofs.BestRoute.{picked}
use Rattle.interface.proofs.laws.one_route.Goals as goal

pub returns : goal.returns
returns c = λ table addr hop is picks. sym (picked table addr hop is picks)
