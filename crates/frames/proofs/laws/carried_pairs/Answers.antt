use Rattle.frames.proofs.CarriedPairs.{carried_pairs}
use Rattle.frames.proofs.laws.carried_pairs.Goals as goal

pub returns : goal.returns
returns c = carried_pairs
