use Rattle.clock.proofs.Comings.{sooner-has_come}
use Rattle.clock.proofs.laws.sooner_comes_with_either.Goals as goal

pub returns : goal.returns
returns c = sooner-has_come
