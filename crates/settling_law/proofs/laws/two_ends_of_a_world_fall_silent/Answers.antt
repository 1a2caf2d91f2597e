use Rattle.settling_law.proofs.Silent.{fall_silent}
use Rattle.settling_law.proofs.laws.two_ends_of_a_world_fall_silent.Goals as goal

pub returns : goal.returns
returns c = fall_silent
