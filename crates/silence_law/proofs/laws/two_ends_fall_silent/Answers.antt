use Rattle.silence_law.proofs.Silent.{fall_silent}
use Rattle.silence_law.proofs.laws.two_ends_fall_silent.Goals as goal

pub returns : goal.returns
returns c = fall_silent
