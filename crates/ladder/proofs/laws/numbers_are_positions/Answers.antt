use Rattle.ladder.proofs.Widths.{at-position}
use Rattle.ladder.proofs.laws.numbers_are_positions.Goals as goal

pub returns : goal.returns
returns c = at-position
