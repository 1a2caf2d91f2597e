use Rattle.ladder.proofs.Widths.{every-line}
use Rattle.ladder.proofs.laws.every_line_fits.Goals as goal

pub returns : goal.returns
returns c = every-line
