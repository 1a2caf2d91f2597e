use Rattle.congestion.proofs.Windows.{window-least, window-most}
use Rattle.congestion.proofs.laws.window_in_range.Goals as goal

pub returns-clause-least : goal.returns-clause-least
returns-clause-least c = window-least

pub returns-clause-most : goal.returns-clause-most
returns-clause-most c = window-most
