use Rattle.window_law.proofs.Drawing.{draw_none}
use Rattle.window_law.proofs.laws.acknowledgements_draw_none.Goals as goal

pub returns : goal.returns
returns c = draw_none
