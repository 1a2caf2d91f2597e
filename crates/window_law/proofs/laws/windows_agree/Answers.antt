use Rattle.window_law.proofs.Run.{agrees}
use Rattle.window_law.proofs.laws.windows_agree.Goals as goal

pub returns : goal.returns
returns c = agrees
