use Rattle.round_law.proofs.Heard.{frame_heard}
use Rattle.round_law.proofs.laws.what_comes_is_heard.Goals as goal

pub returns : goal.returns
returns c = frame_heard
