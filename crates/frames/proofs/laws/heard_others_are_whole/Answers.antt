use Rattle.frames.proofs.Hearers.{others_are_whole}
use Rattle.frames.proofs.laws.heard_others_are_whole.Goals as goal

pub returns : goal.returns
returns c = others_are_whole
