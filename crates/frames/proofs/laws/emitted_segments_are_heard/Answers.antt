use Rattle.frames.proofs.Carried.{segments_heard}
use Rattle.frames.proofs.laws.emitted_segments_are_heard.Goals as goal

pub returns : goal.returns
returns c = segments_heard
