use Rattle.sockets.proofs.Strays.{refusal_answered}
use Rattle.sockets.proofs.duties.refused_segments_are_answered.Goals as goal

pub returns : goal.returns
returns c = refusal_answered
