use Rattle.wire_sim.proofs.passage.FramesAreSent.{heard-as-sent}
use Rattle.wire_sim.proofs.laws.every_frame_is_heard_as_sent.Goals as goal

pub returns : goal.returns
returns c = heard-as-sent
