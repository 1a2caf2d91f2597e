use Rattle.wire_sim.proofs.passage.FramesAreSent.{met-as-sent}
use Rattle.wire_sim.proofs.laws.every_frame_is_met_as_sent.Goals as goal

pub returns : goal.returns
returns c = met-as-sent
