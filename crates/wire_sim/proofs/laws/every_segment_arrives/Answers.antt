use Rattle.wire_sim.proofs.passage.FramesAreSent.{segments-arrive}
use Rattle.wire_sim.proofs.laws.every_segment_arrives.Goals as goal

pub returns : goal.returns
returns c = segments-arrive
