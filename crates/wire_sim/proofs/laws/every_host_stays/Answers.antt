use Rattle.wire_sim.proofs.passage.FramesPass.{hosts-stayed}
use Rattle.wire_sim.proofs.laws.every_host_stays.Goals as goal

pub returns : goal.returns
returns c = hosts-stayed
