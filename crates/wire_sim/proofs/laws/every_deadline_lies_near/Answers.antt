use Rattle.wire_sim.proofs.HostsRun.{deadlines-near}
use Rattle.wire_sim.proofs.laws.every_deadline_lies_near.Goals as goal

pub returns : goal.returns
returns c = deadlines-near
