use Rattle.wire_sim.proofs.HostsRun.{hosts-run}
use Rattle.wire_sim.proofs.laws.every_host_runs.Goals as goal

pub returns : goal.returns
returns c = hosts-run
