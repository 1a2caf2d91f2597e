use Rattle.wire_sim.proofs.HostsRun.{causes-heard}
use Rattle.wire_sim.proofs.laws.every_message_has_its_cause.Goals as goal

pub returns : goal.returns
returns c = causes-heard
