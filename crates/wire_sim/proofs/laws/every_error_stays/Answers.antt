use Rattle.wire_sim.proofs.HostsRun.{errors-told, sockets-told}
use Rattle.wire_sim.proofs.laws.every_error_stays.Goals as goal

pub returns : goal.returns
returns c = record { entry = errors-told; socket = sockets-told }
