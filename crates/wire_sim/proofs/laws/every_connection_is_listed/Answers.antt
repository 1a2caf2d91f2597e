use Rattle.wire_sim.proofs.openings.OctetsAreCovered.{connections-listed}
use Rattle.wire_sim.proofs.laws.every_connection_is_listed.Goals as goal

pub returns : goal.returns
returns c = connections-listed
