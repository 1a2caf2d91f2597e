use Rattle.wire_sim.proofs.openings.OctetsAreCovered.{octets-covered}
use Rattle.wire_sim.proofs.laws.every_octet_is_covered.Goals as goal

pub returns : goal.returns
returns c = octets-covered
