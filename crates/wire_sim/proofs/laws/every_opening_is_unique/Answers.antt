use Rattle.wire_sim.proofs.openings.OctetsAreCovered.{openings-unique}
use Rattle.wire_sim.proofs.laws.every_opening_is_unique.Goals as goal

pub returns : goal.returns
returns c = openings-unique
