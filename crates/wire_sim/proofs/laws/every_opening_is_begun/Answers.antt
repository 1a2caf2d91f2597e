use Rattle.wire_sim.proofs.openings.OpeningsAreBegun.{openings-begun}
use Rattle.wire_sim.proofs.laws.every_opening_is_begun.Goals as goal

pub returns : goal.returns
returns c = openings-begun
