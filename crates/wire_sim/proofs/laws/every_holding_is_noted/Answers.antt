use Rattle.wire_sim.proofs.openings.HoldingsAreNoted.{holdings-noted}
use Rattle.wire_sim.proofs.laws.every_holding_is_noted.Goals as goal

pub returns : goal.returns
returns c = holdings-noted
