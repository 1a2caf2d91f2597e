use Rattle.wire_sim.proofs.fairness.FairIsUnrefused.{unrefused}
use Rattle.wire_sim.proofs.laws.fair_is_unrefused.Goals as goal

pub returns : goal.returns
returns c = unrefused
