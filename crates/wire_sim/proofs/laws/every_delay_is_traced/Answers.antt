use Rattle.wire_sim.proofs.fairness.NotesAreTraced.{delays-traced}
use Rattle.wire_sim.proofs.laws.every_delay_is_traced.Goals as goal

pub returns : goal.returns
returns c = delays-traced
