use Rattle.wire_sim.proofs.fairness.NotesAreTraced.{notes-traced}
use Rattle.wire_sim.proofs.laws.every_note_is_traced.Goals as goal

pub returns : goal.returns
returns c = notes-traced
