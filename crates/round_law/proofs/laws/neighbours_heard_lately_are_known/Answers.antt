use Rattle.round_law.proofs.Lately.{known_later}
use Rattle.round_law.proofs.laws.neighbours_heard_lately_are_known.Goals as goal

pub returns : goal.returns
returns c = known_later
