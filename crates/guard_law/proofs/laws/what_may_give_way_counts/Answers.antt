use Rattle.guard_law.proofs.Nobody.{counted, left, at_or_past}
use Rattle.guard_law.proofs.laws.what_may_give_way_counts.Goals as goal

pub returns : goal.returns
returns c = record { unanswered = counted; left = left; past = at_or_past }
