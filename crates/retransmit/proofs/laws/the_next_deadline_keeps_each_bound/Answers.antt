use Rattle.retransmit.proofs.Soonest.{next_within, next_by}
use Rattle.retransmit.proofs.laws.the_next_deadline_keeps_each_bound.Goals as goal

pub returns-clause-bounded : goal.returns-clause-bounded
returns-clause-bounded c = next_within

pub returns-clause-runs : goal.returns-clause-runs
returns-clause-runs c = next_by
