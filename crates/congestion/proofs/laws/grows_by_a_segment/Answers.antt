use Rattle.congestion.proofs.Windows.{new_ack-adds, new_ack-counts}
use Rattle.congestion.proofs.laws.grows_by_a_segment.Goals as goal

pub returns-clause-plain : goal.returns-clause-plain
returns-clause-plain c = new_ack-adds

pub returns-clause-counted : goal.returns-clause-counted
returns-clause-counted c = new_ack-counts
