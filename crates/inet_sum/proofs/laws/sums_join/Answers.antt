use Rattle.inet_sum.proofs.Joining.{joined}
use Rattle.inet_sum.proofs.laws.sums_join.Goals as goal

pub returns : goal.returns
returns c = joined
