use Rattle.inet_sum.proofs.Complements.{sum_right}
use Rattle.inet_sum.proofs.laws.checksums_check.Goals as goal

pub returns : goal.returns
returns c = sum_right
