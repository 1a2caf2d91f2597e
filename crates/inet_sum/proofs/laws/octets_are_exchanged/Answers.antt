use Rattle.inet_sum.proofs.Exchanging.{low_sum}
use Rattle.inet_sum.proofs.laws.octets_are_exchanged.Goals as goal

pub returns : goal.returns
returns c = low_sum
