use Rattle.inet_sum.proofs.Complements.{with_carry}
use Rattle.inet_sum.proofs.laws.carries_come_back.Goals as goal

pub returns : goal.returns
returns c = with_carry
