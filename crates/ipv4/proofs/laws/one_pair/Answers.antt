use Rattle.ipv4.proofs.Pairs.{pair_of-swapped, same_ends, lesser_first}
use Rattle.ipv4.proofs.laws.one_pair.Goals as goal

pub returns-clause-alike : goal.returns-clause-alike
returns-clause-alike c = pair_of-swapped

pub returns-clause-ends : goal.returns-clause-ends
returns-clause-ends c = same_ends

pub returns-clause-lesser : goal.returns-clause-lesser
returns-clause-lesser c = lesser_first
