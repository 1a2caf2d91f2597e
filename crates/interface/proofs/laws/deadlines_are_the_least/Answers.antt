use Rattle.std.proofs.Common.{refl}
use Rattle.arp.specs.Waits.{next_ask}
use Rattle.arp.proofs.WaitsOver.{next_is}
use Rattle.interface.proofs.Deadlines.{least_found, none_found}
use Rattle.interface.proofs.laws.deadlines_are_the_least.Goals as goal

pub returns-clause-some : goal.returns-clause-some
returns-clause-some c = least_found

pub returns-clause-none : goal.returns-clause-none
returns-clause-none c = none_found

pub returns-clause-asked : goal.returns-clause-asked
unfolding next_ask
returns-clause-asked c = λ hop asked few. next_is hop asked (next_ask hop asked) few refl
