use Rattle.reassembly.proofs.Soonest.{none_is, some_is, least_is, nothing_before, ended_from}
use Rattle.reassembly.proofs.laws.next_is_least.Goals as goal

pub returns-clause-none : goal.returns-clause-none
returns-clause-none c = none_is

pub returns-clause-some : goal.returns-clause-some
returns-clause-some c = some_is

pub returns-clause-least : goal.returns-clause-least
returns-clause-least c = least_is

pub returns-clause-before : goal.returns-clause-before
returns-clause-before c = nothing_before

pub returns-clause-reached : goal.returns-clause-reached
returns-clause-reached c = ended_from
