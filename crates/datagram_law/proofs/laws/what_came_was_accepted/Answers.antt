use Rattle.datagram_law.proofs.InTurn.{none_came, one_came, each_came}
use Rattle.datagram_law.proofs.laws.what_came_was_accepted.Goals as goal

pub returns-clause-none : goal.returns-clause-none
returns-clause-none c = none_came

pub returns-clause-one : goal.returns-clause-one
returns-clause-one c = one_came

pub returns-clause-each : goal.returns-clause-each
returns-clause-each c = each_came
