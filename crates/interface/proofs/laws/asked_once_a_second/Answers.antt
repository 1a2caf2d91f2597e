use Rattle.interface.proofs.Waits.{asks, asked_once, asked_at_once}
use Rattle.interface.proofs.laws.asked_once_a_second.Goals as goal

pub returns-clause-allowed : goal.returns-clause-allowed
returns-clause-allowed c = asks

pub returns-clause-once : goal.returns-clause-once
returns-clause-once c = asked_once

pub returns-clause-moment : goal.returns-clause-moment
returns-clause-moment c = asked_at_once
