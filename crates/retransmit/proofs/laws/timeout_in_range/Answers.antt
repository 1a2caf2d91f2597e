use Rattle.retransmit.proofs.Timeouts.{timeout-least, timeout-most, timeout-usual}
use Rattle.retransmit.proofs.laws.timeout_in_range.Goals as goal

pub returns-clause-least : goal.returns-clause-least
returns-clause-least c = timeout-least

pub returns-clause-most : goal.returns-clause-most
returns-clause-most c = timeout-most

pub returns-clause-usual : goal.returns-clause-usual
returns-clause-usual c = timeout-usual
