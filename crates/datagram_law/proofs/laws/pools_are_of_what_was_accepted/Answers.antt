use Rattle.datagram_law.proofs.Gathering.{new, one_event}
use Rattle.datagram_law.proofs.laws.pools_are_of_what_was_accepted.Goals as goal

pub returns-clause-new : goal.returns-clause-new
returns-clause-new c = new

pub returns-clause-event : goal.returns-clause-event
returns-clause-event c = one_event
