use Rattle.sockets.proofs.EventsOnce.{one_event}
use Rattle.sockets.proofs.laws.an_event_is_one_of_each_connection.Goals as goal

pub returns : goal.returns
returns c = one_event
