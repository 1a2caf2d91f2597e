use Rattle.host.proofs.Owed.{whole-queued, completed-queued, completed-reported}
use Rattle.host.proofs.duties.datagrams_reach_their_sockets.Goals as goal

pub returns : goal.returns
returns c = record { whole = whole-queued; completed = completed-queued; unbound = completed-reported }
