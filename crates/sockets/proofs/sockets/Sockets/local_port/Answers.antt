use Rattle.sockets.proofs.Ascending.{lent_in_order}
use Rattle.sockets.proofs.sockets.Sockets.local_port.Goals as goal

-- the entries that are lent stand in order
pub is_pair_held-requires-clause-order : goal.is_pair_held-requires-clause-order
is_pair_held-requires-clause-order c = lent_in_order _ _ _ c.deref.ensures.0 c.self.invariant.1

pub first_free-requires-clause-order : goal.first_free-requires-clause-order
first_free-requires-clause-order c = lent_in_order _ _ _ c.deref-in-None.ensures.0 c.self.invariant.1
