use Rattle.sockets.proofs.Ascending.{lent_in_order}
use Rattle.sockets.proofs.sockets.Sockets.sought_from.Goals as goal

-- the entries that are lent stand in order
pub search_from-requires-clause-order : goal.search_from-requires-clause-order
search_from-requires-clause-order c = lent_in_order _ _ _ c.deref.ensures.0 c.self.invariant.1
