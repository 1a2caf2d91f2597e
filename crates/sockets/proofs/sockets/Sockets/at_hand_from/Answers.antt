use Rattle.sockets.proofs.Ascending.{lent_in_order}
use Rattle.sockets.proofs.sockets.Sockets.at_hand_from.Goals as goal

-- the entries that are lent stand in order
pub is_first_between-is_it-requires-clause-order : goal.is_first_between-is_it-requires-clause-order
is_first_between-is_it-requires-clause-order c = lent_in_order _ _ _ c.deref.ensures.0 c.self.invariant.1
