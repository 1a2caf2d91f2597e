use Rattle.sockets.proofs.Ascending.{lent_in_order}
use Rattle.sockets.proofs.sockets.Sockets.sending_end.Goals as goal

-- the entries that are lent stand in order
pub first_bindable-requires-clause-order : goal.first_bindable-requires-clause-order
first_bindable-requires-clause-order c = lent_in_order _ _ _ c.deref.ensures.0 c.self.invariant.1
