use Rattle.sockets.proofs.Ascending.{lent_in_order}
use Rattle.sockets.proofs.sockets.Sockets.pair_of.Goals as goal

-- the entries that are lent stand in order
pub socket_of-requires : goal.socket_of-requires
socket_of-requires c = lent_in_order _ _ _ c.deref.ensures.0 c.self.invariant.1
