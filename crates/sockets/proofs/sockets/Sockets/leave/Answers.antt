-- The entries that are lent stand in order, and each that is left keeps its id.
use Rattle.std.proofs.Common.{refl}
use Rattle.sockets.specs.declared.entry.Entry.{Entry}
use Rattle.sockets.specs.Entries.{is_kept, listener_close_fate_of, role_after_listener_close, with_role}
use Rattle.sockets.proofs.Roomy.{places_stay}
use Rattle.sockets.proofs.Ascending.{lent_in_order, ascends_stepped}
use Rattle.sockets.proofs.sockets.Sockets.leave.Goals as goal

pub offer_no_more-requires : goal.offer_no_more-requires
offer_no_more-requires c = lent_in_order _ _ _ c.deref.ensures.0 c.self.invariant.1

pub invariant_of-self : goal.invariant_of-self
invariant_of-self c = ((c.self.invariant.0.0, places_stay c.forsake.ensures.most.0 c.forsake.ensures.most.1 c.offer_no_more.ensures.most c.self.invariant.0.1), ascends_stepped _ (λ (e : Entry). is_kept (listener_close_fate_of c.args.id e.role)) (with_role (role_after_listener_close c.self.inside.kept c.args.id)) _ _ (λ e. refl) c.self.invariant.1 c.forsake.ensures.entries, c.forsake.ensures.index, c.forsake.ensures.known _ c.self.invariant.3)

pub forsake-requires-clause-known : goal.forsake-requires-clause-known
forsake-requires-clause-known c = (c.self.inside.sizes.entries, c.self.invariant.3)

pub forsake-requires-clause-index : goal.forsake-requires-clause-index
forsake-requires-clause-index c = c.self.invariant.2
