use Rattle.sockets.specs.declared.entry.Entry.{Entry}
use Rattle.sockets.specs.Entries.{is_kept, tick_fate_of, role_after_tick, with_role}
use Rattle.std.proofs.Common.{refl}
use Rattle.sockets.proofs.Roomy.{places_stay}
use Rattle.sockets.proofs.Ascending.{ascends_stepped}
use Rattle.sockets.proofs.sockets.Sockets.tick.Goals as goal

-- each entry keeps its id, or is taken out
pub invariant_of-self : goal.invariant_of-self
invariant_of-self c =
    let now = c.later_moment-now.result in
    ((c.self.invariant.0.0, places_stay c.tick.ensures.most.0 c.tick.ensures.most.1 refl c.self.invariant.0.1), ascends_stepped _ (λ (e : Entry). is_kept (tick_fate_of now e.role)) (with_role (role_after_tick now)) _ _ (λ e. refl) c.self.invariant.1 c.tick.ensures.entries, c.tick.ensures.index, c.tick.ensures.known _ c.self.invariant.3)

pub tick-requires-clause-known : goal.tick-requires-clause-known
tick-requires-clause-known c = (c.self.inside.sizes.entries, c.self.invariant.3)
