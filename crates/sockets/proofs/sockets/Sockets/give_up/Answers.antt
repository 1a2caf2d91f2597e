-- The entries that are left are those of the table, and nothing else changes.
use Rattle.std.proofs.Common.{refl, ◌∙◌, List, ap}
use Rattle.clock.specs.declared.moment.Moment.{Moment}
use Rattle.sockets.specs.declared.entry.Entry.{Entry}
use Rattle.sockets.specs.Lost.{give_up_fate_of, role_after_giving_up}
use Rattle.sockets.specs.Entries.{entries_after_steps}
use Rattle.sockets.specs.SocketsView.{SocketsView, later_moment}
use Rattle.sockets.proofs.Roomy.{places_stay}
use Rattle.sockets.proofs.sockets.Sockets.give_up.Goals as goal

pub returns : goal.returns
returns g c = λ test computes.
    let h : SocketsView = c.args.self.now in
    let inside : SocketsView = record { addr = c.self.inside.addr; manner = c.self.inside.manner; kept = c.self.inside.kept; last_port = c.self.inside.last_port; last_id = c.self.inside.last_id; identification = c.self.inside.identification; sizes = c.self.inside.sizes; entries = c.self.inside.entries.items; offered = c.self.inside.offered.items; turn = c.self.inside.turn } in
    let left = c.give_up.ensures.left test computes ∙ ap (λ (m : Moment). entries_after_steps (give_up_fate_of test m) (role_after_giving_up test m) inside.entries) c.later_moment-now.ensures in
    ap (λ (es : List Entry). let w : SocketsView = record inside { entries = es } in w) left
    ∙ ap (λ (w : SocketsView). let u : SocketsView = record w { entries = entries_after_steps (give_up_fate_of test (later_moment h c.args.now)) (role_after_giving_up test (later_moment h c.args.now)) w.entries } in u) c.self.view_is

-- each entry keeps its id, or is taken out
pub invariant_of-self : goal.invariant_of-self
invariant_of-self g c = ((c.self.invariant.0.0, places_stay c.give_up.ensures.most.0 c.give_up.ensures.most.1 refl c.self.invariant.0.1), c.give_up.ensures.ids _ c.self.invariant.1, c.give_up.ensures.index, c.give_up.ensures.known _ c.self.invariant.3)

pub give_up-requires-clause-known : goal.give_up-requires-clause-known
give_up-requires-clause-known g c = (c.self.inside.sizes.entries, c.self.invariant.3)
