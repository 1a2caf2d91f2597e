-- The write at the socket's place is the change of the first entry that the id names, or it is taken out.
use Rattle.std.proofs.Common.{◌≡◌, ◌∙◌, Some, refl, ap, sym}
use Rattle.std.specs.List.{find}
use Rattle.tcp_state.specs.declared.connection.Fate.{Fate}
use Rattle.clock.specs.declared.moment.Moment.{Moment}
use Rattle.sockets.specs.declared.entry.Entry.{Entry}
use Rattle.sockets.specs.Entries.{is_socket, role_after_leaving, leaving_fate_of, entries_after_step}
use Rattle.sockets.specs.SocketsView.{SocketsView}
use Rattle.sockets.proofs.Roomy.{places_stay}
use Rattle.sockets.proofs.Arrived.{entry_settled}
use Rattle.sockets.proofs.Closed.{left-found, close-allowed}
use Rattle.sockets.proofs.Written.{found_lent, place_written, role_changed}
use Rattle.sockets.proofs.Firsts.{found_by_place}
use Rattle.sockets.proofs.Ascending.{ascends_written, ascends_settled}
use Rattle.sockets.proofs.Filed.{index_written}
use Rattle.sockets.proofs.KeptFiled.{filed_role, filed-leaving}
use Rattle.sockets.proofs.Outlooks.{outlook_written}
use Rattle.sockets.proofs.sockets.Sockets.leave_socket.Goals as goal

pub returns-clause-ok : goal.returns-clause-ok
returns-clause-ok c =
    let h : SocketsView = c.args.self.now in
    let kept = ap (λ (w : SocketsView). w.kept) c.self.view_is in
    let x : Entry = c.index-deref_mut-place.result in
    let found : find (is_socket c.args.id) h.entries ≡ Some x = found_lent _ h (is_socket c.args.id) _ _ x c.self.view_is c.in_ok-place.ensures.place c.deref_mut.ensures.value c.index-deref_mut-place.is in
    let fates : c.leave-fate.result ≡ leaving_fate_of c.args.how c.self.inside.kept x.role = c.leave-fate.ensures.fate ∙ ap (λ (e : Entry). leaving_fate_of c.args.how c.self.inside.kept e.role) (sym c.index-deref_mut-place.is) in
    entry_settled _ _ (is_socket c.args.id) (role_after_leaving c.args.how c.self.inside.kept) _ _ _ _ _ c.leave-fate.result c.self.view_is c.in_ok-place.ensures.place c.deref_mut.ensures.value c.index-deref_mut-place.is (role_changed (role_after_leaving c.args.how c.self.inside.kept) _ _ c.leave-fate.ensures.after) c.settle.ensures.entries
    ∙ ap (λ (r : Fate). let w : SocketsView = record h { entries = entries_after_step r (is_socket c.args.id) (role_after_leaving c.args.how c.self.inside.kept) h.entries } in w) fates
    ∙ ap (λ (m : Moment). let w : SocketsView = record h { entries = entries_after_step (leaving_fate_of c.args.how m x.role) (is_socket c.args.id) (role_after_leaving c.args.how m) h.entries } in w) kept
    ∙ sym (left-found h c.args.how c.args.id x found)

pub returns-clause-refused : goal.returns-clause-refused
returns-clause-refused c =
    let found = found_by_place (is_socket c.args.id) c.args.self.now.entries c.in_ok-place.place c.in_ok-place.ensures.place in
    sym (close-allowed c.args.self.now c.args.id found.0 found.1)

-- the entry keeps its id, or is taken out
pub invariant_of-self : goal.invariant_of-self
invariant_of-self c = ((c.self.invariant.0.0, places_stay c.settle.ensures.most.0 c.settle.ensures.most.1 refl c.self.invariant.0.1), ascends_settled _ c.leave-fate.result _ _ _ (ascends_written _ _ _ _ _ c.index-deref_mut-place.result c.self.invariant.1 c.deref_mut.ensures.value refl) c.settle.ensures.entries, c.settle.ensures.index, c.settle.ensures.known _ (outlook_written _ _ _ _ _ _ (c.turn_to.ensures.known _ c.self.invariant.3) c.turn_to.ensures.at_hand c.deref_mut.ensures.value))

-- its connection stays filed by its ends

pub settle-requires-clause-index : goal.settle-requires-clause-index
settle-requires-clause-index c = index_written _ _ _ _ _ c.index-deref_mut-place.result c.self.invariant.2 c.deref_mut.ensures.value (filed_role (role_after_leaving c.args.how c.self.inside.kept) _ _ (filed-leaving _ _ _) c.leave-fate.ensures.after)

-- its place is one of the table still
pub settle-requires-clause-place : goal.settle-requires-clause-place
settle-requires-clause-place c = place_written _ c.args.self.now (is_socket c.args.id) _ _ _ c.self.view_is c.in_ok-place.ensures.place c.deref_mut.ensures.value

pub settle-requires-clause-known : goal.settle-requires-clause-known
settle-requires-clause-known c = (c.self.inside.sizes.entries, outlook_written _ _ _ _ _ _ (c.turn_to.ensures.known _ c.self.invariant.3) c.turn_to.ensures.at_hand c.deref_mut.ensures.value)

pub turn_to-requires-clause-known : goal.turn_to-requires-clause-known
turn_to-requires-clause-known c = (c.self.inside.sizes.entries, c.self.invariant.3)
