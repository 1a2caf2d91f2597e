-- The write at the place is the change of the connection that is told, or it is taken out.
use Rattle.std.proofs.Common.{◌≡◌, ◌∙◌, ℕ, Bool, Some, refl, ap, sym}
use Rattle.std.specs.List.{find, position}
use Rattle.tcp_state.specs.declared.connection.Fate.{Fate}
use Rattle.sockets.specs.declared.entry.Entry.{Entry}
use Rattle.sockets.specs.Entries.{is_between, role_after_unreachable, unreachable_fate_of, entries_after_step}
use Rattle.sockets.specs.SocketsView.{SocketsView}
use Rattle.sockets.proofs.Roomy.{places_stay}
use Rattle.sockets.proofs.Arrived.{entry_settled}
use Rattle.sockets.proofs.Written.{found_lent, role_changed}
use Rattle.sockets.proofs.Told.{told-found}
use Rattle.sockets.proofs.Ascending.{ascends_written, ascends_settled}
use Rattle.sockets.proofs.Filed.{index_written}
use Rattle.sockets.proofs.KeptFiled.{filed_role, filed-unreachable}
use Rattle.sockets.proofs.Outlooks.{outlook_written}
use Rattle.sockets.proofs.sockets.Sockets.unreachable.Goals as goal

pub returns-in-Some : goal.returns-in-Some
returns-in-Some c =
    let h : SocketsView = c.args.self.now in
    let number : ℕ = c.args.number.0 in
    let test : Entry → Bool = is_between c.args.local c.args.peer in
    let place : position test h.entries ≡ Some c.in-Some.place =
    sym c.connection_between.ensures ∙ c.in-Some.is
    in
    let x : Entry = c.index-deref_mut-place.result in
    let found : find test h.entries ≡ Some x = found_lent _ h test _ _ x c.self.view_is place c.deref_mut.ensures.value c.index-deref_mut-place.is in
    entry_settled _ _ test (role_after_unreachable number) _ _ _ _ _ c.unreachable-fate.result c.self.view_is place c.deref_mut.ensures.value c.index-deref_mut-place.is (role_changed (role_after_unreachable number) _ _ c.unreachable-fate.ensures.after) c.settle.ensures.entries
    ∙ ap (λ (r : Fate). let w : SocketsView = record h { entries = entries_after_step r test (role_after_unreachable number) h.entries } in w) (c.unreachable-fate.ensures.fate ∙ ap (λ (e : Entry). unreachable_fate_of number e.role) (sym c.index-deref_mut-place.is))
    ∙ sym (told-found h c.args.local c.args.peer number x found)

-- the entry keeps its id, or is taken out
pub invariant_of-self : goal.invariant_of-self
invariant_of-self c = ((c.self.invariant.0.0, places_stay c.settle.ensures.most.0 c.settle.ensures.most.1 refl c.self.invariant.0.1), ascends_settled _ c.unreachable-fate.result _ _ _ (ascends_written _ _ _ _ _ c.index-deref_mut-place.result c.self.invariant.1 c.deref_mut.ensures.value refl) c.settle.ensures.entries, c.settle.ensures.index, c.settle.ensures.known _ (outlook_written _ _ _ _ _ _ (c.turn_to.ensures.known _ c.self.invariant.3) c.turn_to.ensures.at_hand c.deref_mut.ensures.value))

-- its connection stays filed by its ends

pub settle-requires-clause-index : goal.settle-requires-clause-index
settle-requires-clause-index c = index_written _ _ _ _ _ c.index-deref_mut-place.result c.self.invariant.2 c.deref_mut.ensures.value (filed_role (role_after_unreachable c.args.number.0) _ _ (filed-unreachable _ _) c.unreachable-fate.ensures.after)

pub settle-requires-clause-known : goal.settle-requires-clause-known
settle-requires-clause-known c = (c.self.inside.sizes.entries, outlook_written _ _ _ _ _ _ (c.turn_to.ensures.known _ c.self.invariant.3) c.turn_to.ensures.at_hand c.deref_mut.ensures.value)

pub turn_to-requires-clause-known : goal.turn_to-requires-clause-known
turn_to-requires-clause-known c = (c.self.inside.sizes.entries, c.self.invariant.3)
