-- The write at the place is the change of the connection that is accepted, whose id is taken out of those offered.
use Rattle.std.proofs.Common.{◌≡◌, ◌∙◌, List, ap, sym, refl}
use Rattle.std.specs.List.{remove}
use Rattle.sockets.specs.declared.entry.SocketId.{SocketId}
use Rattle.sockets.specs.Entries.{is_waiting_id, role_after_accept, with_role}
use Rattle.sockets.specs.SocketsView.{SocketsView}
use Rattle.sockets.specs.Calls.{is_next_at}
use Rattle.sockets.specs.Lists.{change_first, remove_first}
use Rattle.sockets.proofs.Roomy.{places_stay}
use Rattle.sockets.proofs.Firsts.{remove_first-position}
use Rattle.sockets.proofs.Written.{role_written}
use Rattle.sockets.proofs.Ascending.{ascends_written}
use Rattle.sockets.proofs.Filed.{index_written}
use Rattle.sockets.proofs.KeptFiled.{filed_role, filed-accept}
use Rattle.sockets.proofs.Outlooks.{outlook_written}
use Rattle.sockets.proofs.sockets.Sockets.accept.Goals as goal

pub returns-clause-ok : goal.returns-clause-ok
returns-clause-ok c =
    let h : SocketsView = c.args.self.now in
    let left : c.remove.new.self.items ≡ remove_first (is_waiting_id h.entries c.args.id) h.offered =
    c.remove.ensures.items
    ∙ ap (λ (w : SocketsView). remove w.offered c.in-Some.turn) c.self.view_is
    ∙ sym (remove_first-position (is_waiting_id h.entries c.args.id) h.offered c.in-Some.turn c.remove.result c.in-Some.ensures.turn)
    in
    ap (λ (w : SocketsView). let r : SocketsView = record w { offered = c.remove.new.self.items } in r)
    (role_written _ _ (is_next_at h c.args.id) role_after_accept _ _ _ _ c.self.view_is c.in-Some.ensures.place c.deref_mut.ensures.value c.index-deref_mut-place.is c.accept.ensures)
    ∙ ap (λ (ids : List SocketId). let r : SocketsView = record h { entries = change_first (is_next_at h c.args.id) (with_role role_after_accept) h.entries; offered = ids } in r) left

-- the entry keeps its id
pub invariant_of-self-2 : goal.invariant_of-self-2
invariant_of-self-2 c = (
  (c.self.invariant.0.0, places_stay refl refl c.remove.ensures.most c.self.invariant.0.1),
  ascends_written _ _ _ _ _ c.index-deref_mut-place.result c.self.invariant.1 c.deref_mut.ensures.value refl,
  index_written _ _ _ _ _ c.index-deref_mut-place.result c.self.invariant.2 c.deref_mut.ensures.value (filed_role role_after_accept _ _ (filed-accept _) c.accept.ensures),
  outlook_written _ _ _ _ _ _ (c.turn_to.ensures.known _ c.self.invariant.3) c.turn_to.ensures.at_hand c.deref_mut.ensures.value,
)

pub turn_to-requires-clause-known : goal.turn_to-requires-clause-known
turn_to-requires-clause-known c = (c.self.inside.sizes.entries, c.self.invariant.3)

-- or it stays as it is
pub invariant_of-self : goal.invariant_of-self
invariant_of-self c = (
  c.self.invariant.0,
  ascends_written _ _ _ _ _ c.index-deref_mut-place.result c.self.invariant.1 c.deref_mut.ensures.value refl,
  index_written _ _ _ _ _ c.index-deref_mut-place.result c.self.invariant.2 c.deref_mut.ensures.value refl,
  outlook_written _ _ _ _ _ _ (c.turn_to.ensures.known _ c.self.invariant.3) c.turn_to.ensures.at_hand c.deref_mut.ensures.value,
)
