-- The write at the place is the change, or the removal, of the segment's connection, and those offered; a segment that is refused changes nothing.
use Rattle.std.proofs.Common.{ℕ, ◌≡◌, ◌∙◌, List, get_or, Bool, Some, ap, sym}
use Rattle.std.specs.List.{find}
use Rattle.tcp_segment.specs.Segment.{Segment}
use Rattle.tcp_state.specs.declared.connection.Fate.{Fate}
use Rattle.tcp_state.specs.declared.connection.Fate.TheVariants.{Rejected}
use Rattle.clock.specs.declared.moment.Moment.{Moment}
use Rattle.sockets.specs.declared.entry.SocketId.{SocketId}
use Rattle.sockets.specs.declared.entry.Entry.{Entry}
use Rattle.sockets.specs.Arrival.{local_end, peer_end, offered_with}
use Rattle.sockets.specs.Replies.{reset_at_ack}
use Rattle.sockets.specs.Entries.{is_between, fate_of, is_offered_by, entries_after_step, role_after_segment}
use Rattle.sockets.specs.SocketsView.{SocketsView, later_moment}
use Rattle.sockets.proofs.Roomy.{places_stay}
use Rattle.sockets.proofs.Arrived.{entry_settled, meets_becomes, meets_answered, refusal-answered, taken}
use Rattle.sockets.proofs.Refused.{entry_refused_segment}
use Rattle.sockets.proofs.Written.{found_lent, entry_kept}
use Rattle.sockets.proofs.Ascending.{ascends_written, ascends_settled}
use Rattle.sockets.proofs.Filed.{index_written}
use Rattle.sockets.proofs.KeptFiled.{filed_after, filed-segment}
use Rattle.sockets.proofs.Outlooks.{outlook_written}
use Rattle.sockets.proofs.sockets.Sockets.take_at.Goals as goal

pub returns-in-Rejected : goal.returns-in-Rejected
returns-in-Rejected c isn =
    let h : SocketsView = c.args.self.now in
    let s : Segment = c.args.segment.now in
    let test : Entry → Bool = is_between (local_end h s) (peer_end c.args.source s) in
    let x : Entry = c.index-deref_mut-place.result in
    let found : find test h.entries ≡ Some x = found_lent _ h test _ _ x c.self.view_is c.requires c.deref_mut.ensures.value c.index-deref_mut-place.is in
    let fates : fate_of s x.role ≡ Rejected = ap (λ (e : Entry). fate_of s e.role) c.index-deref_mut-place.is ∙ sym c.segment-fate.ensures.fate ∙ c.in-Rejected.is in
    let same : c.segment-fate.new.self ≡ get_or c.deref_mut.result.now c.args.place x =
    c.segment-fate.ensures.after ∙ entry_refused_segment _ s c.later_moment-now.result (sym c.segment-fate.ensures.fate ∙ c.in-Rejected.is)
    in
    meets_answered _ h _ (reset_at_ack s) _ (refusal-answered h c.args.now isn c.args.source s x found fates) c.reset_at_ack.ensures (entry_kept _ h _ _ _ _ c.self.view_is c.deref_mut.ensures.value c.index-deref_mut-place.is same)

pub returns-in_default : goal.returns-in_default
returns-in_default c isn =
    let h : SocketsView = c.args.self.now in
    let s : Segment = c.args.segment.now in
    let test : Entry → Bool = is_between (local_end h s) (peer_end c.args.source s) in
    let x : Entry = c.index-deref_mut-place.result in
    let found : find test h.entries ≡ Some x = found_lent _ h test _ _ x c.self.view_is c.requires c.deref_mut.ensures.value c.index-deref_mut-place.is in
    let fate : Fate = c.segment-fate.result.0 in
    let fates : fate_of s x.role ≡ fate = ap (λ (e : Entry). fate_of s e.role) c.index-deref_mut-place.is ∙ sym c.segment-fate.ensures.fate in
    let now : Moment = c.later_moment-now.result in
    let there : Entry = get_or c.deref_mut.result.now c.args.place x in
    let offers : c.offer.new.offered.items ≡ offered_with h.sizes.entries (is_offered_by (later_moment h c.args.now) s x.role) x.id h.offered =
    c.offer.ensures.items
    ∙ ap (λ (n : ℕ). offered_with n c.segment-fate.result.1 there.id c.self.inside.offered.items) c.self.invariant.0.1.offered
    ∙ ap (λ (b : Bool). offered_with c.self.inside.sizes.entries b there.id c.self.inside.offered.items) c.segment-fate.ensures.offered
    ∙ ap (λ (e : Entry). offered_with c.self.inside.sizes.entries (is_offered_by now s e.role) e.id c.self.inside.offered.items) (sym c.index-deref_mut-place.is)
    ∙ ap (λ (m : Moment). offered_with c.self.inside.sizes.entries (is_offered_by m s x.role) x.id c.self.inside.offered.items) c.later_moment-now.ensures
    ∙ ap (λ (w : SocketsView). offered_with w.sizes.entries (is_offered_by (later_moment h c.args.now) s x.role) x.id w.offered) c.self.view_is
    in
    meets_becomes _ _ _ _ (taken h c.args.now isn c.args.source s x fate found fates c.in_default.not-Rejected)
    (
    ap (λ (w : SocketsView). let r : SocketsView = record w { offered = c.offer.new.offered.items } in r)
    (entry_settled _ _ test (role_after_segment now s) _ _ _ _ _ fate c.self.view_is c.requires c.deref_mut.ensures.value c.index-deref_mut-place.is c.segment-fate.ensures.after c.settle.ensures.entries
    ∙ ap (λ (m : Moment). let w : SocketsView = record h { entries = entries_after_step fate test (role_after_segment m s) h.entries } in w) c.later_moment-now.ensures)
    ∙ ap (λ (ids : List SocketId). let r : SocketsView = record h { entries = entries_after_step fate test (role_after_segment (later_moment h c.args.now) s) h.entries; offered = ids } in r) offers
    )

-- the entry keeps its id, or is taken out
pub invariant_of-self-in_default : goal.invariant_of-self-in_default
invariant_of-self-in_default c = ((c.self.invariant.0.0, places_stay c.settle.ensures.most.0 c.settle.ensures.most.1 c.offer.ensures.most c.self.invariant.0.1), ascends_settled _ c.segment-fate.result.0 _ _ _ (ascends_written _ _ _ _ _ c.index-deref_mut-place.result c.self.invariant.1 c.deref_mut.ensures.value (ap (λ (e : Entry). e.id) c.segment-fate.ensures.after)) c.settle.ensures.entries, c.settle.ensures.index, c.settle.ensures.known _ (outlook_written _ _ _ _ _ _ (c.turn_to.ensures.known _ c.self.invariant.3) c.turn_to.ensures.at_hand c.deref_mut.ensures.value))

-- or it stays
pub invariant_of-self : goal.invariant_of-self
invariant_of-self c = (
  c.self.invariant.0,
  ascends_written _ _ _ _ _ c.index-deref_mut-place.result c.self.invariant.1 c.deref_mut.ensures.value (ap (λ (e : Entry). e.id) c.segment-fate.ensures.after),
  index_written _ _ _ _ _ c.index-deref_mut-place.result c.self.invariant.2 c.deref_mut.ensures.value (filed_after (role_after_segment c.later_moment-now.result c.args.segment.now) _ _ (filed-segment c.later_moment-now.result c.args.segment.now _) c.segment-fate.ensures.after),
  outlook_written _ _ _ _ _ _ (c.turn_to.ensures.known _ c.self.invariant.3) c.turn_to.ensures.at_hand c.deref_mut.ensures.value,
)

-- its connection stays filed by its ends

pub settle-requires-clause-index : goal.settle-requires-clause-index
settle-requires-clause-index c = index_written _ _ _ _ _ c.index-deref_mut-place.result c.self.invariant.2 c.deref_mut.ensures.value (filed_after (role_after_segment c.later_moment-now.result c.args.segment.now) _ _ (filed-segment c.later_moment-now.result c.args.segment.now _) c.segment-fate.ensures.after)

pub settle-requires-clause-known : goal.settle-requires-clause-known
settle-requires-clause-known c = (c.self.inside.sizes.entries, outlook_written _ _ _ _ _ _ (c.turn_to.ensures.known _ c.self.invariant.3) c.turn_to.ensures.at_hand c.deref_mut.ensures.value)

pub turn_to-requires-clause-known : goal.turn_to-requires-clause-known
turn_to-requires-clause-known c = (c.self.inside.sizes.entries, c.self.invariant.3)
