-- How the wait of a connection for its hop ends, in the table.
use Rattle.std.proofs.Common.{◌≡◌, ◌+◌, ◌≤◌, ◌<◌, ◌&&◌, Bool, true, false, if◌then◌else◌, Option, Some, None, refl, ◌∙◌, ap, arith}
use Rattle.ipv4.specs.declared.addr.Addr.{Addr}
use Rattle.clock.specs.declared.moment.Moment.{Moment}
use Rattle.clock.specs.Moments.{after, has_come}
use Rattle.tcp_state.specs.declared.connection.Fate.TheVariants.{Stays, Removed}
use Rattle.tcp_state.specs.Counted.{IsGivenUp}
use Rattle.tcp_state.specs.Edges as edge
use Rattle.tcp_state.specs.Hop.{end_of_hop_wait, hop_wait, unheard_until}
use Rattle.tcp_state.specs.View.{View, is_syn_received}
use Rattle.tcp_state.proofs.Hopless.{hop_unneeded, hop_awaited, hop_given_up, listener_awaits, listener_gives_up}
use Rattle.sockets.specs.declared.entry.Entry.{Entry}
use Rattle.sockets.specs.declared.entry.SocketId.{SocketId}
use Rattle.sockets.specs.declared.role.Role.TheVariants.{Connected}
use Rattle.sockets.specs.Causes.{Event, GivesUp}
use Rattle.sockets.specs.Closing.{entry_of}
use Rattle.sockets.specs.Entries.{is_kept}
use Rattle.sockets.specs.Ids.{has_id}
use Rattle.sockets.specs.Lost.{is_hopless, after_giving_up, give_up_at}
use Rattle.sockets.specs.Order.{IsOrdered}
use Rattle.sockets.specs.Sound.{IsSoundRole, IsSoundTable}
use Rattle.sockets.specs.SocketsView.{SocketsView, later_moment}
use Rattle.sockets.specs.Steps.{connected, connection_left, IsOneEvent}
use Rattle.sockets.specs.Timing.{KeepsTimeIn, EachKeepsTime, IsNear}
use Rattle.sockets.proofs.ByIds.{left_under, one_id}
use Rattle.sockets.proofs.EventsOnce.{given_up_once}
use Rattle.sockets.proofs.Followed.{by_test}
use Rattle.sockets.proofs.OfferCounts.{all-found}

module _ (h : SocketsView) (lost : Addr → Bool) (now : Moment) (id : SocketId) (c : View) (listener : Option SocketId) (o : IsOrdered h) (is : entry_of h id ≡ Some (connected id c listener)) where
  left : entry_of (after_giving_up h lost now) id ≡ connection_left h (GivesUp lost now) id c listener
  left =
      let e : Event = GivesUp lost now in
      let under = left_under (IsOneEvent h e) (one_id h e) id 0 h.last_id h.entries (let w = after_giving_up h lost now in w.entries) (given_up_once h lost now) o.ids (connected id c listener) is in
      under.2 ∙ under.1

  -- its hop is known
  pub hop_known : lost c.peer.addr ≡ false → entry_of (after_giving_up h lost now) id ≡ Some (connected id c listener)
  hop_known reached =
      left ∙ by_test c.owes_reset
      (λ owes. by_test (has_come (Some (after c.since 3000)) (later_moment h now)) (λ over. rw (owes, over, reached) refl) (λ waits. rw (owes, waits) refl))
      (λ other. rw (other, reached) refl)

  -- nothing waits, or not so long
  stays_by : c.owes_reset ≡ false → (edge.after_event c (edge.LosesHop (later_moment h now)) ≡ c) × (edge.fate_by c (edge.LosesHop (later_moment h now)) ≡ Stays) → entry_of (after_giving_up h lost now) id ≡ Some (connected id c listener)
  stays_by other step =
      left ∙ by_test (is_hopless lost c)
      (λ hopless. let kept : is_kept (edge.fate_by c (edge.LosesHop (later_moment h now))) ≡ true = ap is_kept step.1 in
      let goes : connection_left h (GivesUp lost now) id c listener ≡ Some (connected id (edge.after_event c (edge.LosesHop (later_moment h now))) listener) = rw (hopless, other, kept) refl in
      goes ∙ ap (λ (d : View). Some (connected id d listener)) step.0)
      (λ rests. rw (rests, other) refl)

  pub hop_idle : c.owes_reset ≡ false → c.unheard ≡ None → entry_of (after_giving_up h lost now) id ≡ Some (connected id c listener)
  hop_idle other none = stays_by other (hop_unneeded c (later_moment h now) none)

  pub hop_early : (since : Moment) → c.owes_reset ≡ false → c.unheard ≡ Some since → (c.passive && is_syn_received c.state) ≡ false → (let later = later_moment h now in later.0) < (let end = after since 483000 in end.0)
      → entry_of (after_giving_up h lost now) id ≡ Some (connected id c listener)
  hop_early since other waits past early = stays_by other (hop_awaited c since (later_moment h now) past waits early)

  pub half_open_early : (since : Moment) → c.owes_reset ≡ false → c.unheard ≡ Some since → (c.passive && is_syn_received c.state) ≡ true → (let later = later_moment h now in later.0) < (let end = after since 3000 in end.0)
      → entry_of (after_giving_up h lost now) id ≡ Some (connected id c listener)
  half_open_early since other waits opens early = stays_by other (listener_awaits c since (later_moment h now) opens waits early)

  -- it is over
  module _ (sound : IsSoundTable h) (keeps : EachKeepsTime h) (hopless : is_hopless lost c ≡ true) where
    solid : IsSoundRole (Connected c listener)
    solid = all-found (λ (x : Entry). IsSoundRole x.role) (has_id id) h.entries (connected id c listener) sound.entries is

    timed : KeepsTimeIn (Connected c listener)
    timed = all-found (λ (x : Entry). KeepsTimeIn x.role) (has_id id) h.entries (connected id c listener) keeps is

    unowing : c.owes_reset ≡ false
    unowing = by_test c.owes_reset (λ owes. let bad : is_hopless lost c ≡ false = rw owes refl in cc) (λ other. other)

    taken_out : edge.fate_by c (edge.LosesHop (later_moment h now)) ≡ Removed → entry_of (after_giving_up h lost now) id ≡ None
    taken_out gone = let out : is_kept (edge.fate_by c (edge.LosesHop (later_moment h now))) ≡ false = ap is_kept gone in left ∙ rw (hopless, unowing, out) refl

    pub hop_told : (since : Moment) → c.unheard ≡ Some since → (c.passive && is_syn_received c.state) ≡ false → c.released ≡ false → (let end = after since 483000 in end.0) ≤ (let later = later_moment h now in later.0)
        → (d : View) × (entry_of (after_giving_up h lost now) id ≡ Some (connected id d listener)) × IsGivenUp d
    hop_told since waits past held over =
        let step = hop_given_up c since (later_moment h now) solid.sound timed.0 past waits over in
        let kept : is_kept (edge.fate_by c (edge.LosesHop (later_moment h now))) ≡ true = ap is_kept (step.1 ∙ ap (λ (b : Bool). if b then Removed else Stays) held) in
        (edge.after_event c (edge.LosesHop (later_moment h now)), left ∙ rw (hopless, unowing, kept) refl, step.0)

    pub hop_left : (since : Moment) → c.unheard ≡ Some since → (c.passive && is_syn_received c.state) ≡ false → c.released ≡ true → (let end = after since 483000 in end.0) ≤ (let later = later_moment h now in later.0) → entry_of (after_giving_up h lost now) id ≡ None
    hop_left since waits past gone over = taken_out ((hop_given_up c since (later_moment h now) solid.sound timed.0 past waits over).1 ∙ ap (λ (b : Bool). if b then Removed else Stays) gone)

    pub half_open_ends : (since : Moment) → c.unheard ≡ Some since → (c.passive && is_syn_received c.state) ≡ true → (let end = after since 3000 in end.0) ≤ (let later = later_moment h now in later.0) → entry_of (after_giving_up h lost now) id ≡ None
    half_open_ends since waits opens over = taken_out ((listener_gives_up c since (later_moment h now) solid.sound timed.0 opens waits over).1)

-- no wait for a hop ends later than so long past the latest moment told
pub hop_near : (c : View) (latest until : Moment) → IsNear latest c → unheard_until c ≡ Some until → until.0 ≤ latest.0 + 483000
hop_near c latest until near is = by_wait c.unheard refl is
  where
    bounded : (b : Bool) (since : Moment) → since.0 ≤ latest.0 → end_of_hop_wait (Some since) (if b then 3000 else 483000) ≡ Some until → until.0 ≤ latest.0 + 483000
    bounded true since began over = let same : after since 3000 ≡ until = cc in let at_end : (let end = after since 3000 in end.0) ≡ until.0 = ap (λ (m : Moment). m.0) same in omega (arith, at_end, began)
    bounded false since began over = let same : after since 483000 ≡ until = cc in let at_end : (let end = after since 483000 in end.0) ≡ until.0 = ap (λ (m : Moment). m.0) same in omega (arith, at_end, began)

    by_wait : (w : Option Moment) → c.unheard ≡ w → end_of_hop_wait c.unheard (hop_wait c) ≡ Some until → until.0 ≤ latest.0 + 483000
    by_wait None was over = let bad : end_of_hop_wait c.unheard (hop_wait c) ≡ None = rw was refl in cc
    by_wait (Some since) was over = bounded (c.passive && is_syn_received c.state) since (near.unheard since was) (rw was at over)

-- the deadline of an entry is the end of that wait, or of that of a reset
pub hop_deadline : (lost : Addr → Bool) (c : View) (listener : Option SocketId) (since : Moment) → c.owes_reset ≡ false → c.unheard ≡ Some since → lost c.peer.addr ≡ true
    → give_up_at lost (Connected c listener) ≡ Some (after since (if c.passive && is_syn_received c.state then 3000 else 483000))
hop_deadline lost c listener since other waits unreached = rw (other, unreached) (ap (λ (o : Option Moment). end_of_hop_wait o (hop_wait c)) waits)

pub reset_deadline : (lost : Addr → Bool) (c : View) (listener : Option SocketId) → c.owes_reset ≡ true → lost c.peer.addr ≡ true → give_up_at lost (Connected c listener) ≡ Some (after c.since 3000)
reset_deadline lost c listener owes unreached = rw (owes, unreached) refl
