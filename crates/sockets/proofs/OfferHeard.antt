-- What a segment makes of a connection that waits at a listener.
use Rattle.std.proofs.Common.{◌≡◌, ◌⊎◌, inl, inr, ℕ, ◌&&◌, ◌||◌, not, Bool, true, false, if◌then◌else◌, length, ◌==◌, Option, Some, refl, sym, ◌∙◌, arith}
use Rattle.std.proofs.lemmas.Bool.Decides.{nat_tests}
use Rattle.ipv4.specs.declared.addr.Endpoint.{Endpoint}
use Rattle.ipv4.specs.Addresses.{same_end}
use Rattle.tcp_segment.specs.Segment.{Segment}
use Rattle.clock.specs.declared.moment.Moment.{Moment}
use Rattle.tcp_state.specs.declared.state.State.{State}
use Rattle.tcp_state.specs.declared.state.State.TheVariants.{FinWait1, Closing, LastAck, Established, FinWait2}
use Rattle.tcp_state.specs.declared.connection.Fate.TheVariants.{Stays, Removed, Rejected}
use Rattle.tcp_state.specs.View.{View, is_syn_sent, is_syn_received, is_closed, is_over}
use Rattle.tcp_state.specs.Arrival.{is_receiving, beyond_fin, beyond_end, ends_by_syn, ends_by_reset, after_ack, after_window, after_text, after_segment, is_lost, after_lost, after_segment_at, is_rejected, ends_opening, fate}
use Rattle.tcp_halves.proofs.Choices.{either, and_left, and_right, and_false, not_true, clash}
use Rattle.tcp_state.proofs.Segments.{by_ack, by_fin, by_segment, by_clock}
use Rattle.sockets.specs.declared.entry.SocketId.{SocketId}
use Rattle.sockets.specs.declared.role.Role.{Role}
use Rattle.sockets.specs.declared.role.Role.TheVariants.{Connected}
use Rattle.sockets.specs.Entries.{is_live_between, is_kept, role_after_segment, fate_of, is_offered_by}
use Rattle.sockets.specs.Offered.{is_ready}
use Rattle.sockets.proofs.Followed.{by_test}
use Rattle.sockets.proofs.OfferRoles.{IsPlainView, IsPlain, is_waking, Carries, StaysReady, Later, IsLater, same, ended, GoesOn, goes-on, StaysOn, Waiting, carried-by, stays-by, gone-by}

-- States.

-- a state joins neither SYN-SENT nor SYN-RECEIVED
abbrev IsPast : State → State → Type 0
IsPast t u = (is_syn_sent t ≡ false → is_syn_sent u ≡ false) × (is_syn_received u ≡ true → is_syn_received t ≡ true)

-- an acknowledgement of our FIN leads to such states ..
past-fin : (t : State) → IsPast t (beyond_fin t)
past-fin FinWait1 = (λ e. e, λ e. e)
past-fin Closing = (λ e. e, λ e. e)
past-fin LastAck = (λ e. e, λ e. e)
past-fin _ = (λ e. e, λ e. e)

-- .. and so does the peer's FIN
past-end : (t : State) → IsPast t (beyond_end t)
past-end Established = (λ e. e, λ e. e)
past-end FinWait1 = (λ e. e, λ e. e)
past-end FinWait2 = (λ e. e, λ e. e)
past-end _ = (λ e. e, λ e. e)

-- a connection that joins such a state
moves : (v w : View) (t : State) → IsLater v w → IsPast w.state t → Later v w.passive w.released w.owes_reset t
moves v w t a b = record { passive = a.passive; released = a.released; owes = a.owes; sent = λ e. b.0 (a.sent e); received = λ e. a.received (b.1 e) }

-- A segment.

-- an acknowledgement ..
acknowledged : (v : View) (ack : ℕ) → IsLater v (after_ack v ack)
acknowledged v ack = by_ack (IsLater v) v ack (record {
  old = same v;
  beyond = same v;
  opens = λ received new. moves v v Established (same v) (λ e. refl, λ e. cc);
  octets = λ new. same v;
  fin = λ new fin. moves v v (beyond_fin v.state) (same v) (past-fin v.state);
})

-- .. and a whole segment leave a connection as it waits
heard : (v : View) (s : Segment) → is_syn_sent v.state ≡ false → IsLater v (after_segment v s)
heard v s past = by_segment (IsLater v) v s (record {
  dropped = same v;
  drawn = same v;
  reset = λ acts. ended v;
  crossed = λ waits. clash (is_syn_sent v.state) waits past;
  opened = λ waits right. clash (is_syn_sent v.state) waits past;
  acknowledged = λ taken. acked;
  read = λ on. by_fin (IsLater v) text s (λ counts. moves v text (beyond_end text.state) read (past-end text.state)) read read;
})
  where
    told : View
    told = after_window (after_ack v s.acknowledgement) s

    text : View
    text = after_text told s

    acked : IsLater v (after_ack v s.acknowledgement)
    acked = acknowledged v s.acknowledgement

    read : IsLater v text
    read = either View (IsLater v) ((length s.octets == 0) || not (is_receiving told.state)) told _ (λ none. acked) (λ some. acked)

-- one that waits and is not CLOSED is not left
held : (c : View) → IsPlainView c → is_closed c.state ≡ false → c.released ≡ false
held c p live = by_test c.released (λ left. clash (is_closed c.state) (p.left left) live) (λ h. h)

-- so it goes on to wait
heard-on : (c : View) (s : Segment) (now : Moment) → IsPlainView c → is_closed c.state ≡ false → GoesOn c (after_segment_at c s now)
heard-on c s now p live =
    goes-on c (after_segment_at c s now)
    (by_clock (IsLater c) c s now (same c) (λ lives. either View (IsLater c) (is_lost c s) (after_lost c s) (after_segment c s) (λ lost. clash (is_lost c s) lost (rw (held c p live))) (λ kept. heard c s p.sent)))
    (λ left. clash c.released left (held c p live)) p

-- the connection of a segment is not CLOSED
live-one : (local peer : Endpoint) (c : View) (l : Option SocketId) → is_live_between local peer (Connected c l) ≡ true → is_closed c.state ≡ false
live-one local peer c l live = not_true (is_closed c.state) (and_left (not (is_closed c.state)) (same_end c.local local && same_end c.peer peer) live)

-- where it is not offered by that, it is ready as it was ..
pub heard-stays : (now : Moment) (s : Segment) (local peer : Endpoint) (r : Role) → is_live_between local peer r ≡ true → is_kept (fate_of s r) ≡ true → is_offered_by now s r ≡ false → IsPlain r → StaysReady r (role_after_segment now s r)
heard-stays now s local peer r live kept none p = stays-by (λ c. after_segment_at c s now) r stays p
  where
    received : (before kept after : Bool) → (after ≡ true → before ≡ true) → kept ≡ true → (before && kept && not after) ≡ false → after ≡ before
    received before kept after back stays none = grind (arith, nat_tests)

    stays : Waiting (λ c. StaysOn c (after_segment_at c s now)) r
    stays c l is q =
        let on = heard-on c s now q (live-one local peer c (Some l) (rw is at live)) in (on, received _ (is_kept (fate c s)) _ on.later.received (rw is at kept) (rw is at none))

-- .. and however it is, it waits nowhere else
pub heard-carries : (now : Moment) (s : Segment) (local peer : Endpoint) (r : Role) → is_live_between local peer r ≡ true → IsPlain r → Carries r (role_after_segment now s r)
heard-carries now s local peer r live p = carried-by (λ c. after_segment_at c s now) r (λ c l is q. heard-on c s now q (live-one local peer c (Some l) (rw is at live))) p

-- what passes SYN-RECEIVED was in it, and is ready then
pub offered-waking : (now : Moment) (s : Segment) (r : Role) → is_offered_by now s r ≡ true → is_waking r ≡ true
offered-waking now s r offered = and_left _ _ (and_left _ _ offered)

pub offered-kept : (now : Moment) (s : Segment) (r : Role) → is_offered_by now s r ≡ true → is_kept (fate_of s r) ≡ true
offered-kept now s r offered = and_right _ _ (and_left _ _ offered)

pub offered-ready : (now : Moment) (s : Segment) (local peer : Endpoint) (r : Role) → is_live_between local peer r ≡ true → is_offered_by now s r ≡ true → IsPlain r → is_ready (role_after_segment now s r) ≡ true
offered-ready now s local peer (Connected c (Some l)) live offered p =
    let lives = live-one local peer c (Some l) live in
    let on = heard-on c s now p lives in
    ready (after_segment_at c s now) (on.later.released ∙ held c p lives) (not_true _ (and_right _ _ offered))
  where
    ready : (d : View) → d.released ≡ false → is_syn_received d.state ≡ false → is_ready (Connected d (Some l)) ≡ true
    ready d kept past = rw (kept, past)
offered-ready now s local peer r live offered p = cc

-- Taken out is one in SYN-RECEIVED.

-- what is taken out is over, or its opening ends
gone-tests : (a o r e : Bool) → is_kept (if a then Stays else if o then Removed else if r then Rejected else if e then Removed else Stays) ≡ false → (o ≡ true) ⊎ (e ≡ true)
gone-tests a o r e g = grind (arith, nat_tests)

pub heard-gone : (s : Segment) (r : Role) → is_kept (fate_of s r) ≡ false → IsPlain r → is_ready r ≡ false
heard-gone s r gone p = gone-by r unready p
  where
    unready : Waiting (λ c. (not c.released && not (is_syn_received c.state)) ≡ false) r
    unready c l is q = elim (gone-tests (is_closed c.state || is_lost c s) (is_over (after_segment c s)) (is_rejected c s) (ends_opening c s) (rw is at gone)) [
      | inl over ↦ let left : c.released ≡ true = sym (heard c s q.sent).released ∙ and_right _ _ (and_left _ _ over) in rw left
      | inr ends ↦ let received : is_syn_received c.state ≡ true = opening c s.flags.rst (and_right _ _ ends) in rw received (and_false (not c.released))
    ]
      where
        opening : (c : View) (rst : Bool) → (if rst then ends_by_reset c s else ends_by_syn c s) ≡ true → is_syn_received c.state ≡ true
        opening c true ends = and_right _ _ ends
        opening c false ends = and_right _ _ ends
