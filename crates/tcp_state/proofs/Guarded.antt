-- What guards a connection against segments that aren't used.
use Rattle.std.proofs.Common.{◌≡◌, ℕ, ◌+◌, ◌-◌, ◌%◌, ◌^◌, ◌<◌, ◌≤◌, ◌⊎◌, ◌==◌, ◌&&◌, ◌||◌, not, nat_lt, if◌then◌else◌, Bool, true, false, length, inl, inr, arith, refl, sym, ◌∙◌, ap, ap₂}
use Rattle.std.proofs.lemmas.Bool.{le-ltb, lt-leb}
use Rattle.clock.specs.declared.moment.Moment.{Moment}
use Rattle.tcp_state.specs.declared.arrival.Before.{Before}
use Rattle.tcp_state.specs.declared.guard.Guard.{Guard}
use Rattle.tcp_state.specs.declared.guard.TheConstants.{MOST_DRAWN, SECOND}
use Rattle.tcp_state.specs.Guard.{counting_at, is_spent, guard_after}
use Rattle.tcp_halves.specs.Stream.{outstanding, is_in_window, stands_before}
use Rattle.tcp_state.specs.Resend.{mark_past}
use Rattle.tcp_segment.specs.Wire.{past}
use Rattle.tcp_segment.specs.Segment.{Segment, span_of}
use Rattle.tcp_halves.specs.Numbers.{is_before}
use Rattle.tcp_halves.proofs.Choices.{either, and_left, and_right, and_false}
use Rattle.tcp_state.specs.declared.state.State.{State}
use Rattle.tcp_state.specs.declared.state.State.TheVariants.{SynSent, SynReceived}
use Rattle.tcp_state.specs.View.{View, is_opening, is_syn_sent, is_syn_received, is_closed}
use Rattle.tcp_state.specs.Arrival.{is_acceptable_to, is_acting_reset, ends_by_syn, is_too_old, is_off, is_read_on, asks, is_unused, draws_one, is_opening_syn, owes_answer, is_held_back, guarded, before, timed_by, resend_left, is_receiving, after_ack, after_window, after_text, after_heard}
use Rattle.tcp_state.proofs.Segments.{IsRead, by_ack, by_fin, by_hearing}

-- an acknowledgement of what was sent that isn't older than the largest window is wide
young : (v : View) (ack : ℕ) → past v.sending.una ack ≤ v.sending.max_window → is_too_old v ack ≡ false
young v ack near = ap (λ b. v.guard.on && b) (le-ltb v.sending.max_window (past v.sending.una ack) near) ∙ and_false v.guard.on

pub in_reach : (v : View) (ack : ℕ) → is_before v.sending.nxt ack ≡ false → past v.sending.una ack ≤ v.sending.max_window → is_off v ack ≡ false
in_reach v ack sent near = ap (λ b. b || is_too_old v ack) sent ∙ young v ack near

-- what a listener's connection takes as its SYN comes while it opens
received_opens : (t : State) → is_syn_received t ≡ true → is_opening t ≡ true
received_opens SynReceived e = refl
received_opens _ e = cc

pub opening_syn_received : (v : View) (s : Segment) → is_opening_syn v s ≡ true → is_syn_received v.state ≡ true
opening_syn_received v s e =
    let one = v.passive && is_syn_received v.state in
    let two = one && s.flags.syn in
    let three = two && not s.flags.ack in
    let four = three && not s.flags.rst in
    let five = four && not (is_acceptable_to v s) in
    and_right v.passive (is_syn_received v.state) (and_left one s.flags.syn (and_left two (not s.flags.ack) (and_left three (not s.flags.rst) (and_left four (not (is_acceptable_to v s)) (and_left five _ e)))))

pub opening_syn_opens : (v : View) (s : Segment) → is_opening_syn v s ≡ true → is_opening v.state ≡ true
opening_syn_opens v s e = received_opens v.state (opening_syn_received v s e)

-- a segment leaves what is kept of others, but for the clock
pub heard_guard : (v : View) (s : Segment) → (after_heard v s).guard ≡ v.guard
heard_guard v s =
    let P : View → Type 0 = λ w. w.guard ≡ v.guard in
    let acked : P (after_ack v s.acknowledgement) = by_ack P v s.acknowledgement (record { old = refl; beyond = refl; opens = λ received new. refl; octets = λ new. refl; fin = λ new fin. refl }) in
    let told = after_window (after_ack v s.acknowledgement) s in
    let text : P (after_text told s) = either View P ((length s.octets == 0) || not (is_receiving told.state)) told _ (λ none. acked) (λ some. acked) in
    by_hearing P v s acked (record {
      dropped = refl;
      drawn = refl;
      reset = λ acts. refl;
      crossed = λ waits. refl;
      opened = λ waits right. refl;
      acknowledged = λ taken. acked;
      read = λ on. by_fin P (after_text told s) s (λ counts. text) text text;
    })

-- Past the opening no SYN is answered again, so that what goes out again stays what it was.
pub without_syn : (v : View) (s : Segment) → (is_syn_received v.state ≡ false) ⊎ (s.flags.syn ≡ false) → (v.guard.on && is_opening_syn v s) ≡ false
without_syn v s (inl past) =
    ap (λ r. v.guard.on && (v.passive && r && s.flags.syn && not s.flags.ack && not s.flags.rst && not (is_acceptable_to v s) && ((s.number + 1) % 2 ^ 32 == v.receiving.rnext))) past
    ∙ (ap (λ b. v.guard.on && (b && s.flags.syn && not s.flags.ack && not s.flags.rst && not (is_acceptable_to v s) && ((s.number + 1) % 2 ^ 32 == v.receiving.rnext))) (and_false v.passive) ∙ and_false v.guard.on)
without_syn v s (inr none) =
    ap (λ y. v.guard.on && (v.passive && is_syn_received v.state && y && not s.flags.ack && not s.flags.rst && not (is_acceptable_to v s) && ((s.number + 1) % 2 ^ 32 == v.receiving.rnext))) none
    ∙ (ap (λ b. v.guard.on && (b && not s.flags.ack && not s.flags.rst && not (is_acceptable_to v s) && ((s.number + 1) % 2 ^ 32 == v.receiving.rnext))) (and_false (v.passive && is_syn_received v.state)) ∙ and_false v.guard.on)

pub kept_mark : (v : View) (s : Segment) (w : View) (now : Moment) → (is_syn_received v.state ≡ false) ⊎ (s.flags.syn ≡ false) → (timed_by (before v s) w now).resend.mark ≡ (resend_left (before v s) w now).mark
kept_mark v s w now none =
    ap (λ a. if a && not (is_held_back (before v s) w now) then mark_past 0 (outstanding w.sending) else (resend_left (before v s) w now).mark) (without_syn v s none)

-- a segment that is read draws nothing that may be held back
pub read_is_used : (v : View) (s : Segment) → IsRead v s → is_unused v s ≡ false
read_is_used v s r =
    let last = s.flags.ack && not (is_syn_received v.state) in
    ap (λ b. if b then not (is_acting_reset v s) && is_in_window v.receiving s.number else if not (is_acceptable_to v s) then true else if s.flags.syn then not (ends_by_syn v s) else last && not (is_read_on v s.acknowledgement)) r.no_rst
    ∙ (ap (λ b. if not b then true else if s.flags.syn then not (ends_by_syn v s) else last && not (is_read_on v s.acknowledgement)) r.accepted
    ∙ (ap (λ b. if b then not (ends_by_syn v s) else last && not (is_read_on v s.acknowledgement)) r.no_syn
    ∙ (ap (λ b. last && not b) r.on ∙ and_false last)))

-- What asks for no acknowledgement: what brings octets or a FIN, what stands at RCV.NXT, and what comes in the opening.
or_false : (b : Bool) → (b || false) ≡ b
or_false true = refl
or_false false = refl

pub filled_asks_none : (v : View) (s : Segment) → (span_of s == 0) ≡ false → asks v s ≡ false
filled_asks_none v s some =
    let one = not s.flags.rst && not (is_opening v.state) in
    ap (λ b. one && b && stands_before v.receiving s.number) some ∙ ap (λ b. b && stands_before v.receiving s.number) (and_false one)

pub next_asks_none : (v : View) (s : Segment) → v.receiving.rnext < 2 ^ 32 → s.number ≡ v.receiving.rnext → asks v s ≡ false
next_asks_none v s small same =
    let one = not s.flags.rst && not (is_opening v.state) && (span_of s == 0) in
    let none : past v.receiving.rnext s.number ≡ 0 = omega (arith, small, same) in
    ap (λ n. one && (n == 1)) none ∙ and_false one

pub opening_asks_none : (v : View) (s : Segment) → is_opening v.state ≡ true → asks v s ≡ false
opening_asks_none v s opens =
    ap (λ b. not s.flags.rst && not b && (span_of s == 0) && stands_before v.receiving s.number) opens
    ∙ ap (λ b. b && (span_of s == 0) && stands_before v.receiving s.number) (and_false (not s.flags.rst))

pub no_answer : (b : Before) (w : View) → b.asks ≡ false → owes_answer b w ≡ w.owes_ack
no_answer b w unasked = ap (λ a. w.owes_ack || (a && not (is_syn_sent w.state || is_closed w.state))) unasked ∙ or_false w.owes_ack

pub read_draws_none : (v : View) (s : Segment) → IsRead v s → asks v s ≡ false → draws_one v s ≡ false
read_draws_none v s r unasked = let one = v.guard.on && not v.owes_ack && not (is_syn_sent v.state) in ap₂ (λ a b. one && (a || b)) (read_is_used v s r) unasked ∙ and_false one

pub owes_kept : (b : Before) (w : View) (now : Moment) → b.draws_one ≡ false → b.asks_again ≡ false → b.asks ≡ false → (timed_by b w now).owes_ack ≡ w.owes_ack
owes_kept b w now none quiet unasked = ap₂ (λ d a. if (d && is_spent w.guard now) || a then false else owes_answer b w) none quiet ∙ no_answer b w unasked

pub read_owes : (v : View) (s : Segment) (w : View) (now : Moment) → IsRead v s → asks v s ≡ false → (timed_by (before v s) w now).owes_ack ≡ w.owes_ack
read_owes v s w now r unasked = owes_kept (before v s) w now (read_draws_none v s r unasked) (without_syn v s (inr r.no_syn)) unasked

-- nor does one in SYN-SENT
pub sent_not_received : (t : State) → is_syn_sent t ≡ true → is_syn_received t ≡ false
sent_not_received SynSent e = refl
sent_not_received _ e = cc

sent_opens : (t : State) → is_syn_sent t ≡ true → is_opening t ≡ true
sent_opens SynSent e = refl
sent_opens _ e = cc

pub sent_draws_none : (v : View) (s : Segment) → is_syn_sent v.state ≡ true → draws_one v s ≡ false
sent_draws_none v s waits =
    let one = v.guard.on && not v.owes_ack in
    ap (λ b. one && not b && (is_unused v s || asks v s)) waits ∙ ap (λ b. b && (is_unused v s || asks v s)) (and_false one)

pub sent_owes : (v : View) (s : Segment) (w : View) (now : Moment) → is_syn_sent v.state ≡ true → (timed_by (before v s) w now).owes_ack ≡ w.owes_ack
sent_owes v s w now waits = owes_kept (before v s) w now (sent_draws_none v s waits) (without_syn v s (inl (sent_not_received v.state waits))) (opening_asks_none v s (sent_opens v.state waits))

-- as long as fewer than ten were drawn, none is held back
pub fresh_unspent : (g : Guard) (now : Moment) → g.drawn < MOST_DRAWN → is_spent g now ≡ false
fresh_unspent g now few = lt-leb MOST_DRAWN (counting_at g now) (either ℕ (λ n. n < MOST_DRAWN) (nat_lt (now.0 - g.latest.0) SECOND) g.drawn 0 (λ recent. few) (λ old. omega arith))

-- where none is owed and no SYN comes again, what is kept on guard is all that moves
same_false : (b : Bool) → (if b then false else false) ≡ false
same_false true = refl
same_false false = refl

pub guarded_quiet : (b : Before) (x : View) (now : Moment) → b.asks_again ≡ false → x.owes_ack ≡ false → b.asks ≡ false → guarded b x now ≡ record x { guard = guard_after x.guard b.draws_one now }
guarded_quiet b x now quiet none unasked =
    let held = is_held_back b x now in
    let guard = guard_after x.guard b.draws_one now in
    ap₂ (λ a o. record x { owes_ack = if held || a then false else o; resend = record x.resend { mark = if a && not held then mark_past 0 (outstanding x.sending) else x.resend.mark }; guard = guard }) quiet (no_answer b x unasked ∙ none)
    ∙ (ap (λ o. record x { owes_ack = o; guard = guard }) (same_false (held || false)) ∙ ap (λ o. record x { owes_ack = o; guard = guard }) (sym none))

-- what no listener opened answers no SYN again
pub active_asks_none : (v : View) (s : Segment) → v.passive ≡ false → (v.guard.on && is_opening_syn v s) ≡ false
active_asks_none v s active =
    ap (λ p. v.guard.on && (p && is_syn_received v.state && s.flags.syn && not s.flags.ack && not s.flags.rst && not (is_acceptable_to v s) && ((s.number + 1) % 2 ^ 32 == v.receiving.rnext))) active ∙ and_false v.guard.on
