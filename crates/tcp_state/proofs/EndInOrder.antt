-- Why a FIN counts exactly where it stands next, and the states go by the two ends.
use Rattle.std.proofs.Common.{◌≡◌, ℕ, suc, ◌+◌, ◌-◌, ◌%◌, ◌^◌, ◌<◌, ◌≤◌, ◌==◌, ◌||◌, ◌&&◌, not, nat_lt, nat_le, if◌then◌else◌, Bool, true, false, List, length, length-append, inl, inr, arith, refl, sym, ◌∙◌, ap, subst}
use Rattle.std.proofs.lemmas.Bool.{eqb-true, eq-eqb, ltb-true, leb-true, lt-ltb, lt-leb}
use Rattle.std.proofs.lemmas.Bool.Decides.{leb_tells, eqb_tells}
use Rattle.tcp_segment.specs.Wire.{wire, past}
use Rattle.tcp_segment.specs.Segment.{Segment}
use Rattle.clock.specs.declared.moment.Moment.{Moment}
use Rattle.tcp_state.specs.declared.state.State.{State}
use Rattle.tcp_state.specs.declared.state.State.TheVariants.{SynReceived, Established, FinWait1, FinWait2, Closing, LastAck}
use Rattle.tcp_halves.specs.Halves.{Receiving}
use Rattle.tcp_halves.specs.Stream.{outstanding, is_new_ack, receive_window, buffer_of, distance_of, octets_within, octets_gained, after_octets, after_end, is_in_window}
use Rattle.tcp_state.specs.View.{View, IsSound, is_syn_sent, is_syn_received, awaits_fin_ack, is_closed, after_reset}
use Rattle.tcp_state.specs.Arrival.{owing_ack, reset_error, after_rst_in_syn_sent, after_rst, is_acceptable_to, ends_by_syn, is_acting_reset, ends_by_reset, after_establishment, is_of_fin, beyond_fin, fin_acknowledged, after_new_ack, is_off, after_ack, is_read_on, is_read, after_window, is_receiving, after_text, beyond_end, counts_fin, after_acknowledging_segment, after_acceptable_segment, after_segment, is_lost, after_lost, is_rejected, before, timed_by, after_segment_at}
use Rattle.tcp_state.specs.Duties.{Places, StandsAt, acknowledges, is_aged, is_in_reach, may_bring, is_used, comes_too_late, acknowledges_end, ends_stream, state_beyond}
use Rattle.tcp_halves.proofs.Choices.{either, by, clash, and_left, and_right, and_false, neither}
use Rattle.tcp_halves.proofs.Keeping.{IsKeeping, inserted_readable, gained_fits}
use Rattle.tcp_state.proofs.Segments.{after_reading, ack_receives, by_clock, read_tells, reads}
use Rattle.tcp_state.proofs.Clocked.{comes_to}
use Rattle.tcp_state.proofs.Unchanged.{unsent}
use Rattle.tcp_state.proofs.Positions.{window_at}
use Rattle.tcp_state.proofs.Sound.{sound_keeping}
use Rattle.tcp_state.proofs.Freed.{named_past}
use Rattle.tcp_state.proofs.Standing.{ack_stands}
use Rattle.tcp_state.proofs.Used.{read_as_used}
use Rattle.tcp_state.proofs.TooLate.{lost_as_late}
use Rattle.tcp_state.proofs.AckAnswers.{not_on, on_new}

-- The octets.

-- so many became readable, and RCV.NXT moved over them
record Grows (r t : Receiving) : Type 0 where
  pub by : ℕ
  pub readable : length t.readable ≡ length r.readable + by
  pub rnext : t.rnext ≡ (r.rnext + by) % 2 ^ 32
  pub edge : t.edge ≡ r.edge
  pub within : by ≤ receive_window r

rests : (r : Receiving) → r.rnext < 2 ^ 32 → Grows r r
rests r small = record { by = 0; readable = omega arith; rnext = omega (arith, small); edge = refl; within = omega arith }

grows : (r : Receiving) (number : ℕ) (octets : List ℕ) → IsKeeping r → Grows r (after_octets r number octets)
grows r number octets is =
    let gained = octets_gained r number octets in
    record {
      by = length gained;
      readable = ap length (inserted_readable (buffer_of r) (distance_of r number) (octets_within r number octets)) ∙ length-append r.readable gained;
      rnext = refl;
      edge = refl;
      within = gained_fits r number octets is;
    }

text_grows : (v w : View) (s : Segment) → IsKeeping v.receiving → w.receiving ≡ v.receiving → Grows v.receiving (after_text w s).receiving
text_grows v w s is same =
    either View (λ x. Grows v.receiving x.receiving) ((length s.octets == 0) || not (is_receiving w.state)) w _
    (λ none. subst (Grows v.receiving) (sym same) (rests v.receiving is.small))
    (λ some. subst (λ t. Grows v.receiving (after_octets t s.number s.octets)) (sym same) (grows v.receiving s.number s.octets is))

text_state : (w : View) (s : Segment) → (after_text w s).state ≡ w.state
text_state w s = either View (λ x. x.state ≡ w.state) ((length s.octets == 0) || not (is_receiving w.state)) w _ (λ none. refl) (λ some. refl)

-- The FIN.

fin_made : (counts draws : Bool) (x : View)
    → (let y = if counts then record x { state = beyond_end x.state; receiving = after_end x.receiving; owes_ack = true } else if draws then owing_ack x else x in
    (y.state ≡ (if counts then beyond_end x.state else x.state)) × (y.receiving.rnext ≡ (if counts then (x.receiving.rnext + 1) % 2 ^ 32 else x.receiving.rnext)) × (y.receiving.readable ≡ x.receiving.readable))
fin_made true draws x = (refl, refl, refl)
fin_made false true x = (refl, refl, refl)
fin_made false false x = (refl, refl, refl)

-- its number is that of RCV.NXT exactly where the positions are the same
same_number : (peer next first len by : ℕ) → next < first + 2 ^ 31 → first + len < next + 2 ^ 31 → by < 2 ^ 31 → (wire peer first + len) % 2 ^ 32 ≡ (wire peer next + by) % 2 ^ 32 → first + len ≡ next + by
same_number peer next first len by behind ahead small same = omega (arith, behind, ahead, small, same)

same_place : (peer next first len by : ℕ) → first + len ≡ next + by → (wire peer first + len) % 2 ^ 32 ≡ (wire peer next + by) % 2 ^ 32
same_place peer next first len by same = omega (arith, same)

next_tells : (peer next first len by : ℕ) → next < first + 2 ^ 31 → first + len < next + 2 ^ 31 → by < 2 ^ 31 → ((wire peer first + len) % 2 ^ 32 == (wire peer next + by) % 2 ^ 32) ≡ (first + len == next + by)
next_tells peer next first len by behind ahead small =
    elim (eqb_tells (first + len) (next + by)) [
      | inl same ↦ eq-eqb ((wire peer first + len) % 2 ^ 32) ((wire peer next + by) % 2 ^ 32) (same_place peer next first len by same.1) ∙ sym same.0
      | inr other ↦ apart ((wire peer first + len) % 2 ^ 32 == (wire peer next + by) % 2 ^ 32)
          (λ same. other.1 (same_number peer next first len by behind ahead small (eqb-true ((wire peer first + len) % 2 ^ 32) ((wire peer next + by) % 2 ^ 32) same))) ∙ sym other.0
    ]
  where
    apart : (b : Bool) → (b ≡ true → ⊥) → b ≡ false
    apart true not_so = absurd (not_so refl)
    apart false not_so = refl

-- .. and the window has room exactly where the edge is past it
window_left : (peer next edge by : ℕ) → next + by ≤ edge → edge < next + 2 ^ 31 → past (wire peer edge) ((wire peer next + by) % 2 ^ 32) ≡ edge - (next + by)
window_left peer next edge by within near = omega (arith, within, near)

room_tells : (peer next edge by : ℕ) → next + by ≤ edge → edge < next + 2 ^ 31 → nat_lt 0 (past (wire peer edge) ((wire peer next + by) % 2 ^ 32)) ≡ nat_lt (next + by) edge
room_tells peer next edge by within near =
    ap (nat_lt 0) (window_left peer next edge by within near)
    ∙ elim (leb_tells edge (next + by)) [
      | inl none ↦ lt-leb 1 (edge - (next + by)) (omega (arith, none.1)) ∙ sym (lt-leb (suc (next + by)) edge (omega (arith, none.1)))
      | inr some ↦ lt-ltb 0 (edge - (next + by)) (omega (arith, some.1)) ∙ sym (lt-ltb (next + by) edge some.1)
    ]

regrouped : (a b c : Bool) → (a && (b && c)) ≡ (a && b && c)
regrouped true b c = refl
regrouped false b c = refl

-- a segment's octets came, and then its FIN
counts_as_ends : (at : Places) (v x : View) (s : Segment) → StandsAt at v s → (g : Grows v.receiving x.receiving) → is_receiving x.state ≡ may_bring v.state → counts_fin x s ≡ ends_stream at v s g.by
counts_as_ends at v x s stands g receives =
    let window : receive_window v.receiving ≡ at.edge - at.next = window_at at.peer at.next at.edge v.receiving stands.receives in
    let within : at.next + g.by ≤ at.edge = fits at.next at.edge g.by (receive_window v.receiving) window g.within stands.receives.order in
    let near : at.edge < at.next + 2 ^ 31 = stands.receives.near in
    let rnext : x.receiving.rnext ≡ (wire at.peer at.next + g.by) % 2 ^ 32 = g.rnext ∙ ap (λ n. (n + g.by) % 2 ^ 32) stands.receives.next_number in
    let edge : x.receiving.edge ≡ wire at.peer at.edge = g.edge ∙ stands.receives.edge_number in
    let end = (s.number + length s.octets) % 2 ^ 32 in
    ap (λ b. s.flags.fin && b && ((end == x.receiving.rnext) && nat_lt 0 (past x.receiving.edge x.receiving.rnext))) receives
    ∙ (ap (λ n. s.flags.fin && may_bring v.state && ((end == n) && nat_lt 0 (past x.receiving.edge n))) rnext
    ∙ (ap (λ n. s.flags.fin && may_bring v.state && ((end == (wire at.peer at.next + g.by) % 2 ^ 32) && nat_lt 0 (past n ((wire at.peer at.next + g.by) % 2 ^ 32)))) edge
    ∙ (ap (λ n. s.flags.fin && may_bring v.state && (((n + length s.octets) % 2 ^ 32 == (wire at.peer at.next + g.by) % 2 ^ 32) && nat_lt 0 (past (wire at.peer at.edge) ((wire at.peer at.next + g.by) % 2 ^ 32)))) stands.first_number
    ∙ (ap (λ b. s.flags.fin && may_bring v.state && (b && nat_lt 0 (past (wire at.peer at.edge) ((wire at.peer at.next + g.by) % 2 ^ 32))))
    (next_tells at.peer at.next at.first (length s.octets) g.by stands.first_near.behind stands.first_near.ahead (few at.next at.edge g.by within near))
    ∙ (ap (λ b. s.flags.fin && may_bring v.state && ((at.first + length s.octets == at.next + g.by) && b)) (room_tells at.peer at.next at.edge g.by within near)
    ∙ regrouped (s.flags.fin && may_bring v.state) (at.first + length s.octets == at.next + g.by) (nat_lt (at.next + g.by) at.edge))))))
  where
    fits : (next edge by window : ℕ) → window ≡ edge - next → by ≤ window → next ≤ edge → next + by ≤ edge
    fits next edge by window is within order = omega (arith, is, within, order)

    few : (next edge by : ℕ) → next + by ≤ edge → edge < next + 2 ^ 31 → by < 2 ^ 31
    few next edge by within near = omega (arith, within, near)

-- The states.

-- by an acknowledgement, of our FIN or not
stays : (t : State) (ours : Bool) → is_syn_received t ≡ false → (awaits_fin_ack t && ours) ≡ false → t ≡ state_beyond t ours false
stays SynReceived ours e f = cc
stays FinWait1 true e f = cc
stays FinWait1 false e f = refl
stays Closing true e f = cc
stays Closing false e f = refl
stays LastAck true e f = cc
stays LastAck false e f = refl
stays _ ours e f = refl

moves : (t : State) (ours : Bool) → (awaits_fin_ack t && ours) ≡ true → beyond_fin t ≡ state_beyond t ours false
moves FinWait1 true e = refl
moves FinWait1 false e = cc
moves Closing true e = refl
moves Closing false e = cc
moves LastAck true e = refl
moves LastAck false e = cc
moves _ ours e = cc

opens : (t : State) (ours : Bool) → is_syn_received t ≡ true → Established ≡ state_beyond t ours false
opens SynReceived ours e = refl
opens _ ours e = cc

still_receives : (t : State) (ours : Bool) → is_receiving (state_beyond t ours false) ≡ may_bring t
still_receives FinWait1 true = refl
still_receives FinWait1 false = refl
still_receives Closing true = refl
still_receives Closing false = refl
still_receives LastAck true = refl
still_receives LastAck false = refl
still_receives _ ours = refl

-- and then by the peer's FIN
then_ends : (t : State) (ours ends : Bool) → (ends ≡ true → may_bring t ≡ true) → (if ends then beyond_end (state_beyond t ours false) else state_beyond t ours false) ≡ state_beyond t ours ends
then_ends t ours false may = refl
then_ends SynReceived ours true may = refl
then_ends Established ours true may = refl
then_ends FinWait1 true true may = refl
then_ends FinWait1 false true may = refl
then_ends FinWait2 ours true may = refl
then_ends _ ours true may = let bad = may refl in cc

-- the acknowledgement is past our FIN by number as by position
past_end : (una ack held distance : ℕ) → distance ≡ ack - una → una < ack → nat_lt held distance ≡ nat_lt (una + held) ack
past_end una ack held distance is above =
    elim (leb_tells ack (una + held)) [
      | inl short ↦ lt-leb (suc held) distance (omega (arith, is, above, short.1)) ∙ sym (lt-leb (suc (una + held)) ack (omega (arith, short.1)))
      | inr beyond ↦ lt-ltb held distance (omega (arith, is, above, beyond.1)) ∙ sym (lt-ltb (una + held) ack beyond.1)
    ]

none_past : (una ack held : ℕ) → ack ≤ una → nat_lt (una + held) ack ≡ false
none_past una ack held old = lt-leb (suc (una + held)) ack (omega (arith, old))

state_acked : (at : Places) (v : View) (s : Segment) → IsSound v → StandsAt at v s → is_used at v s ≡ true → is_read_on v s.acknowledgement ≡ true → (after_ack v s.acknowledgement).state ≡ state_beyond v.state (acknowledges_end at v) false
state_acked at v s sound stands used on =
    let ack = s.acknowledgement in
    let new = is_new_ack v.sending ack in
    let off = is_off v ack in
    let ours = acknowledges_end at v in
    let within = is_in_reach at v in
    let above = nat_lt at.una at.ack in
    let says : acknowledges v s ≡ true = and_left (acknowledges v s) within (and_left (acknowledges v s && within) (not (is_syn_received v.state) || above) used) in
    let order = ack_stands at v s sound stands (and_right _ s.flags.ack says) in
    let is_within : within ≡ true = and_right (acknowledges v s) within (and_left (acknowledges v s && within) (not (is_syn_received v.state) || above) used) in
    let P : View → Type 0 = λ w. w.state ≡ state_beyond v.state ours false in
    either View P (is_syn_received v.state) _ _
    (λ received. either View P new (after_establishment v) v
    (λ is. opens v.state ours received)
    (λ wrong. clash new (on_new (is_syn_received v.state) new off on received) wrong))
    (λ established. either View P new _ _
    (λ is.
    let is_above : above ≡ true = and_right within above (order.fresh ∙ is) in
    let higher : at.una < at.ack = ltb-true at.una at.ack is_above in
    let distance : past ack v.sending.una ≡ at.ack - at.una =
    named_past at.own at.una at.ack (outstanding v.sending) v.sending.una ack stands.una_number (stands.ack_number (and_right _ s.flags.ack says)) higher (leb-true at.ack (at.una + outstanding v.sending) (and_left (nat_le at.ack (at.una + outstanding v.sending)) (not (is_aged at v)) is_within)) (omega arith) in
    let same : nat_lt (length v.sending.held) (past ack v.sending.una) ≡ ours = past_end at.una at.ack (length v.sending.held) (past ack v.sending.una) distance higher in
    either View P (is_of_fin v ack) (fin_acknowledged (after_new_ack v ack)) (after_new_ack v ack)
    (λ fin. moves v.state ours (sym (ap (λ b. awaits_fin_ack v.state && b) same) ∙ fin))
    (λ octets. stays v.state ours established (sym (ap (λ b. awaits_fin_ack v.state && b) same) ∙ octets)))
    (λ old.
    let low : above ≡ false = sym (ap (λ b. b && above) is_within) ∙ (order.fresh ∙ old) in
    let none : ours ≡ false = none_past at.una at.ack (length v.sending.held) (lower at.una at.ack low) in
    let kept : (awaits_fin_ack v.state && ours) ≡ false = ap (λ b. awaits_fin_ack v.state && b) none ∙ and_false (awaits_fin_ack v.state) in
    either View P off (owing_ack v) v (λ ahead. stays v.state ours established kept) (λ sent. stays v.state ours established kept)))
  where
    lower : (una ack : ℕ) → nat_lt una ack ≡ false → ack ≤ una
    lower una ack e = elim (leb_tells (suc una) ack) [ inl t ↦ clash (nat_lt una ack) t.0 e | inr t ↦ omega (arith, t.1) ]

-- Together.

-- the state and RCV.NXT with so many octets come in order
abbrev MovesOn : Places → View → Segment → ℕ → View → Type 0
MovesOn at v s count w = (w.state ≡ state_beyond v.state (acknowledges_end at v) (ends_stream at v s count)) × (w.receiving.rnext ≡ wire at.peer (at.next + count + (if ends_stream at v s count then 1 else 0)))

stands_after : (ends : Bool) (peer next by number : ℕ) → number ≡ (wire peer next + by) % 2 ^ 32 → (if ends then (number + 1) % 2 ^ 32 else number) ≡ wire peer (next + by + (if ends then 1 else 0))
stands_after true peer next by number is = omega (arith, is)
stands_after false peer next by number is = omega (arith, is)

brings_where_ends : (at : Places) (v : View) (s : Segment) (count : ℕ) → ends_stream at v s count ≡ true → may_bring v.state ≡ true
brings_where_ends at v s count e =
    and_right s.flags.fin (may_bring v.state) (and_left (s.flags.fin && may_bring v.state) (at.first + length s.octets == at.next + count) (and_left (s.flags.fin && may_bring v.state && (at.first + length s.octets == at.next + count)) (nat_lt (at.next + count) at.edge) e))

reading_moves_on : (at : Places) (v : View) (s : Segment) → IsSound v → StandsAt at v s → is_used at v s ≡ true → is_read_on v s.acknowledgement ≡ true
    → MovesOn at v s (length (after_reading v s).receiving.readable - length v.receiving.readable) (after_reading v s)
reading_moves_on at v s sound stands used on =
    let told = after_window (after_ack v s.acknowledgement) s in
    let x = after_text told s in
    let y = after_reading v s in
    let g : Grows v.receiving x.receiving = text_grows v told s (sound_keeping v sound) (ack_receives v s.acknowledgement) in
    let ours = acknowledges_end at v in
    let state : x.state ≡ state_beyond v.state ours false = text_state told s ∙ state_acked at v s sound stands used on in
    let counts = counts_fin x s in
    let ends = ends_stream at v s g.by in
    let same : counts ≡ ends = counts_as_ends at v x s stands g (ap is_receiving state ∙ still_receives v.state ours) in
    let made = fin_made counts (s.flags.fin && is_receiving x.state) x in
    let rnext : x.receiving.rnext ≡ (wire at.peer at.next + g.by) % 2 ^ 32 = g.rnext ∙ ap (λ n. (n + g.by) % 2 ^ 32) stands.receives.next_number in
    let count : length y.receiving.readable - length v.receiving.readable ≡ g.by = counted (length v.receiving.readable) g.by (length y.receiving.readable) (ap length made.2 ∙ g.readable) in
    subst (λ n. MovesOn at v s n y) (sym count) (
      made.0 ∙ (ap (λ b. if b then beyond_end x.state else x.state) same ∙ (ap (λ t. if ends then beyond_end t else t) state ∙ then_ends v.state ours ends (brings_where_ends at v s g.by))),
      made.1 ∙ (ap (λ b. if b then (x.receiving.rnext + 1) % 2 ^ 32 else x.receiving.rnext) same ∙ stands_after ends at.peer at.next g.by x.receiving.rnext rnext),
    )
  where
    counted : (was by is : ℕ) → is ≡ was + by → is - was ≡ by
    counted was by is e = omega (arith, e)

pub used_moves_on : (at : Places) (v : View) (s : Segment) (now : Moment) → IsSound v → (is_syn_sent v.state || is_closed v.state) ≡ false → StandsAt at v s → is_used at v s ≡ true → comes_too_late at v s ≡ false
    → (let w = after_segment_at v s now in let count = length w.receiving.readable - length v.receiving.readable in
    (w.state ≡ state_beyond v.state (acknowledges_end at v) (ends_stream at v s count)) × (w.receiving.rnext ≡ wire at.peer (at.next + count + (if ends_stream at v s count then 1 else 0))))
used_moves_on at v s now sound open_yet stands used in_time =
    let lives = neither (is_syn_sent v.state) (is_closed v.state) open_yet in
    let read = read_tells v s (read_as_used at v s sound stands ∙ used) in
    let kept : is_lost v s ≡ false = lost_as_late at v s sound stands ∙ in_time in
    let new = is_new_ack v.sending s.acknowledgement in
    let taken : is_rejected v s ≡ false = by (is_rejected v s ≡ false) (is_rejected v s)
    (λ rejected. let u = unsent v s rejected in clash new (on_new (is_syn_received v.state) new (is_off v s.acknowledgement) read.on (u.received lives.0).0) u.old)
    (λ none. none) in
    let heard : after_segment_at v s now ≡ timed_by (before v s) (after_reading v s) now =
    comes_to v s now lives.1 taken ∙ (ap (λ b. timed_by (before v s) (if b then after_lost v s else after_segment v s) now) kept ∙ ap (λ w. timed_by (before v s) w now) (reads v s lives.1 lives.0 read)) in
    let m = reading_moves_on at v s sound stands used read.on in
    subst (λ w. MovesOn at v s (length w.receiving.readable - length v.receiving.readable) w) (sym heard) (m.0, m.1)

-- A segment that is not used.

-- it leaves the state and the peer's stream, or ends the connection
abbrev Leaves : View → View → Type 0
Leaves v w = is_closed w.state ≡ false → (w.state ≡ v.state) × (w.receiving ≡ v.receiving)

ack_leaves : (v : View) (ack : ℕ) → is_read_on v ack ≡ false → Leaves v (after_ack v ack)
ack_leaves v ack off =
    let P : View → Type 0 = Leaves v in
    let new = is_new_ack v.sending ack in
    let told = not_on (is_syn_received v.state) new (is_off v ack) off in
    either View P (is_syn_received v.state) _ _
    (λ received. either View P new (after_establishment v) v (λ is. clash new is told.0) (λ wrong on. (refl, refl)))
    (λ established. either View P new _ _
    (λ is. clash new is told.0)
    (λ other. either View P (is_off v ack) (owing_ack v) v (λ ahead on. (refl, refl)) (λ sent on. (refl, refl))))

segment_leaves : (v : View) (s : Segment) → is_syn_sent v.state ≡ false → is_read v s ≡ false → Leaves v (after_segment v s)
segment_leaves v s past unread =
    let P : View → Type 0 = Leaves v in
    let same : P v = λ on. (refl, refl) in
    let drawn : P (owing_ack v) = λ on. (refl, refl) in
    either View P (is_closed v.state) v _
    (λ closed. same)
    (λ lives. either View P s.flags.rst _ _
    (λ rst. either View P (is_syn_sent v.state) (after_rst_in_syn_sent v s) (after_rst v s)
    (λ waits. clash (is_syn_sent v.state) waits past)
    (λ past_it. either View P (is_acting_reset v s) _ _
    (λ acts. either View P (ends_by_reset v s) v (after_reset v (reset_error v.state)) (λ removed. same) (λ ends closed. let bad : true ≡ false = closed in cc))
    (λ elsewhere. either View P (is_in_window v.receiving s.number) (owing_ack v) v (λ inside. drawn) (λ outside. same))))
    (λ no_rst. either View P (is_syn_sent v.state) _ _
    (λ waits. clash (is_syn_sent v.state) waits past)
    (λ past_it. either View P (is_acceptable_to v s) (after_acceptable_segment v s) (owing_ack v)
    (λ accepted. either View P s.flags.syn _ _
    (λ syn. either View P (ends_by_syn v s) v (owing_ack v) (λ removed. same) (λ another. drawn))
    (λ no_syn. either View P s.flags.ack (after_acknowledging_segment v s) v
    (λ ack. either View P (is_read_on v s.acknowledgement) (after_reading v s) (after_ack v s.acknowledgement)
    (λ on. clash (is_read v s) (all_read s.flags.rst (is_acceptable_to v s) s.flags.syn s.flags.ack (is_read_on v s.acknowledgement) no_rst accepted no_syn ack on) unread)
    (λ off. ack_leaves v s.acknowledgement off))
    (λ no_ack. same)))
    (λ refused. drawn))))
  where
    all_read : (rst accepted syn ack on : Bool) → rst ≡ false → accepted ≡ true → syn ≡ false → ack ≡ true → on ≡ true → (not rst && accepted && not syn && ack && on) ≡ true
    all_read false true false true on a b c d e = e
    all_read true accepted syn ack on a b c d e = cc
    all_read false false syn ack on a b c d e = cc
    all_read false true true ack on a b c d e = cc
    all_read false true false false on a b c d e = cc

pub unused_stays : (at : Places) (v : View) (s : Segment) (now : Moment) → IsSound v → is_syn_sent v.state ≡ false → StandsAt at v s → is_used at v s ≡ false → is_closed (after_segment_at v s now).state ≡ false
    → ((after_segment_at v s now).state ≡ v.state) × ((after_segment_at v s now).receiving ≡ v.receiving)
unused_stays at v s now sound past stands unused =
    let unread : is_read v s ≡ false = read_as_used at v s sound stands ∙ unused in
    by_clock (Leaves v) v s now (λ on. (refl, refl))
    (λ lives. either View (Leaves v) (is_lost v s) (after_lost v s) (after_segment v s) (λ lost closed. let bad : true ≡ false = closed in cc) (λ kept. segment_leaves v s past unread))
