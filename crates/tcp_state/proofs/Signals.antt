-- What an event is to the congestion window, in the words of what it acknowledges.
use Rattle.tcp_state.proofs.Clocked.{recover_kept, told_moved, told_still, silent_needed}
use Rattle.tcp_state.proofs.Selects.{more_counts, more_opened, silent_opening, silent_unselected, counted_selects_none}
use Rattle.std.proofs.Common.{◌≡◌, ◌≢◌, ℕ, ◌+◌, ◌-◌, ◌%◌, ◌^◌, ◌<◌, ◌≤◌, ◌==◌, ◌&&◌, ◌||◌, ◌⊎◌, ◌↔◌, not, nat_lt, nat_le, min, if◌then◌else◌, Bool, true, false, List, [], ◌∷◌, length, drop, Some, inl, inr, arith, refl, sym, ◌∙◌, ap, ap₂, subst}
use Rattle.std.proofs.lemmas.Bool.{eqb-true, eq-eqb, lt-ltb, ltb-true, ne_eqb}
use Rattle.std.proofs.lemmas.Bool.Decides.{eqb_tells, leb_tells}
use Rattle.std.proofs.lemmas.List.{length-drop}
use Rattle.tcp_segment.specs.Segment.{Segment}
use Rattle.tcp_segment.specs.Wire.{past}
use Rattle.clock.specs.declared.moment.Moment.{Moment}
use Rattle.clock.specs.Moments.{has_come}
use Rattle.congestion.specs.Control.{repairs, is_selective}
use Rattle.congestion.specs.Window.{Window, initial_window, is_recovering, goes_on as recovers_on, after_new_ack, after_partial_ack, after_duplicate, after_expiry, after_loss, third_is_next}
use Rattle.tcp_state.specs.Selective.{selects}
use Rattle.congestion.specs.Events.{after_event as after_window_event}
use Rattle.congestion.specs.Events.Event.{NewAck, PartialAck, Expiry, Duplicate, Loss}
use Rattle.tcp_state.specs.declared.state.State.{State}
use Rattle.tcp_state.specs.declared.state.State.TheVariants.{SynSent, SynReceived}
use Rattle.tcp_halves.specs.Halves.{Sending}
use Rattle.tcp_halves.specs.Numbers.{is_before}
use Rattle.tcp_halves.specs.Stream.{outstanding, is_new_ack, stands_next, after_octets, after_end, stands_before}
use Rattle.tcp_halves.specs.Windows.{window_in, updates_window}
use Rattle.tcp_halves.proofs.Choices.{either, by, clash, and_left, and_right, and_false, both, not_true, of_false, or_right}
use Rattle.tcp_state.specs.View.{View, IsSound, is_opening, is_syn_sent, is_syn_received, is_closed, is_write_finished, takes_flag_number, is_at_end, after_stop, after_reset}
use Rattle.tcp_state.specs.Congestion.{Signal, after_signal}
use Rattle.tcp_state.specs.Congestion.Signal.{Begins, Counts, Both, Nothing}
use Rattle.tcp_state.specs.declared.calls.Refusal.TheVariants.{ETIMEDOUT}
use Rattle.tcp_state.specs.Timing.{probes, gives_up, after_expiries, after_tick}
use Rattle.tcp_state.specs.Resend.{gives_back}
use Rattle.tcp_state.specs.Alive.{after_silence}
use Rattle.tcp_state.specs.Reporting.{noted}
use Rattle.tcp_state.specs.Arrival.{owing_ack, may_delay, beyond_end, is_acceptable_to, is_read, is_off, is_read_on, is_of_fin, fin_acknowledged, after_new_ack as after_acknowledging, after_establishment, after_ack, after_window, is_receiving, after_text, after_fin, after_segment, brings_more, is_lost, after_lost, after_heard, is_rejected, before, octets_outstanding, is_duplicate, is_moved, congestion_event_of, told, behind_ack, whole_signal, reports_more, tells_loss, report_event, is_report, reports_loss, timed_by, acknowledged_signal, counts_duplicates, is_counted_duplicate, came_twice, is_since_loss, tells_needless, given_back, repairs_tail, blocks_told, report_signal}
use Rattle.tcp_state.specs.Edges.{Event, Hears, Ticks, Emits, Sends, Receives, Shuts, SetsNoDelay, SetsKeepAlive, Closes, Aborts, Unreachable, LosesHop, after_event, congestion_event_by, gives_back_by}
use Rattle.tcp_state.specs.Counted.{HasOctetOut, IsDuplicate}
use Rattle.tcp_state.proofs.Guarded.{in_reach}
use Rattle.tcp_state.proofs.Segments.{IsRead, by_ack, by_fin, by_hearing, reads, read_tells, reading_sends, not_rejected}
use Rattle.tcp_state.proofs.Unchanged.{closed_plain}
use Rattle.tcp_state.proofs.Congestion.{moves_by_events, window_kept}

-- A duplicate ACK.

pub opened_tells : (t : State) → is_opening t ≡ false → (is_syn_sent t ≡ false) × (is_syn_received t ≡ false)
opened_tells SynSent e = cc
opened_tells SynReceived e = cc
opened_tells _ e = (refl, refl)

-- past the opening few numbers are outstanding
few_out : (opening finished flag : Bool) (held out size : ℕ) → size ≤ 1048576 → held ≤ (if opening || finished then 0 else size) → out ≤ held + (if flag then 1 else 0) → out ≤ 1048577
few_out true finished true held out size small few most = omega (arith, few, most)
few_out true finished false held out size small few most = omega (arith, few, most)
few_out false true true held out size small few most = omega (arith, few, most)
few_out false true false held out size small few most = omega (arith, few, most)
few_out false false true held out size small few most = omega (arith, small, few, most)
few_out false false false held out size small few most = omega (arith, small, few, most)

small_flight : (v : View) → IsSound v → outstanding v.sending ≤ 1048577
small_flight v sound =
    few_out (is_opening v.state) (is_write_finished v.state) (takes_flag_number v.state) (length v.sending.held) (outstanding v.sending) v.sending.size sound.terms.send_size sound.held sound.flight

no_octets : (l : List ℕ) → length l ≡ 0 → l ≡ []
no_octets [] e = refl
no_octets (x ∷ l) e = absurd (omega (arith, e))

-- an acknowledgement of SND.UNA is neither new nor of what was not sent
old_ack : (v : View) (ack : ℕ) → IsSound v → ack ≡ v.sending.una → (is_new_ack v.sending ack ≡ false) × (is_off v ack ≡ false)
old_ack v ack sound same =
    let flight = small_flight v sound in
    let none : past ack v.sending.una ≡ 0 = omega (arith, same, sound.una) in
    let near : past v.sending.nxt ack ≤ 1048577 = subst (λ n. past v.sending.nxt n ≤ 1048577) (sym same) flight in
    let sent : is_before v.sending.nxt ack ≡ false = elim (leb_tells (2 ^ 31) (past v.sending.nxt ack)) [ inl far ↦ absurd (omega (arith, near, far.1)) | inr close ↦ close.0 ] in
    (ap (λ n. nat_lt 0 n && nat_le n (outstanding v.sending)) none, in_reach v ack sent (omega (arith, same, sound.una)))

reads_on : (v : View) (ack : ℕ) → is_syn_received v.state ≡ false → is_off v ack ≡ false → is_read_on v ack ≡ true
reads_on v ack opened within =
    let new = is_new_ack v.sending ack in
    ap (λ b. if b then new else (new || not (is_off v ack))) opened ∙ or_right new (not (is_off v ack)) (of_false (is_off v ack) within)

duplicate_reads : (v : View) (s : Segment) → IsSound v → IsDuplicate v s → IsRead v s
duplicate_reads v s sound d = record {
  no_rst = d.no_rst;
  accepted = d.acceptable;
  no_syn = d.no_syn;
  ack = d.ack;
  on = reads_on v s.acknowledgement (opened_tells v.state d.opened).1 (old_ack v s.acknowledgement sound d.at_una).1;
}

is_read_by : (v : View) (s : Segment) → IsRead v s → is_read v s ≡ true
is_read_by v s r =
    let one = both (not s.flags.rst) (is_acceptable_to v s) (of_false s.flags.rst r.no_rst) r.accepted in
    let two = both (not s.flags.rst && is_acceptable_to v s) (not s.flags.syn) one (of_false s.flags.syn r.no_syn) in
    let three = both (not s.flags.rst && is_acceptable_to v s && not s.flags.syn) s.flags.ack two r.ack in
    both (not s.flags.rst && is_acceptable_to v s && not s.flags.syn && s.flags.ack) (is_read_on v s.acknowledgement) three r.on

duplicate_tells : (v : View) (s : Segment) → is_duplicate v s ≡ true → IsDuplicate v s
duplicate_tells v s e =
    let opened = not (is_opening v.state) in
    let read = opened && is_read v s in
    let flies = read && nat_lt 0 (octets_outstanding v) in
    let bare = flies && (length s.octets == 0) in
    let goes_on = bare && not s.flags.fin in
    let at_una = goes_on && (s.acknowledgement == v.sending.una) in
    let same = at_una && (window_in v.sending s.window == v.sending.window) in
    let before = stands_before v.receiving s.number in
    let seven = and_left same (not before) e in
    let six = and_left at_una (window_in v.sending s.window == v.sending.window) seven in
    let five = and_left goes_on (s.acknowledgement == v.sending.una) six in
    let four = and_left bare (not s.flags.fin) five in
    let three = and_left flies (length s.octets == 0) four in
    let two = and_left read (nat_lt 0 (octets_outstanding v)) three in
    let some = ltb-true 0 (octets_outstanding v) (and_right read (nat_lt 0 (octets_outstanding v)) three) in
    let r = read_tells v s (and_right opened (is_read v s) two) in
    record {
      opened = not_true (is_opening v.state) (and_left opened (is_read v s) two);
      outstanding = (0, omega (arith, some), omega (arith, some));
      acceptable = r.accepted;
      ack = r.ack;
      at_una = eqb-true s.acknowledgement v.sending.una (and_right goes_on (s.acknowledgement == v.sending.una) six);
      window = eqb-true (window_in v.sending s.window) v.sending.window (and_right at_una (window_in v.sending s.window == v.sending.window) seven);
      octets = no_octets s.octets (eqb-true (length s.octets) 0 (and_right flies (length s.octets == 0) four));
      no_syn = r.no_syn;
      no_fin = not_true s.flags.fin (and_right bare (not s.flags.fin) five);
      no_rst = r.no_rst;
      unasked = λ one. clash before (eq-eqb (past v.receiving.rnext s.number) 1 one) (not_true before (and_right same (not before) e));
    }

is_repeated : (v : View) (s : Segment) → IsSound v → IsDuplicate v s → is_duplicate v s ≡ true
is_repeated v s sound d =
    let opened = not (is_opening v.state) in
    let read = opened && is_read v s in
    let flies = read && nat_lt 0 (octets_outstanding v) in
    let bare = flies && (length s.octets == 0) in
    let goes_on = bare && not s.flags.fin in
    let at_una = goes_on && (s.acknowledgement == v.sending.una) in
    let two = both opened (is_read v s) (of_false (is_opening v.state) d.opened) (is_read_by v s (duplicate_reads v s sound d)) in
    let out = d.outstanding in
    let three = both read (nat_lt 0 (octets_outstanding v)) two (lt-ltb 0 (octets_outstanding v) (omega (arith, out.1, out.2))) in
    let four = both flies (length s.octets == 0) three (eq-eqb (length s.octets) 0 (ap length d.octets)) in
    let five = both bare (not s.flags.fin) four (of_false s.flags.fin d.no_fin) in
    let six = both goes_on (s.acknowledgement == v.sending.una) five (eq-eqb s.acknowledgement v.sending.una d.at_una) in
    let seven = both at_una (window_in v.sending s.window == v.sending.window) six (eq-eqb (window_in v.sending s.window) v.sending.window d.window) in
    let before = stands_before v.receiving s.number in
    both (at_una && (window_in v.sending s.window == v.sending.window)) (not before) seven (of_false before (ne_eqb (past v.receiving.rnext s.number) 1 d.unasked))

pub duplicates_are : (v : View) (s : Segment) → IsSound v → (is_duplicate v s ≡ true) ↔ IsDuplicate v s
duplicates_are v s sound = (duplicate_tells v s, is_repeated v s sound)

-- something is outstanding only before the end
pub flies_open : (v : View) → IsSound v → 0 < past v.sending.nxt v.sending.una → is_closed v.state ≡ false
flies_open v sound some = by (is_closed v.state ≡ false) (is_closed v.state)
    (λ closed.
    let plain = closed_plain v.state closed in
    let held : length v.sending.held ≤ 0 = subst (λ b. length v.sending.held ≤ (if b then 0 else v.sending.size)) (ap (λ b. b || is_write_finished v.state) plain.0 ∙ plain.2) sound.held in
    let flight : outstanding v.sending ≤ length v.sending.held + 0 = subst (λ b. outstanding v.sending ≤ length v.sending.held + (if b then 1 else 0)) plain.3 sound.flight in
    absurd (omega (arith, some, held, flight)))
    (λ lives. lives)

-- where an octet is outstanding, a number is
numbers_out : (v : View) → HasOctetOut v → 0 < past v.sending.nxt v.sending.una
numbers_out v out = omega (arith, out.2)

-- such a segment changes at most the window that the peer tells
pub only_window : (v : View) (s : Segment) → IsSound v → IsDuplicate v s → after_heard v s ≡ after_window v s
only_window v s sound d =
    let opened = opened_tells v.state d.opened in
    let old = old_ack v s.acknowledgement sound d.at_una in
    let none : (length s.octets == 0) ≡ true = eq-eqb (length s.octets) 0 (ap length d.octets) in
    let unread : brings_more v s ≡ false = ap (λ b. not b && is_before v.receiving.rnext ((s.number + length s.octets) % 2 ^ 32)) none in
    let kept : is_lost v s ≡ false = ap (λ b. v.released && is_receiving v.state && is_read v s && b) unread ∙ and_false (v.released && is_receiving v.state && is_read v s) in
    let acked : after_ack v s.acknowledgement ≡ v =
    ap (λ b. if b then (if is_new_ack v.sending s.acknowledgement then after_establishment v else v) else unestablished) opened.1
    ∙ ap (λ b. if b then (if is_of_fin v s.acknowledgement then fin_acknowledged (after_acknowledging v s.acknowledgement) else after_acknowledging v s.acknowledgement) else if is_off v s.acknowledgement then owing_ack v else v) old.0
    ∙ ap (λ b. if b then owing_ack v else v) old.1 in
    let told = after_window v s in
    let text : after_text told s ≡ told = ap (λ b. if b || not (is_receiving told.state) then told else texted told) none in
    let fin : (w : View) → after_fin w s ≡ w = λ w. ap (λ b. if b && is_receiving w.state && next w then ended w else if b && is_receiving w.state then owing_ack w else w) d.no_fin in
    ap (λ b. if b then after_lost v s else after_segment v s) kept
    ∙ reads v s (flies_open v sound (numbers_out v d.outstanding)) opened.0 (duplicate_reads v s sound d)
    ∙ ap (λ (w : View). after_fin (after_text (after_window w s) s) s) acked
    ∙ ap (λ (w : View). after_fin w s) text
    ∙ fin told
  where
    unestablished : View
    unestablished = if is_new_ack v.sending s.acknowledgement then (if is_of_fin v s.acknowledgement then fin_acknowledged (after_acknowledging v s.acknowledgement) else after_acknowledging v s.acknowledgement)
        else if is_off v s.acknowledgement then owing_ack v else v

    next : View → Bool
    next w = stands_next w.receiving ((s.number + length s.octets) % 2 ^ 32)

    texted : View → View
    texted w = record w { receiving = after_octets w.receiving s.number s.octets; owes_ack = w.owes_ack || w.delays_ack || not (may_delay w s); delays_ack = true; reporting = noted w.reporting w.receiving.rnext s.number }

    ended : View → View
    ended w = record w { state = beyond_end w.state; receiving = after_end w.receiving; owes_ack = true }

window_stays : (v : View) (s : Segment) → ((after_window v s).sending.una ≡ v.sending.una) × ((after_window v s).sending.nxt ≡ v.sending.nxt) × ((after_window v s).sending.held ≡ v.sending.held)
window_stays v s =
    let x = v.sending in
    either Sending (λ t. (t.una ≡ x.una) × (t.nxt ≡ x.nxt) × (t.held ≡ x.held)) (updates_window x s.number s.acknowledgement) _ x (λ updates. (refl, refl, refl)) (λ stays. (refl, refl, refl))

-- What a segment is that comes to the connection.

pub heard_is : (v : View) (s : Segment) (now : Moment) → (is_closed v.state || is_rejected v s) ≡ false → after_event v (Hears s now) ≡ timed_by (before v s) (after_heard v s) now
heard_is v s now hears = ap (λ b. if b then v else timed_by (before v s) (after_heard v s) now) hears

pub event_is : (v : View) (s : Segment) (now : Moment) → (is_closed v.state || is_rejected v s) ≡ false → congestion_event_by v (Hears s now) ≡ congestion_event_of (before v s) (after_heard v s)
event_is v s now hears = ap (λ b. if b then Nothing else congestion_event_of (before v s) (after_heard v s)) hears

pub window_by : (v : View) (e : Event) (signal : Signal) → congestion_event_by v e ≡ signal
    → (after_event v e).congestion ≡ given_back (gives_back_by v e (after_event v e)) (after_signal v.congestion signal (after_event v e).sending.smss (after_event v e).resend.syn_resent)
window_by v e signal is = moves_by_events v e ∙ ap (λ g. given_back (gives_back_by v e (after_event v e)) (after_signal v.congestion g (after_event v e).sending.smss (after_event v e).resend.syn_resent)) is

-- nothing comes back where it tells of nothing that came twice ..
pub gives_none : (v : View) (s : Segment) (now : Moment) (w : View) → tells_needless v s ≡ false → gives_back_by v (Hears s now) w ≡ false
gives_none v s now w needed = let hears = not (is_closed v.state || is_rejected v s) in ap (λ t. hears && gives_back t w.resend) needed ∙ and_false hears

pub none_back : (v : View) (s : Segment) (now : Moment) (w : View) (c : Window) → tells_needless v s ≡ false → given_back (gives_back_by v (Hears s now) w) c ≡ c
none_back v s now w c needed = ap (λ t. given_back t c) (gives_none v s now w needed)

-- .. nor while a probe of the tail is out, or one of a closed window
pub tail_needed : (v : View) (s : Segment) → nat_lt 0 v.resend.tail ≡ true → tells_needless v s ≡ false
unfolding tells_needless
tail_needed v s out =
    let blocks = blocks_told v s in
    let twice = came_twice s.acknowledgement blocks && is_since_loss v blocks in
    ap (λ t. twice && t && not (probes v)) (none_left v.resend.tail out) ∙ ap (λ t. t && not (probes v)) (and_false twice)
  where
    none_left : (n : ℕ) → nat_lt 0 n ≡ true → (n == 0) ≡ false
    none_left n e = elim (eqb_tells n 0) [ inl none ↦ clash (nat_lt 0 n) e (ap (nat_lt 0) none.1) | inr other ↦ other.0 ]

pub probe_needed : (v : View) (s : Segment) → probes v ≡ true → tells_needless v s ≡ false
unfolding tells_needless
probe_needed v s out =
    let blocks = blocks_told v s in
    let rest = came_twice s.acknowledgement blocks && is_since_loss v blocks && (v.resend.tail == 0) in
    ap (λ t. rest && not t) out ∙ and_false rest

pub moved_hears : (v : View) (s : Segment) (now : Moment) → (after_event v (Hears s now)).sending.una ≢ v.sending.una → (is_closed v.state || is_rejected v s) ≡ false
moved_hears v s now moved = by ((is_closed v.state || is_rejected v s) ≡ false) (is_closed v.state || is_rejected v s)
    (λ out. absurd (moved (ap (λ b. let w = if b then v else timed_by (before v s) (after_heard v s) now in w.sending.una) out))) (λ hears. hears)

pub is_moved_by : (v : View) (s : Segment) → (after_heard v s).sending.una ≢ v.sending.una → is_moved (before v s) (after_heard v s) ≡ true
is_moved_by v s moved = elim (eqb_tells v.sending.una (after_heard v s).sending.una) [ inl same ↦ absurd (moved (sym same.1)) | inr other ↦ ap not other.0 ]

moved_event : (v : View) (s : Segment) (now : Moment) → (after_event v (Hears s now)).sending.una ≢ v.sending.una → is_closed (after_event v (Hears s now)).state ≡ false
    → congestion_event_by v (Hears s now) ≡ (let b = before v s in let x = after_heard v s in if is_opening v.state then Begins else acknowledged_signal b (told b x) (length v.sending.held - length x.sending.held) (reports_more b x))
moved_event v s now moved alive =
    let x = after_heard v s in
    let hears = moved_hears v s now moved in
    let at = heard_is v s now hears in
    let event : Signal = if is_opening v.state then Begins else acknowledged_signal (before v s) (told (before v s) x) (length v.sending.held - length x.sending.held) (reports_more (before v s) x) in
    let other : Signal = if is_counted_duplicate v s then Counts (Duplicate (outstanding x.sending)) else if reports_more (before v s) x then report_signal (told (before v s) x) else Nothing in
    event_is v s now hears
    ∙ ap (λ b. if b then Nothing else if is_moved (before v s) x then event else other) (sym (ap (λ (w : View). is_closed w.state) at) ∙ alive)
    ∙ ap (λ b. if b then event else other) (is_moved_by v s (λ same. moved (ap (λ (w : View). w.sending.una) at ∙ same)))

pub begins_at_opening : (v : View) (s : Segment) (now : Moment) → is_opening v.state ≡ true → (after_event v (Hears s now)).sending.una ≢ v.sending.una → is_closed (after_event v (Hears s now)).state ≡ false
    → (after_event v (Hears s now)).congestion ≡ initial_window v.congestion.control (after_event v (Hears s now)).sending.smss (after_event v (Hears s now)).resend.syn_resent
begins_at_opening v s now opening moved alive =
    let x = after_heard v s in
    let w = after_event v (Hears s now) in
    window_by v (Hears s now) Begins (moved_event v s now moved alive ∙ ap (λ b. if b then Begins else acknowledged_signal (before v s) (told (before v s) x) (length v.sending.held - length x.sending.held) (reports_more (before v s) x)) opening)
    ∙ none_back v s now w (initial_window v.congestion.control w.sending.smss w.resend.syn_resent) (silent_needed v s (silent_opening v s opening))

-- so many octets are held no longer as it acknowledges

abbrev Frees : View → Sending → Type 0
Frees v x = x.una ≢ v.sending.una → length v.sending.held - length x.held ≡ min (past x.una v.sending.una) (length v.sending.held)

frees : (v : View) (s : Segment) → is_opening v.state ≡ false → is_closed (after_heard v s).state ≡ false → Frees v (after_heard v s).sending
frees v s opened =
    let P : View → Type 0 = λ w. Frees v w.sending in
    let Q : View → Type 0 = λ w. is_closed w.state ≡ false → Frees v w.sending in
    let past_opening = opened_tells v.state opened in
    let kept : Frees v v.sending = λ moved. absurd (moved refl) in
    let gone : (n : ℕ) → length v.sending.held - length (drop n v.sending.held) ≡ min n (length v.sending.held) = λ n. omega (arith, length-drop n v.sending.held) in
    let acked : P (after_ack v s.acknowledgement) = by_ack P v s.acknowledgement (record {
      old = kept;
      beyond = kept;
      opens = λ received new. clash (is_syn_received v.state) received past_opening.1;
      octets = λ new moved. gone (past s.acknowledgement v.sending.una);
      fin = λ new fin moved. gone (past s.acknowledgement v.sending.una);
    }) in
    let told = after_ack v s.acknowledgement in
    let window : P (after_window told s) = either Sending (Frees v) (updates_window told.sending s.number s.acknowledgement) _ told.sending (λ updates. acked) (λ stays. acked) in
    by_hearing Q v s (λ alive. cc) (record {
      dropped = λ alive. kept;
      drawn = λ alive. kept;
      reset = λ r alive. cc;
      crossed = λ waits. clash (is_syn_sent v.state) waits past_opening.0;
      opened = λ waits right. clash (is_syn_sent v.state) waits past_opening.0;
      acknowledged = λ taken alive. acked;
      read = λ on alive. subst (Frees v) (sym (reading_sends v s)) window;
    })

-- reports are taken as before
pub heard_selects : (v : View) (s : Segment) → is_syn_sent v.state ≡ false → selects (after_heard v s) ≡ selects v
heard_selects v s past_opening =
    let P : View → Type 0 = λ w. w.reporting.sacks ≡ v.reporting.sacks in
    let told_by = after_window (after_ack v s.acknowledgement) s in
    let acked : P (after_ack v s.acknowledgement) = by_ack P v s.acknowledgement (record { old = refl; beyond = refl; opens = λ received new. refl; octets = λ new. refl; fin = λ new fin. refl }) in
    let text : P (after_text told_by s) = either View P ((length s.octets == 0) || not (is_receiving told_by.state)) told_by _ (λ none. acked) (λ some. acked) in
    ap₂ (λ (c : Window) b. is_selective c.control && b) (window_kept v s)
    (by_hearing P v s acked (record {
      dropped = refl;
      drawn = refl;
      reset = λ acts. refl;
      crossed = λ waits. clash (is_syn_sent v.state) waits past_opening;
      opened = λ waits right. clash (is_syn_sent v.state) waits past_opening;
      acknowledged = λ taken. acked;
      read = λ on. by_fin P (after_text told_by s) s (λ counts. text) text text;
    }))

-- whether it is a partial one
abbrev Partial : View → View → Bool
Partial v w = recovers_on v.congestion && nat_lt 0 w.resend.recover

-- where a recovery goes on, no report counts
pub quiet_on : (v : View) (s : Segment) → recovers_on v.congestion ≡ true → reports_more (before v s) (after_heard v s) ≡ false
quiet_on v s on =
    let more = reports_more (before v s) (after_heard v s) in
    by (more ≡ false) more (λ is. clash (is_recovering v.congestion) (and_right (repairs v.congestion.control) (is_recovering v.congestion) on) (more_counts v s (after_heard v s) is).runs) (λ quiet. quiet)

-- so it is one by what is left of it, and else none
partial_told : (v : View) (s : Segment) (now : Moment) → (after_event v (Hears s now)).sending.una ≢ v.sending.una → Partial v (after_heard v s) ≡ Partial v (after_event v (Hears s now))
partial_told v s now moved =
    let x = after_heard v s in
    let at = heard_is v s now (moved_hears v s now moved) in
    let moves = is_moved_by v s (λ same. moved (ap (λ (w : View). w.sending.una) at ∙ same)) in
    by (Partial v x ≡ Partial v (after_event v (Hears s now))) (recovers_on v.congestion)
    (λ on. ap (λ r. recovers_on v.congestion && nat_lt 0 r) (sym (ap (λ (w : View). w.resend.recover) at ∙ recover_kept (before v s) x now moves (quiet_on v s on))))
    (λ none. ap (λ b. b && nat_lt 0 x.resend.recover) none ∙ sym (ap (λ b. b && nat_lt 0 (after_event v (Hears s now)).resend.recover) none))

acked_event : (v : View) (s : Segment) (now : Moment) (partial : Bool) → is_opening v.state ≡ false → (after_event v (Hears s now)).sending.una ≢ v.sending.una → is_closed (after_event v (Hears s now)).state ≡ false
    → Partial v (after_event v (Hears s now)) ≡ partial
    → congestion_event_by v (Hears s now) ≡ (let n = length v.sending.held - length (after_heard v s).sending.held in if partial then (if selects v then Nothing else Counts (PartialAck n)) else whole_signal (before v s) (told (before v s) (after_heard v s)) n (reports_more (before v s) (after_heard v s)))
acked_event v s now partial opened moved alive is =
    let x = after_heard v s in
    let n = length v.sending.held - length x.sending.held in
    let whole : Signal = whole_signal (before v s) (told (before v s) x) n (reports_more (before v s) x) in
    let part : (recovers_on x.congestion && nat_lt 0 x.resend.recover) ≡ partial = ap (λ c. recovers_on c && nat_lt 0 x.resend.recover) (window_kept v s) ∙ partial_told v s now moved ∙ is in
    let rules : selects x ≡ selects v = heard_selects v s (opened_tells v.state opened).0 in
    moved_event v s now moved alive ∙ ap (λ b. if b then Begins else acknowledged_signal (before v s) (told (before v s) x) n (reports_more (before v s) x)) opened
    ∙ ap₂ (λ b r. if b then (if r then Nothing else Counts (PartialAck n)) else whole) part rules

-- what it counts for
acked_octets : (v : View) (s : Segment) (now : Moment) → is_opening v.state ≡ false → (after_event v (Hears s now)).sending.una ≢ v.sending.una → is_closed (after_event v (Hears s now)).state ≡ false
    → (length v.sending.held - length (after_heard v s).sending.held ≡ min (past (after_event v (Hears s now)).sending.una v.sending.una) (length v.sending.held))
    × (outstanding (after_heard v s).sending ≡ outstanding (after_event v (Hears s now)).sending)
acked_octets v s now opened moved alive =
    let x = after_heard v s in
    let at = heard_is v s now (moved_hears v s now moved) in
    let una : (after_event v (Hears s now)).sending.una ≡ x.sending.una = ap (λ (w : View). w.sending.una) at in
    (frees v s opened (sym (ap (λ (w : View). is_closed w.state) at) ∙ alive) (λ same. moved (una ∙ same)) ∙ ap (λ n. min (past n v.sending.una) (length v.sending.held)) (sym una), sym (ap (λ (w : View). outstanding w.sending) at))

-- one that reports nothing that counts
alone_event : (v : View) (s : Segment) → is_report v s ≡ false
    → (let x = after_heard v s in let n = length v.sending.held - length x.sending.held in let ack = NewAck n (outstanding x.sending) in
    whole_signal (before v s) (told (before v s) x) n (reports_more (before v s) x) ≡ (if repairs_tail v s then Both (Loss v.resend.tail) ack else Counts ack))
alone_event v s quiet = let x = after_heard v s in ap (whole_signal (before v s) (told (before v s) x) (length v.sending.held - length x.sending.held)) quiet

pub counts_octets : (v : View) (s : Segment) (now : Moment) → is_opening v.state ≡ false → (after_event v (Hears s now)).sending.una ≢ v.sending.una → is_closed (after_event v (Hears s now)).state ≡ false
    → is_report v s ≡ false → repairs_tail v s ≡ false → (recovers_on v.congestion && nat_lt 0 (after_event v (Hears s now)).resend.recover) ≡ false
    → (after_event v (Hears s now)).congestion ≡ given_back (gives_back_by v (Hears s now) (after_event v (Hears s now))) (after_new_ack v.congestion (min (past (after_event v (Hears s now)).sending.una v.sending.una) (length v.sending.held)) (outstanding (after_event v (Hears s now)).sending))
counts_octets v s now opened moved alive quiet other whole =
    let n = length v.sending.held - length (after_heard v s).sending.held in
    let counts = acked_octets v s now opened moved alive in
    window_by v (Hears s now) (Counts (NewAck n (outstanding (after_heard v s).sending)))
    (acked_event v s now false opened moved alive whole ∙ alone_event v s quiet ∙ ap (λ t. if t then Both (Loss v.resend.tail) (NewAck n (outstanding (after_heard v s).sending)) else Counts (NewAck n (outstanding (after_heard v s).sending))) other)
    ∙ ap (given_back (gives_back_by v (Hears s now) (after_event v (Hears s now)))) (ap₂ (after_new_ack v.congestion) counts.0 counts.1)

-- .. one that ends a probe of the tail pays for that
pub counts_tail : (v : View) (s : Segment) (now : Moment) → is_opening v.state ≡ false → (after_event v (Hears s now)).sending.una ≢ v.sending.una → is_closed (after_event v (Hears s now)).state ≡ false
    → is_report v s ≡ false → repairs_tail v s ≡ true
    → (after_event v (Hears s now)).congestion ≡ after_new_ack (after_loss v.congestion v.resend.tail) (min (past (after_event v (Hears s now)).sending.una v.sending.una) (length v.sending.held)) (outstanding (after_event v (Hears s now)).sending)
counts_tail v s now opened moved alive quiet pays =
    let x = after_heard v s in
    let w = after_event v (Hears s now) in
    let n = length v.sending.held - length x.sending.held in
    let counts = acked_octets v s now opened moved alive in
    let fresh = selects x && nat_lt 0 v.resend.tail && (x.resend.tail == 0) in
    let runs : is_recovering v.congestion ≡ false = ap is_recovering (sym (window_kept v s)) ∙ not_true (is_recovering x.congestion) (and_right fresh (not (is_recovering x.congestion)) (and_left (fresh && not (is_recovering x.congestion)) (not (came_twice x.sending.una (blocks_told v s))) pays)) in
    let out : nat_lt 0 v.resend.tail ≡ true = and_right (selects x) (nat_lt 0 v.resend.tail) (and_left (selects x && nat_lt 0 v.resend.tail) (x.resend.tail == 0) (and_left fresh (not (is_recovering x.congestion)) (and_left (fresh && not (is_recovering x.congestion)) (not (came_twice x.sending.una (blocks_told v s))) pays))) in
    let whole : (recovers_on v.congestion && nat_lt 0 w.resend.recover) ≡ false = ap (λ t. repairs v.congestion.control && t && nat_lt 0 w.resend.recover) runs ∙ ap (λ t. t && nat_lt 0 w.resend.recover) (and_false (repairs v.congestion.control)) in
    window_by v (Hears s now) (Both (Loss v.resend.tail) (NewAck n (outstanding x.sending)))
    (acked_event v s now false opened moved alive whole ∙ alone_event v s quiet ∙ ap (λ t. if t then Both (Loss v.resend.tail) (NewAck n (outstanding x.sending)) else Counts (NewAck n (outstanding x.sending))) pays)
    ∙ none_back v s now w (after_new_ack (after_loss v.congestion v.resend.tail) n (outstanding x.sending)) (tail_needed v s out)
    ∙ ap₂ (after_new_ack (after_loss v.congestion v.resend.tail)) counts.0 counts.1

pub counts_partly : (v : View) (s : Segment) (now : Moment) → is_opening v.state ≡ false → (after_event v (Hears s now)).sending.una ≢ v.sending.una → is_closed (after_event v (Hears s now)).state ≡ false
    → (recovers_on v.congestion && nat_lt 0 (after_event v (Hears s now)).resend.recover) ≡ true → selects v ≡ false
    → (after_event v (Hears s now)).congestion ≡ after_partial_ack v.congestion (min (past (after_event v (Hears s now)).sending.una v.sending.una) (length v.sending.held))
counts_partly v s now opened moved alive goes plain =
    let n = length v.sending.held - length (after_heard v s).sending.held in
    window_by v (Hears s now) (Counts (PartialAck n)) (acked_event v s now true opened moved alive goes ∙ ap (λ r. if r then Nothing else Counts (PartialAck n)) plain)
    ∙ none_back v s now (after_event v (Hears s now)) (after_partial_ack v.congestion n) (silent_needed v s (silent_unselected v s plain))
    ∙ ap (after_partial_ack v.congestion) (acked_octets v s now opened moved alive).0

-- .. but nothing where reports rule the recovery
pub counts_no_part : (v : View) (s : Segment) (now : Moment) → is_opening v.state ≡ false → (after_event v (Hears s now)).sending.una ≢ v.sending.una → is_closed (after_event v (Hears s now)).state ≡ false
    → (recovers_on v.congestion && nat_lt 0 (after_event v (Hears s now)).resend.recover) ≡ true → selects v ≡ true → (after_event v (Hears s now)).congestion ≡ given_back (gives_back_by v (Hears s now) (after_event v (Hears s now))) v.congestion
counts_no_part v s now opened moved alive goes rules =
    let n = length v.sending.held - length (after_heard v s).sending.held in
    window_by v (Hears s now) Nothing (acked_event v s now true opened moved alive goes ∙ ap (λ r. if r then Nothing else Counts (PartialAck n)) rules)

-- A report that counts.

-- what it makes of the window, where it tells a loss and where it doesn't
report_makes : (c : Window) (flight : ℕ) (loss : Bool) → after_window_event c (if loss then Loss flight else Duplicate flight) ≡ (if loss then after_loss c flight else after_duplicate c flight)
report_makes c flight true = refl
report_makes c flight false = refl

signal_makes : (c : Window) (flight : ℕ) (third loss : Bool) (smss : ℕ) (resent : Bool) → after_signal c (if third && not loss then Nothing else Counts (if loss then Loss flight else Duplicate flight)) smss resent
    ≡ (if loss then after_loss c flight else if third then c else after_duplicate c flight)
signal_makes c flight true true smss resent = refl
signal_makes c flight true false smss resent = refl
signal_makes c flight false true smss resent = refl
signal_makes c flight false false smss resent = refl

-- it counts alone where it moves nothing
pub counts_report : (v : View) (s : Segment) (now : Moment) → (after_event v (Hears s now)).sending.una ≡ v.sending.una → is_closed (after_event v (Hears s now)).state ≡ false → is_report v s ≡ true → is_counted_duplicate v s ≡ false → (is_closed v.state || is_rejected v s) ≡ false
    → (after_event v (Hears s now)).congestion ≡ given_back (gives_back_by v (Hears s now) (after_event v (Hears s now))) (let flight = outstanding (after_heard v s).sending in if reports_loss v s then after_loss v.congestion flight else if third_is_next v.congestion then v.congestion else after_duplicate v.congestion flight)
counts_report v s now same alive is other hears =
    let b = before v s in
    let x = after_heard v s in
    let at = heard_is v s now hears in
    let flight = outstanding x.sending in
    let w = after_event v (Hears s now) in
    let smss = w.sending.smss in
    let resent = w.resend.syn_resent in
    let still : is_moved b x ≡ false = ap not (eq-eqb v.sending.una x.sending.una (sym same ∙ ap (λ (w : View). w.sending.una) at)) in
    let tells : Signal = if reports_more b x then report_signal (told b x) else Nothing in
    let repeats : Signal = if is_counted_duplicate v s then Counts (Duplicate flight) else tells in
    let acked : Signal = if is_opening v.state then Begins else acknowledged_signal b (told b x) (length v.sending.held - length x.sending.held) (reports_more b x) in
    window_by v (Hears s now) (report_signal (told b x))
    (event_is v s now hears
    ∙ ap (λ t. if t then Nothing else if is_moved b x then acked else repeats) (sym (ap (λ (w : View). is_closed w.state) at) ∙ alive)
    ∙ ap (λ t. if t then acked else repeats) still
    ∙ ap (λ t. if t then Counts (Duplicate flight) else tells) other
    ∙ ap (λ t. if t then report_signal (told b x) else Nothing) is)
    ∙ ap (given_back (gives_back_by v (Hears s now) (after_event v (Hears s now)))) (
    ap (λ c. after_signal v.congestion (if third_is_next c && not (tells_loss (told b x)) then Nothing else Counts (report_event (told b x))) smss resent) (window_kept v s)
    ∙ signal_makes v.congestion flight (third_is_next v.congestion) (tells_loss (told b x)) smss resent
    ∙ ap (λ t. if t then after_loss v.congestion flight else if third_is_next v.congestion then v.congestion else after_duplicate v.congestion flight) (sym (ap₂ (λ t w. t && tells_loss w) is (told_still b x still)))
    )

-- .. and else behind the ACK
pub counts_both : (v : View) (s : Segment) (now : Moment) → (after_event v (Hears s now)).sending.una ≢ v.sending.una → is_closed (after_event v (Hears s now)).state ≡ false → is_report v s ≡ true
    → (after_event v (Hears s now)).congestion
    ≡ given_back (gives_back_by v (Hears s now) (after_event v (Hears s now))) (let flight = outstanding (after_event v (Hears s now)).sending in let c = after_new_ack v.congestion (min (past (after_event v (Hears s now)).sending.una v.sending.una) (length v.sending.held)) flight in
    if reports_loss v s then after_loss c flight else after_duplicate c flight)
counts_both v s now moved alive is =
    let b = before v s in
    let x = after_heard v s in
    let w = after_event v (Hears s now) in
    let n = length v.sending.held - length x.sending.held in
    let flight = outstanding x.sending in
    let at = heard_is v s now (moved_hears v s now moved) in
    let moves = is_moved_by v s (λ same. moved (ap (λ (u : View). u.sending.una) at ∙ same)) in
    let opened = more_opened v s x is in
    let runs : recovers_on v.congestion ≡ false = ap (λ t. repairs v.congestion.control && t) (more_counts v s x is).runs ∙ and_false (repairs v.congestion.control) in
    let acked = after_new_ack v.congestion n flight in
    let loss = tells_loss (behind_ack (told b x) n) in
    let counts = acked_octets v s now opened moved alive in
    window_by v (Hears s now) (Both (NewAck n flight) (if loss then Loss flight else Duplicate flight))
    (acked_event v s now false opened moved alive (ap (λ t. t && nat_lt 0 w.resend.recover) runs) ∙ ap (whole_signal b (told b x) n) is)
    ∙ ap (given_back (gives_back_by v (Hears s now) (after_event v (Hears s now)))) (
    report_makes acked flight loss
    ∙ ap (λ t. if t then after_loss acked flight else after_duplicate acked flight) (sym (ap₂ (λ t u. t && tells_loss u) is (told_moved b x moves)))
    ∙ ap₂ (λ octets f. let c = after_new_ack v.congestion octets f in if reports_loss v s then after_loss c f else after_duplicate c f) counts.0 counts.1
    )

pub counts_duplicate : (v : View) (s : Segment) (now : Moment) → IsSound v → IsDuplicate v s → counts_duplicates v ≡ true → (after_event v (Hears s now)).congestion ≡ after_duplicate v.congestion (past v.sending.nxt v.sending.una)
counts_duplicate v s now sound d counts =
    let lives = flies_open v sound (numbers_out v d.outstanding) in
    let opened = opened_tells v.state d.opened in
    let hears : (is_closed v.state || is_rejected v s) ≡ false = ap (λ b. b || is_rejected v s) lives ∙ not_rejected v s opened.0 opened.1 in
    let seen = after_window v s in
    let stays = window_stays v s in
    let same : (v.sending.una == seen.sending.una) ≡ true = eq-eqb v.sending.una seen.sending.una (sym stays.0) in
    let acked : Signal = if is_opening v.state then Begins else acknowledged_signal (before v s) (told (before v s) seen) (length v.sending.held - length seen.sending.held) (reports_more (before v s) seen) in
    window_by v (Hears s now) (Counts (Duplicate (past v.sending.nxt v.sending.una)))
    (event_is v s now hears
    ∙ ap (congestion_event_of (before v s)) (only_window v s sound d)
    ∙ ap (λ b. if b then Nothing else if is_moved (before v s) seen then acked else repeated seen) lives
    ∙ ap (λ b. if not b then acked else repeated seen) same
    ∙ ap (λ b. if b then Counts (Duplicate (outstanding seen.sending)) else reported seen) (both (is_duplicate v s) (counts_duplicates v) (is_repeated v s sound d) counts)
    ∙ ap₂ (λ n u. Counts (Duplicate (past n u))) stays.1 stays.0)
    ∙ none_back v s now (after_event v (Hears s now)) (after_duplicate v.congestion (past v.sending.nxt v.sending.una)) (silent_needed v s (silent_unselected v s (counted_selects_none v counts)))
  where
    reported : View → Signal
    reported w = if reports_more (before v s) w then report_signal (told (before v s) w) else Nothing

    repeated : View → Signal
    repeated w = if is_counted_duplicate v s then Counts (Duplicate (outstanding w.sending)) else reported w

-- An expiry.

-- a tick that closes nothing comes before the end of a wait, and gives nothing up
pub goes_on : (v : View) (now : Moment) → is_closed (after_tick v now).state ≡ false → (is_at_end v now ≡ false) × (gives_up v now ≡ false)
goes_on v now alive = chosen (is_at_end v now) (gives_up v now) alive
  where
    acts : View
    acts = after_expiries (after_silence v now) now

    chosen : (over gives : Bool) → is_closed (let w = if over then after_stop v else if gives then after_reset v (Some ETIMEDOUT) else acts in w.state) ≡ false → (over ≡ false) × (gives ≡ false)
    chosen true gives alive = cc
    chosen false true alive = cc
    chosen false false alive = (refl, refl)

pub counts_expiry : (v : View) (now : Moment) → has_come v.timers.retransmission now ≡ true → is_closed (after_event v (Ticks now)).state ≡ false
    → (after_event v (Ticks now)).congestion ≡ after_expiry v.congestion (past v.sending.nxt v.sending.una)
counts_expiry v now comes alive =
    let event : Signal = if has_come v.timers.retransmission now then Counts (Expiry (outstanding v.sending)) else Nothing in
    window_by v (Ticks now) (Counts (Expiry (outstanding v.sending)))
    (ap₂ (λ a b. if a || b then Nothing else event) (goes_on v now alive).0 (goes_on v now alive).1 ∙ ap (λ b. if b then Counts (Expiry (outstanding v.sending)) else Nothing) comes)

-- Nothing else.

abbrev Tells : View → Event → View → Type 0
Tells v e w = ((s : Segment) × (now : Moment) × (e ≡ Hears s now) × (is_closed w.state ≡ false) × ((w.sending.una ≢ v.sending.una) ⊎ ((IsDuplicate v s × (counts_duplicates v ≡ true)) ⊎ (is_report v s ≡ true))))
    ⊎ (((now : Moment) × (e ≡ Ticks now) × (has_come v.timers.retransmission now ≡ true)) ⊎ ((gives_back_by v e w ≡ true) × (w.congestion ≡ given_back true v.congestion)))

pub others_count_none : (v : View) (e : Event) → ((after_event v e).congestion ≡ v.congestion) ⊎ Tells v e (after_event v e)
others_count_none v (Hears s now) =
    let w = after_event v (Hears s now) in
    let x = after_heard v s in
    let G : Type 0 = (w.congestion ≡ v.congestion) ⊎ Tells v (Hears s now) w in
    let back = gives_back_by v (Hears s now) w in
    let kept : w.congestion ≡ given_back back v.congestion → G = λ is. by G back (λ gives. inr (inr (inr (gives, is ∙ ap (λ t. given_back t v.congestion) gives)))) (λ keeps. inl (is ∙ ap (λ t. given_back t v.congestion) keeps)) in
    by G (is_closed v.state || is_rejected v s) (λ out. kept (window_by v (Hears s now) Nothing (ap (λ b. if b then Nothing else congestion_event_of (before v s) x) out)))
    (λ hears.
    let at = heard_is v s now hears in
    let none : congestion_event_of (before v s) x ≡ Nothing → G = λ is. kept (window_by v (Hears s now) Nothing (event_is v s now hears ∙ is)) in
    let tells : is_closed x.state ≡ false → (x.sending.una ≢ v.sending.una) ⊎ ((IsDuplicate v s × (counts_duplicates v ≡ true)) ⊎ (is_report v s ≡ true)) → G = λ alive how.
    inr (inl (s, now, refl, ap (λ (y : View). is_closed y.state) at ∙ alive, elim how [ inl moved ↦ inl (λ same. moved (sym (ap (λ (y : View). y.sending.una) at) ∙ same)) | inr twice ↦ inr twice ])) in
    either Signal (λ g. (g ≡ Nothing → G) → G) (is_closed x.state) Nothing _ (λ closed how. how refl)
    (λ alive. either Signal (λ g. (g ≡ Nothing → G) → G) (is_moved (before v s) x) _ _
    (λ moved how. tells alive (inl (λ same. clash (v.sending.una == x.sending.una) (eq-eqb v.sending.una x.sending.una (sym same)) (not_true (v.sending.una == x.sending.una) moved))))
    (λ stays. either Signal (λ g. (g ≡ Nothing → G) → G) (is_counted_duplicate v s) (Counts (Duplicate (outstanding x.sending))) _
    (λ twice how. tells alive (inr (inl (duplicate_tells v s (and_left (is_duplicate v s) (counts_duplicates v) twice), and_right (is_duplicate v s) (counts_duplicates v) twice))))
    (λ other. either Signal (λ g. (g ≡ Nothing → G) → G) (reports_more (before v s) x) (report_signal (told (before v s) x)) Nothing
    (λ more how. tells alive (inr (inr more))) (λ quiet how. how refl)))) none)
others_count_none v (Ticks now) =
    by (((after_event v (Ticks now)).congestion ≡ v.congestion) ⊎ Tells v (Ticks now) (after_event v (Ticks now))) (has_come v.timers.retransmission now)
    (λ comes. inr (inr (inl (now, refl, comes))))
    (λ early. inl (window_by v (Ticks now) Nothing (ap (λ b. if is_at_end v now || gives_up v now then Nothing else if b then Counts (Expiry (outstanding v.sending)) else Nothing) early ∙ either_way (is_at_end v now || gives_up v now))))
  where
    either_way : (b : Bool) → (if b then Nothing else Nothing) ≡ Nothing
    either_way true = refl
    either_way false = refl
others_count_none v (Emits now) = inl (moves_by_events v (Emits now))
others_count_none v (Sends octets now) = inl (moves_by_events v (Sends octets now))
others_count_none v (Receives len) = inl (moves_by_events v (Receives len))
others_count_none v (Shuts now) = inl (moves_by_events v (Shuts now))
others_count_none v (SetsNoDelay on now) = inl (moves_by_events v (SetsNoDelay on now))
others_count_none v (SetsKeepAlive every now) = inl (moves_by_events v (SetsKeepAlive every now))
others_count_none v (Closes now) = inl (moves_by_events v (Closes now))
others_count_none v (Aborts now) = inl (moves_by_events v (Aborts now))
others_count_none v (Unreachable number) = inl (moves_by_events v (Unreachable number))
others_count_none v (LosesHop now) = inl (moves_by_events v (LosesHop now))
