-- Why the third duplicate ACK in a row, and no other, puts the segment at SND.UNA out again, and that alone.
use Rattle.congestion.specs.Control.{repairs}
use Rattle.std.proofs.Common.{◌≡◌, ℕ, ◌+◌, ◌-◌, ◌%◌, ◌^◌, ◌<◌, ◌==◌, ◌&&◌, ◌||◌, not, nat_lt, nat_le, if◌then◌else◌, Bool, true, false, length, Some, None, arith, refl, sym, ◌∙◌, ap, subst, inl}
use Rattle.std.proofs.lemmas.Bool.{eqb-true, lt-ltb, ltb-true}
use Rattle.tcp_segment.specs.Segment.{Segment}
use Rattle.tcp_segment.specs.Wire.{past}
use Rattle.clock.specs.declared.moment.Moment.{Moment}
use Rattle.congestion.specs.Window.{third_is_next, goes_on}
use Rattle.congestion.specs.Events.Event.{NewAck, Duplicate, Loss}
use Rattle.tcp_state.specs.declared.arrival.Before.{Before}
use Rattle.tcp_state.specs.declared.emission.Due.TheVariants.{Text}
use Rattle.tcp_state.specs.declared.emission.Stretch.{Stretch}
use Rattle.tcp_state.specs.declared.state.State.{State}
use Rattle.tcp_state.specs.declared.state.State.TheVariants.{SynSent, SynReceived}
use Rattle.tcp_halves.specs.Numbers.{is_before}
use Rattle.tcp_halves.specs.Halves.{Sending}
use Rattle.tcp_halves.specs.Stream.{outstanding, is_new_ack, stands_before}
use Rattle.tcp_halves.specs.Windows.{window_in, updates_window}
use Rattle.tcp_state.specs.Resend.{Resend, stopped, is_alone, mark_past, mark_left, resend_lost, resend_ends}
use Rattle.tcp_state.specs.View.{View, IsSound, is_opening, is_syn_sent, is_syn_received, is_closed}
use Rattle.tcp_state.specs.Congestion.{Signal}
use Rattle.tcp_state.specs.Congestion.Signal.{Begins, Counts, Both, Nothing}
use Rattle.stream_buf.specs.Ranges.{AreApart}
use Rattle.tcp_state.specs.Selective.{with_blocks}
use Rattle.tcp_state.proofs.Guarded.{kept_mark}
use Rattle.tcp_state.proofs.Places.{first_at_una}
use Rattle.tcp_state.proofs.Selects.{silent_unselected, counted_selects_none, ends_none}
use Rattle.tcp_state.specs.Arrival.{owing_ack, after_establishment, is_receiving, beyond_fin, is_of_fin, fin_acknowledged, after_new_ack, is_off, after_ack, is_read, after_window, after_text, counts_fin, after_fin, is_lost, after_lost, after_segment, after_heard, octets_outstanding, is_duplicate, before, is_moved, resend_after, congestion_event_of, resend_told, reports_more, told, told_behind, behind_ack, tells_loss, reports_loss, timed_by, after_segment_at, acknowledged_signal, counts_duplicates, is_counted_duplicate, resend_signalled, report_signal, reopens_by}
use Rattle.tcp_state.specs.Due.{end_of, after_resent, after_first_sent, after_numbers, after_new_text, brings_new_octets, after_emitted, again, first_due}
use Rattle.tcp_state.proofs.Clocked.{comes_to, unmoved, mark_heard, signalled, told_moved, told_still}
use Rattle.tcp_halves.proofs.Choices.{either, clash, and_left, and_right, and_false, not_true, unowed}
use Rattle.tcp_state.proofs.Segments.{IsRead, by_fin, by_ack, by_hearing, by_clock, read_tells, reads, not_rejected}
use Rattle.tcp_state.proofs.Congestion.{window_kept}

-- The third one.

-- a duplicate ACK, past the opening
record IsTwice (v : View) (s : Segment) : Type 0 where
  opened : is_opening v.state ≡ false
  read : IsRead v s
  some : nat_lt 0 (outstanding v.sending) ≡ true
  empty : (length s.octets == 0) ≡ true
  no_fin : s.flags.fin ≡ false
  same : s.acknowledgement ≡ v.sending.una

twice : (v : View) (s : Segment) → is_duplicate v s ≡ true → IsTwice v s
twice v s e =
    let one = not (is_opening v.state) in
    let two = one && is_read v s in
    let three = two && nat_lt 0 (octets_outstanding v) in
    let four = three && (length s.octets == 0) in
    let five = four && not s.flags.fin in
    let six = five && (s.acknowledgement == v.sending.una) in
    let e7 = and_left (six && (window_in v.sending s.window == v.sending.window)) (not (stands_before v.receiving s.number)) e in
    let e6 = and_left six (window_in v.sending s.window == v.sending.window) e7 in
    let e5 = and_left five (s.acknowledgement == v.sending.una) e6 in
    let e4 = and_left four (not s.flags.fin) e5 in
    let e3 = and_left three (length s.octets == 0) e4 in
    let e2 = and_left two (nat_lt 0 (octets_outstanding v)) e3 in
    record {
      opened = not_true (is_opening v.state) (and_left one (is_read v s) e2);
      read = read_tells v s (and_right one (is_read v s) e2);
      some = lt-ltb 0 (outstanding v.sending) (omega (arith, ltb-true 0 (octets_outstanding v) (and_right two (nat_lt 0 (octets_outstanding v)) e3)));
      empty = and_right three (length s.octets == 0) e4;
      no_fin = not_true s.flags.fin (and_right four (not s.flags.fin) e5);
      same = eqb-true s.acknowledgement v.sending.una (and_right five (s.acknowledgement == v.sending.una) e6);
    }

pub past_opening : (t : State) → is_opening t ≡ false → (is_syn_sent t ≡ false) × (is_syn_received t ≡ false)
past_opening SynSent e = cc
past_opening SynReceived e = cc
past_opening _ e = (refl, refl)

-- what it acknowledges is acknowledged
old_ack : (v : View) (s : Segment) → v.sending.una < 2 ^ 32 → IsTwice v s → after_ack v s.acknowledgement ≡ v
old_ack v s fits t =
    let received = (past_opening v.state t.opened).1 in
    let ack = s.acknowledgement in
    let new = is_new_ack v.sending ack in
    let gained : past ack v.sending.una ≡ 0 = omega (arith, fits, t.same) in
    let old : new ≡ false = ap (λ n. nat_lt 0 n && nat_le n (outstanding v.sending)) gained in
    let within : is_off v ack ≡ false =
    not_true (is_off v ack)
    (sym (ap (λ b. if b then new else (new || not (is_off v ack))) received ∙ ap (λ b. b || not (is_off v ack)) old) ∙ t.read.on) in
    let past_fin : View = if is_of_fin v ack then fin_acknowledged (after_new_ack v ack) else after_new_ack v ack in
    ap (λ b. if b then (if new then after_establishment v else v) else if new then past_fin else if is_off v ack then owing_ack v else v) received
    ∙ ap (λ b. if b then past_fin else if is_off v ack then owing_ack v else v) old
    ∙ ap (λ b. if b then owing_ack v else v) within

-- it tells of the window at most
told_alone : (v : View) (s : Segment) → v.sending.una < 2 ^ 32 → is_closed v.state ≡ false → IsTwice v s → after_heard v s ≡ after_window v s
told_alone v s fits lives t =
    let w = after_window v s in
    let end = (s.number + length s.octets) % 2 ^ 32 in
    let kept : is_lost v s ≡ false =
    ap (λ b. v.released && is_receiving v.state && is_read v s && (not b && is_before v.receiving.rnext end)) t.empty ∙ and_false (v.released && is_receiving v.state && is_read v s) in
    let text : after_text w s ≡ w = either View (λ x. x ≡ w) ((length s.octets == 0) || not (is_receiving w.state)) w _ (λ none. refl)
    (λ some. clash (length s.octets == 0) t.empty (first_false (length s.octets == 0) (not (is_receiving w.state)) some)) in
    let fin : after_fin w s ≡ w = either View (λ x. x ≡ w) (counts_fin w s) _ _
    (λ counts. clash s.flags.fin (and_left s.flags.fin (is_receiving w.state) (and_left (s.flags.fin && is_receiving w.state) _ counts)) t.no_fin)
    (λ other. either View (λ x. x ≡ w) (s.flags.fin && is_receiving w.state) (owing_ack w) w (λ ahead. clash s.flags.fin (and_left s.flags.fin (is_receiving w.state) ahead) t.no_fin) (λ none. refl)) in
    ap (λ b. if b then after_lost v s else after_segment v s) kept
    ∙ reads v s lives (past_opening v.state t.opened).0 t.read
    ∙ ap (λ x. after_fin (after_text (after_window x s) s) s) (old_ack v s fits t)
    ∙ ap (λ x. after_fin x s) text
    ∙ fin
  where
    first_false : (a b : Bool) → (a || b) ≡ false → a ≡ false
    first_false true b e = cc
    first_false false b e = refl

-- the numbers stay
numbers_stay : (v : View) (s : Segment) → ((after_window v s).sending.una ≡ v.sending.una) × (outstanding (after_window v s).sending ≡ outstanding v.sending)
numbers_stay v s =
    either Sending (λ t. (t.una ≡ v.sending.una) × (outstanding t ≡ outstanding v.sending)) (updates_window v.sending s.number s.acknowledgement) _ v.sending
    (λ tells. (refl, refl)) (λ none. (refl, refl))

-- by it the segment at SND.UNA is lost
loses : (v : View) (s : Segment) (now : Moment) → is_closed v.state ≡ false → is_counted_duplicate v s ≡ true → third_is_next v.congestion ≡ true
    → (let b = before v s in let w = after_window v s in resend_after b w now ≡ resend_lost (resend_told b w now) (repairs w.congestion.control) (outstanding w.sending))
loses v s now lives is third =
    let b = before v s in
    let w = after_window v s in
    let other : Signal = if reports_more b w then report_signal (told b w) else Nothing in
    let signal : Signal = if is_moved b w then (if is_opening b.state then Begins else acknowledged_signal b (told b w) (b.held - length w.sending.held) (reports_more b w)) else if b.is_duplicate then Counts (Duplicate (outstanding w.sending)) else other in
    let still : is_moved b w ≡ false = ap (λ n. not (v.sending.una == n)) (numbers_stay v s).0 ∙ unmoved v in
    let event : congestion_event_of b w ≡ Counts (Duplicate (outstanding w.sending)) =
    ap (λ t. if t then Nothing else signal) lives
    ∙ ap (λ t. if t then (if is_opening b.state then Begins else acknowledged_signal b (told b w) (b.held - length w.sending.held) (reports_more b w)) else if b.is_duplicate then Counts (Duplicate (outstanding w.sending)) else other) still
    ∙ ap (λ t. if t then Counts (Duplicate (outstanding w.sending)) else other) is in
    let resend = resend_told b w now in
    ap (λ g. resend_signalled resend g w.congestion (outstanding w.sending)) event ∙ ap (λ t. if t then resend_lost resend (repairs w.congestion.control) (outstanding w.sending) else resend) third

pub third_resends : (v : View) (s : Segment) (now : Moment) → IsSound v → is_closed v.state ≡ false → is_counted_duplicate v s ≡ true → third_is_next v.congestion ≡ true
    → (first_due (after_segment_at v s now) ≡ Some (Text (again (after_segment_at v s now) 0))) × ((after_segment_at v s now).resend.once ≡ true)
third_resends v s now sound lives is third =
    let t = twice v s (and_left (is_duplicate v s) (counts_duplicates v) is) in
    let opened = past_opening v.state t.opened in
    let w = after_window v s in
    let x = timed_by (before v s) w now in
    let at : after_segment_at v s now ≡ x = comes_to v s now lives (not_rejected v s opened.0 opened.1) ∙ ap (λ u. timed_by (before v s) u now) (told_alone v s sound.una lives t) in
    let lost = loses v s now lives is third in
    let mark : x.resend.mark ≡ Some 0 =
    kept_mark v s w now (inl opened.1) ∙ ap (λ (p : Resend). p.mark) lost ∙ ap (λ n. mark_past 0 n) (numbers_stay v s).1 ∙ ap (λ b. if b then Some 0 else None) t.some in
    let due : first_due x ≡ Some (Text (again x 0)) = first_at_una x (unowed v.owes_reset (is_closed v.state) v.released lives sound.reset) t.opened mark (ap (λ (p : Resend). p.once) lost)
    (subst (AreApart 1) (sym (ap (λ (p : Resend). p.reported) lost ∙ ap (with_blocks v.resend.reported w.sending) (silent_unselected v s (counted_selects_none v (and_right (is_duplicate v s) (counts_duplicates v) is))))) sound.resend.reported.apart)
    (ltb-true 0 (outstanding x.sending) (ap (nat_lt 0) (numbers_stay v s).1 ∙ t.some)) in
    subst (λ u. (first_due u ≡ Some (Text (again u 0))) × (u.resend.once ≡ true)) (sym at) (due, ap (λ (p : Resend). p.once) lost)

-- No other.

-- past the opening a segment puts nothing out again
ack_marks_none : (v : View) (ack : ℕ) → v.resend.mark ≡ None → (after_ack v ack).resend.mark ≡ None
ack_marks_none v ack none =
    let left : (gained out : ℕ) → mark_left v.resend.mark gained out ≡ None = λ gained out. ap (λ m. mark_left m gained out) none in
    let sending = (after_new_ack v ack).sending in
    by_ack (λ w. w.resend.mark ≡ None) v ack (record {
      old = none;
      beyond = none;
      opens = λ received new. refl;
      octets = λ new. left (past ack v.sending.una) (outstanding sending);
      fin = λ new fin. let p = (after_new_ack v ack).resend in
          either Resend (λ q. q.mark ≡ None) (is_closed (beyond_fin v.state)) (stopped p) p (λ closed. refl) (λ lives. left (past ack v.sending.una) (outstanding sending));
    })

heard_marks_none : (v : View) (s : Segment) → is_opening v.state ≡ false → v.resend.mark ≡ None → (after_heard v s).resend.mark ≡ None
heard_marks_none v s opened none =
    let told = after_window (after_ack v s.acknowledgement) s in
    let text = after_text told s in
    let acked = ack_marks_none v s.acknowledgement none in
    by_hearing (λ w. w.resend.mark ≡ None) v s refl (record {
      dropped = none;
      drawn = none;
      reset = λ acts. refl;
      crossed = λ waits. clash (is_syn_sent v.state) waits (past_opening v.state opened).0;
      opened = λ waits right. refl;
      acknowledged = λ taken. acked;
      read = λ on.
          let read : text.resend.mark ≡ None = either View (λ w. w.resend.mark ≡ None) ((length s.octets == 0) || not (is_receiving told.state)) told _ (λ none. acked) (λ some. acked) in
          by_fin (λ w. w.resend.mark ≡ None) text s (λ counts. read) read read;
    })

-- a third duplicate ACK, and where a recovery goes on a partial one, put a segment out again, and nothing else
pub others_unlost : (b : Before) (w : View) (now : Moment) → goes_on w.congestion ≡ false → (b.is_duplicate && third_is_next w.congestion) ≡ false → (reports_more b w && tells_loss (told_behind b w)) ≡ false
    → resend_after b w now ≡ resend_told b w now
others_unlost b w now stands other unreported =
    let resend = resend_told b w now in
    signalled b w (λ g. resend_signalled resend g w.congestion (outstanding w.sending) ≡ resend) refl refl
    (λ moves opened whole. ap (λ t. if t then resend_ends resend else resend) (ends_none w.congestion stands))
    (λ moves opened goes. clash (goes_on w.congestion) (and_left (goes_on w.congestion) (nat_lt 0 w.resend.recover) goes) stands)
    (λ stays twice. ap (λ t. if t then resend_lost resend (repairs w.congestion.control) (outstanding w.sending) else resend) (second_false b.is_duplicate (third_is_next w.congestion) twice other))
    (λ stays more counts.
    let early : tells_loss (told b w) ≡ false = ap tells_loss (sym (told_still b w stays)) ∙ second_false (reports_more b w) (tells_loss (told_behind b w)) more unreported in
    ap (λ t. resend_signalled resend (Counts (if t then Loss (outstanding w.sending) else Duplicate (outstanding w.sending))) w.congestion (outstanding w.sending)) early
    ∙ ap (λ t. if t then resend_lost resend (repairs w.congestion.control) (outstanding w.sending) else resend) (unless (third_is_next w.congestion) (tells_loss (told b w)) counts early))
    (λ moves opened more.
    let n = b.held - length w.sending.held in
    let early : tells_loss (behind_ack (told b w) n) ≡ false = ap tells_loss (sym (told_moved b w moves)) ∙ second_false (reports_more b w) (tells_loss (told_behind b w)) more unreported in
    ap (λ t. resend_signalled resend (Both (NewAck n (outstanding w.sending)) (if t then Loss (outstanding w.sending) else Duplicate (outstanding w.sending))) w.congestion (outstanding w.sending)) early
    ∙ ap (λ t. if t then resend_ends resend else resend) (ends_none w.congestion stands))
    (λ moves opened whole ends. refl)
  where
    unless : (x y : Bool) → (x && not y) ≡ false → y ≡ false → x ≡ false
    unless true y e f = sym (ap not f) ∙ e
    unless false y e f = refl

    second_false : (x y : Bool) → x ≡ true → (x && y) ≡ false → y ≡ false
    second_false true y e f = f
    second_false false y e f = cc

pub others_resend_none : (v : View) (s : Segment) (now : Moment) → IsSound v → v.resend.mark ≡ None → is_opening v.state ≡ false → goes_on v.congestion ≡ false → (is_counted_duplicate v s && third_is_next v.congestion) ≡ false → reports_loss v s ≡ false → reopens_by v s ≡ false
    → (after_segment_at v s now).resend.mark ≡ None
others_resend_none v s now sound none opened stands other unreported shut =
    let b = before v s in
    let w = after_heard v s in
    by_clock (λ x. x.resend.mark ≡ None) v s now none
    (λ lives. kept_mark v s w now (inl (past_opening v.state opened).1) ∙ ap (λ (p : Resend). p.mark) (others_unlost b w now (ap goes_on (window_kept v s) ∙ stands) (ap (λ c. is_counted_duplicate v s && third_is_next c) (window_kept v s) ∙ other) unreported)
    ∙ (mark_heard b w now shut ∙ heard_marks_none v s opened none))

-- That segment alone.

pub resends_alone : (v : View) (stretch : Stretch) (now : Moment) → is_alone v.resend ≡ true → nat_lt stretch.offset (outstanding v.sending) ≡ true → (after_emitted v (Text stretch) now).resend.mark ≡ None
resends_alone v stretch now once again =
    let P : View → Type 0 = λ w. w.resend.mark ≡ None in
    let sent = after_numbers v stretch.offset (end_of stretch) now in
    let resent = after_resent v (end_of stretch) in
    let none : P sent = either View P (nat_lt stretch.offset (outstanding v.sending)) resent (after_first_sent v (end_of stretch) now)
    (λ before. ap (λ b. if b then None else mark_past (end_of stretch) (outstanding resent.sending)) once) (λ first. clash (nat_lt stretch.offset (outstanding v.sending)) again first) in
    either View P (brings_new_octets v stretch) (after_new_text sent stretch) sent (λ new. none) (λ old. none)
