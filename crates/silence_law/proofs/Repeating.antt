-- What a segment that acknowledges nothing new makes of what goes out again.
use Rattle.std.proofs.Common.{◌≡◌, ℕ, ◌+◌, ◌-◌, ◌<◌, ◌≤◌, ◌==◌, ◌||◌, ◌&&◌, ◌⊎◌, inl, inr, not, nat_lt, if◌then◌else◌, Bool, true, false, Option, Some, None, length, arith, refl, sym, ◌∙◌, ap, ap₂, subst}
use Rattle.std.proofs.lemmas.Bool.{ltb-true, leb-true, leb-false, eqb-true}
use Rattle.clock.specs.declared.moment.Moment.{Moment}
use Rattle.congestion.specs.Window.{Window, is_recovering, third_is_next}
use Rattle.congestion.specs.Events.{Event}
use Rattle.congestion.specs.Events.Event.{Duplicate, Loss}
use Rattle.tcp_segment.specs.Segment.{Segment}
use Rattle.tcp_segment.specs.Wire.{past}
use Rattle.tcp_halves.specs.Halves.{Sending}
use Rattle.tcp_halves.specs.Stream.{outstanding, is_new_ack}
use Rattle.tcp_halves.specs.Windows.{window_in}
use Rattle.tcp_halves.proofs.Choices.{either, by, clash, and_left, not_true}
use Rattle.tcp_state.specs.Congestion.{Signal, after_signal}
use Rattle.tcp_state.specs.Congestion.Signal.{Begins, Counts, Nothing}
use Rattle.tcp_state.specs.View.{View, IsSound, is_opening, is_syn_sent, is_syn_received, is_closed}
use Rattle.tcp_state.specs.Resend.{Resend}
use Rattle.tcp_state.specs.Most.{one_if, left_from}
use Rattle.tcp_state.specs.Timing.{probes}
use Rattle.tcp_state.specs.Arrival.{is_receiving, counts_reports, after_ack, after_window, after_text, after_heard, before, is_moved, reopens_by, resend_told, told, reports_more, tells_loss, report_event, report_signal, acknowledged_signal, resend_signalled, congestion_event_of, resend_after, timed_by, after_segment_at}
use Rattle.tcp_state.proofs.Clocked.{unmoved, comes_to, mark_heard, probes_kept}
use Rattle.tcp_state.proofs.Congestion.{window_kept}
use Rattle.tcp_state.proofs.Guarded.{kept_mark}
use Rattle.tcp_state.proofs.Losses.{past_opening}
use Rattle.tcp_state.proofs.Onward.{told_una}
use Rattle.tcp_state.proofs.Segments.{after_reading, by_fin, by_ack, by_hearing, reading_sends, not_rejected}
use Rattle.tcp_state.proofs.AckNumbers.{probed_is_one}
use Rattle.tcp_state.proofs.Recovering.{heard_left}
use Rattle.tcp_state.proofs.Reopening.{reopened_alone}
use Rattle.silence_law.proofs.Measure.{left_of}
use Rattle.silence_law.proofs.Emitting.{one_at_most}

-- The retransmission state without the clock.

-- it acknowledges nothing new
pub new_moves : (v : View) (ack : ℕ) → IsSound v → is_new_ack v.sending ack ≡ true → ack ≡ v.sending.una → ⊥
new_moves v ack sound new same =
    let some = ltb-true 0 (past ack v.sending.una) (and_left (nat_lt 0 (past ack v.sending.una)) _ new) in
    omega (arith, some, sound.una, ap (λ n. past n v.sending.una) same)

ack_stays : (v : View) (ack : ℕ) → IsSound v → is_opening v.state ≡ false → (after_ack v ack).sending.una ≡ v.sending.una → (after_ack v ack).resend ≡ v.resend
ack_stays v ack sound opened = by_ack (λ w. w.sending.una ≡ v.sending.una → w.resend ≡ v.resend) v ack (record {
  old = λ same. refl;
  beyond = λ same. refl;
  opens = λ received new same. clash (is_syn_received v.state) received (past_opening v.state opened).1;
  octets = λ new same. absurd (new_moves v ack sound new same);
  fin = λ new fin same. absurd (new_moves v ack sound new same);
})

reading_resends : (v : View) (s : Segment) → (after_reading v s).resend ≡ (after_ack v s.acknowledgement).resend
reading_resends v s =
    let a = after_ack v s.acknowledgement in
    let P : View → Type 0 = λ w. w.resend ≡ a.resend in
    let w = after_window a s in
    let text : P (after_text w s) = either View P ((length s.octets == 0) || not (is_receiving w.state)) w _ (λ none. refl) (λ some. refl) in
    by_fin P (after_text w s) s (λ counts. text) text text

pub resend_stays : (v : View) (s : Segment) → IsSound v → is_opening v.state ≡ false → is_closed (after_heard v s).state ≡ false → (after_heard v s).sending.una ≡ v.sending.una → (after_heard v s).resend ≡ v.resend
resend_stays v s sound opened =
    let P : View → Type 0 = λ w. is_closed w.state ≡ false → w.sending.una ≡ v.sending.una → w.resend ≡ v.resend in
    let gone = past_opening v.state opened in
    let a = after_ack v s.acknowledgement in
    by_hearing P v s (λ closed same. let bad : true ≡ false = closed in cc) (record {
      dropped = λ on same. refl;
      drawn = λ on same. refl;
      reset = λ acts closed same. let bad : true ≡ false = closed in cc;
      crossed = λ still on same. clash (is_syn_sent v.state) still gone.0;
      opened = λ still right on same. clash (is_syn_sent v.state) still gone.0;
      acknowledged = λ taken on same. ack_stays v s.acknowledgement sound opened same;
      read = λ read on same.
          let una : (after_reading v s).sending.una ≡ a.sending.una = ap (λ (t : Sending). t.una) (reading_sends v s) ∙ told_una a.sending s.number s.acknowledgement (window_in a.sending s.window) in
          reading_resends v s ∙ ack_stays v s.acknowledgement sound opened (sym una ∙ same);
    })

-- Duplicate ACKs.

-- one more counts, up to the third; or none does, and what goes out again stays
abbrev Counted : Window → Resend → Window → Resend → Type 0
Counted c p d q = (3 - d.duplicates < 3 - c.duplicates) ⊎ ((d.duplicates ≡ c.duplicates) × (q ≡ p))

counts_one : (c : Window) (p : Resend) (flight smss outstanding : ℕ) (resent : Bool) → Counted c p (after_signal c (Counts (Duplicate flight)) smss resent) (resend_signalled p (Counts (Duplicate flight)) c outstanding)
counts_one c p flight smss outstanding resent =
    let C : Window → Type 0 = λ d. Counted c p d (resend_signalled p (Counts (Duplicate flight)) c outstanding) in
    either Window C (is_recovering c) _ _
    (λ runs.
    let three = leb-true 3 c.duplicates runs in
    inr (refl, either Resend (λ q. q ≡ p) (third_is_next c) _ p (λ third. let two = eqb-true c.duplicates 2 third in absurd (omega (arith, three, two))) (λ other. refl)))
    (λ none.
    let few = leb-false 3 c.duplicates none in
    inl (either Window (λ d. 3 - d.duplicates < 3 - c.duplicates) (third_is_next c) _ _ (λ third. omega (arith, few)) (λ other. omega (arith, few))))

loses_one : (c : Window) (p : Resend) (flight smss outstanding : ℕ) (resent : Bool) → is_recovering c ≡ false → Counted c p (after_signal c (Counts (Loss flight)) smss resent) (resend_signalled p (Counts (Loss flight)) c outstanding)
loses_one c p flight smss outstanding resent none = let few = leb-false 3 c.duplicates none in inl (omega (arith, few))

counted : (v : View) (s : Segment) (now : Moment) → (after_heard v s).sending.una ≡ v.sending.una → (let b = before v s in let x = after_heard v s in
    let g = congestion_event_of b x in Counted x.congestion (resend_told b x now) (after_signal x.congestion g x.sending.smss x.resend.syn_resent) (resend_after b x now))
counted v s now same =
    let b = before v s in
    let x = after_heard v s in
    let p = resend_told b x now in
    let out = outstanding x.sending in
    let P : Signal → Type 0 = λ g. Counted x.congestion p (after_signal x.congestion g x.sending.smss x.resend.syn_resent) (resend_signalled p g x.congestion out) in
    let nothing : P Nothing = inr (refl, refl) in
    let stays : is_moved b x ≡ false = ap (λ n. not (v.sending.una == n)) same ∙ unmoved v in
    let one : P (Counts (Duplicate out)) = counts_one x.congestion p out x.sending.smss out x.resend.syn_resent in
    let more = reports_more b x in
    let goal : P (congestion_event_of b x) =
    either Signal P (is_closed x.state) Nothing _ (λ closed. nothing)
    (λ lives. either Signal P (is_moved b x) (if is_opening b.state then Begins else acknowledged_signal b (told b x) (b.held - length x.sending.held) more) _ (λ moves. clash (is_moved b x) moves stays)
    (λ still. either Signal P b.is_duplicate (Counts (Duplicate out)) _ (λ twice. one)
    (λ other. either Signal P more (report_signal (told b x)) Nothing
    (λ reports.
    let not_running : is_recovering x.congestion ≡ false = ap is_recovering (window_kept v s) ∙ not_true (is_recovering v.congestion) (and_left (not (is_recovering v.congestion)) (v.resend.recover == 0) (and_left (not (is_recovering v.congestion) && (v.resend.recover == 0)) (not (probes v)) (and_left (counts_reports v) _ reports))) in
    either Signal P (third_is_next x.congestion && not (tells_loss (told b x))) Nothing (Counts (report_event (told b x))) (λ waits. nothing)
    (λ counts. either Event (λ e. P (Counts e)) (tells_loss (told b x)) (Loss out) (Duplicate out) (λ loss. loses_one x.congestion p out x.sending.smss out x.resend.syn_resent not_running) (λ early. one)))
    (λ none. nothing)))) in
    goal

-- With the clock.

pub left_few : (mark : Option ℕ) (out : ℕ) → left_from mark out ≤ out
left_few None out = omega arith
left_few (Some mark) out = omega arith

owed_less : (a b : Bool) → one_if (a && b) ≤ one_if a
owed_less true b = one_at_most b
owed_less false b = omega arith

-- one more duplicate ACK counts; or no more goes out again, but for one number that only a probe took, where the window opens
abbrev pub Repeats : View → Segment → View → Type 0
Repeats v s w = (3 - w.congestion.duplicates < 3 - v.congestion.duplicates)
    ⊎ ((w.congestion.duplicates ≡ v.congestion.duplicates) × ((left_of w ≤ left_of v) ⊎ ((reopens_by v s ≡ true) × (left_of w ≤ left_of v + 1))))

-- what only a probe took goes out again, once the window is open
pub reopens_probed : (v : View) (s : Segment) → is_opening v.state ≡ false → reopens_by v s ≡ true → v.sending.probed ≡ true
reopens_probed v s opened again = by (v.sending.probed ≡ true) v.sending.probed (λ probed. probed) (λ unprobed. clash (reopens_by v s) again (reopened_alone v s opened (inr (inl unprobed))))

pub repeats : (v : View) (s : Segment) (now : Moment) → IsSound v → is_closed v.state ≡ false → is_opening v.state ≡ false → (let w = after_segment_at v s now in is_closed w.state ≡ false → w.sending.una ≡ v.sending.una → Repeats v s w)
repeats v s now sound living opened =
    let b = before v s in
    let x = after_heard v s in
    let u = timed_by b x now in
    let gone = past_opening v.state opened in
    let at = comes_to v s now living (not_rejected v s gone.0 gone.1) in
    subst (λ (w : View). is_closed w.state ≡ false → w.sending.una ≡ v.sending.una → Repeats v s w) (sym at)
    (λ lives same.
    let resend = resend_stays v s sound opened lives same in
    let window = window_kept v s in
    let nxt : x.sending.nxt ≡ v.sending.nxt = (heard_left v s sound).1 in
    let out : outstanding x.sending ≡ outstanding v.sending = ap₂ (λ n m. past n m) nxt same in
    let probe : one_if u.resend.owes_probe ≤ one_if v.resend.owes_probe =
    subst (λ o. one_if u.resend.owes_probe ≤ one_if o) (probes_kept b x now ∙ ap (λ (p : Resend). p.owes_probe) resend) (owed_less (resend_after b x now).owes_probe (probes x)) in
    elim (counted v s now same) [
      | inl less ↦ inl (subst (λ (c : Window). 3 - u.congestion.duplicates < 3 - c.duplicates) window less)
      | inr kept ↦ inr (
        kept.0 ∙ ap (λ (c : Window). c.duplicates) window,
        by _ (reopens_by v s)
            (λ again.
            let one = probed_is_one v sound living (reopens_probed v s opened again) in
            let few = left_few u.resend.mark (outstanding x.sending) in
            inr (again, omega (arith, one, few, out, probe)))
            (λ shut.
            let mark : u.resend.mark ≡ v.resend.mark = kept_mark v s x now (inl gone.1) ∙ ap (λ (p : Resend). p.mark) kept.1 ∙ mark_heard b x now shut ∙ ap (λ (p : Resend). p.mark) resend in
            let left : left_from u.resend.mark (outstanding x.sending) ≡ left_from v.resend.mark (outstanding v.sending) = ap₂ left_from mark out in
            inl (omega (arith, left, probe))),
      )
    ])
