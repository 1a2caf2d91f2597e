-- What is measured of a round trip: the next numbers that are new, until they come back, or go out again.
use Rattle.std.proofs.Common.{◌≡◌, ◌≢◌, ℕ, suc, ◌≤◌, ◌==◌, ◌⊎◌, not, if◌then◌else◌, true, false, Option, Some, None, inl, inr, arith, refl, sym, ◌∙◌, ap, subst}
use Rattle.std.proofs.lemmas.Bool.{eq-eqb, le-ltb}
use Rattle.std.proofs.lemmas.Bool.Decides.{leb_tells}
use Rattle.tcp_segment.specs.Segment.{Segment}
use Rattle.clock.specs.declared.moment.Moment.{Moment}
use Rattle.clock.specs.Moments.{has_come}
use Rattle.tcp_state.specs.declared.arrival.Before.{Before}
use Rattle.tcp_state.specs.declared.emission.Due.{Due}
use Rattle.tcp_state.specs.declared.emission.Due.TheVariants.{Rst, Syn, Text, Probe, Ack, KeepAlive}
use Rattle.tcp_state.specs.declared.emission.Stretch.{Stretch}
use Rattle.tcp_state.specs.declared.resend.Timed.{Timed}
use Rattle.tcp_halves.specs.Halves.{Sending}
use Rattle.tcp_halves.specs.Numbers.{is_before}
use Rattle.tcp_halves.specs.Stream.{outstanding}
use Rattle.tcp_halves.proofs.Choices.{either, by, clash, not_true}
use Rattle.tcp_state.specs.Resend.{Resend, timing_of, timed_left, resend_acknowledged}
use Rattle.tcp_state.specs.View.{View, IsSound, is_opening, is_closed, is_syn_received}
use Rattle.tcp_state.specs.Alive.{after_silence}
use Rattle.tcp_state.specs.Timing.{clocked, retransmission_expired, probe_expired, after_timers}
use Rattle.tcp_state.specs.Arrival.{after_heard, before, is_moved, resend_answered, resend_heard, resend_after, timed_by}
use Rattle.tcp_state.specs.Due.{first_due, sends_again, end_of, after_resent, after_first_sent, after_numbers, after_new_text, brings_new_octets, after_syn_ack_paid, after_syn_out, after_emitted}
use Rattle.tcp_state.specs.Edges.{Event, Hears, Emits, after_first, after_event}
use Rattle.tcp_state.specs.Counted.{BringsNew, BringsAgain}
use Rattle.tcp_state.proofs.Clocked.{by_others, syn_out, after_paced}
use Rattle.tcp_state.proofs.Emissions.{numbers_send}
use Rattle.tcp_state.proofs.Events.{by_event}
use Rattle.tcp_state.proofs.GoesOut.{due-may}
use Rattle.tcp_state.proofs.Measured.{not_timed}
use Rattle.tcp_state.proofs.Resends.{segment_hears}
use Rattle.tcp_state.proofs.Timeouts.{timed_still}

-- New numbers go out.

-- what is measured goes on, or begins with them
abbrev Times : View → Moment → View → Type 0
Times v now w = w.resend.timed ≡ timing_of v.resend.timed w.sending.nxt now

numbers_time : (v : View) (offset end : ℕ) (now : Moment) → outstanding v.sending ≤ offset → Times v now (after_numbers v offset end now)
numbers_time v offset end now past =
    ap (λ b. let w = if b then after_resent v end else after_first_sent v end now in w.resend.timed) (le-ltb offset (outstanding v.sending) past)
    ∙ ap (λ (s : Sending). timing_of v.resend.timed s.nxt now) (sym (numbers_send v offset end now))

new_times : (v : View) (due : Due) (now : Moment) → BringsNew v due → Times v now (after_emitted v due now)
new_times v Syn now new = elim new [
  | inl first ↦
      let none = first.1 in
      let sent = after_syn_out v now in
      let numbers = numbers_time v 0 1 now (omega (arith, none)) in
      let all : Times v now sent = syn_out v now (Times v now) numbers numbers in
      either View (Times v now) (is_syn_received v.state) (after_syn_ack_paid sent) sent (λ received. all) (λ waits. all)
  | inr stretch ↦ let bad : Syn ≡ Text stretch.0 = stretch.1 in cc
]
new_times v (Text stretch) now new = elim new [
  | inl first ↦ let bad : Text stretch ≡ Syn = first.0 in cc
  | inr other ↦
      let e : Text stretch ≡ Text other.0 = other.1 in
      let same : other.0 ≡ stretch = cc in
      let sent = after_numbers v stretch.offset (end_of stretch) now in
      let numbers = numbers_time v stretch.offset (end_of stretch) now (subst (λ (t : Stretch). outstanding v.sending ≤ t.offset) same other.2) in
      either View (Times v now) (brings_new_octets v stretch) (after_new_text sent stretch) sent (λ octets. numbers) (λ fin. numbers)
]
new_times v Rst now new = elim new [ inl first ↦ let bad : Rst ≡ Syn = first.0 in cc | inr stretch ↦ let bad : Rst ≡ Text stretch.0 = stretch.1 in cc ]
new_times v Probe now new = elim new [ inl first ↦ let bad : Probe ≡ Syn = first.0 in cc | inr stretch ↦ let bad : Probe ≡ Text stretch.0 = stretch.1 in cc ]
new_times v Ack now new = elim new [ inl first ↦ let bad : Ack ≡ Syn = first.0 in cc | inr stretch ↦ let bad : Ack ≡ Text stretch.0 = stretch.1 in cc ]
new_times v KeepAlive now new = elim new [ inl first ↦ let bad : KeepAlive ≡ Syn = first.0 in cc | inr stretch ↦ let bad : KeepAlive ≡ Text stretch.0 = stretch.1 in cc ]

pub new_are_measured : (v : View) (due : Due) (now : Moment) → first_due v ≡ Some due → BringsNew v due → v.resend.timed ≡ None
    → (timed : Timed) × ((after_event v (Emits now)).resend.timed ≡ Some timed) × (timed.end.0 ≡ (after_event v (Emits now)).sending.nxt) × (timed.since ≡ now)
new_are_measured v due now first new none =
    let w = after_emitted v due now in
    let out : after_event v (Emits now) ≡ w = ap (λ o. after_first v o now) first in
    let begins : w.resend.timed ≡ Some (record { end = record { 0 = w.sending.nxt }; since = now }) = new_times v due now new ∙ ap (λ o. timing_of o w.sending.nxt now) none in
    (record { end = record { 0 = w.sending.nxt }; since = now }, ap (λ (x : View). x.resend.timed) out ∙ begins, sym (ap (λ (x : View). x.sending.nxt) out), refl)

-- It goes on.

-- why what was measured is measured no longer
abbrev Ends : View → Event → Timed → View → Type 0
Ends v e timed w = (is_closed w.state ≡ true)
    ⊎ (((s : Segment) × (now : Moment) × (e ≡ Hears s now) × (w.sending.una ≢ v.sending.una) × (is_before w.sending.una timed.end.0 ≡ false))
    ⊎ ((now : Moment) × (due : Due) × (e ≡ Emits now) × (first_due v ≡ Some due) × BringsAgain v due))

abbrev GoesOn : View → Event → Timed → View → Type 0
GoesOn v e timed w = (w.resend.timed ≡ Some timed) ⊎ ((w.resend.timed ≡ None) × Ends v e timed w)

loss_leaves : (b : Before) (w : View) (now : Moment) → (resend_after b w now).timed ≡ (resend_heard b w now).timed
loss_leaves b w now = after_paced b w now (λ p. p.timed ≡ (resend_heard b w now).timed) refl refl (λ r. refl) refl

unmoved : (b : Before) (w : View) (now : Moment) → is_moved b w ≡ false → (resend_heard b w now).timed ≡ w.resend.timed
unmoved b w now stays =
    ap (λ c. let p = if c then resend_acknowledged w.resend w.sending.una (is_opening b.state) now else if b.answers_probe then resend_answered w else w.resend in p.timed) stays
    ∙ either Resend (λ p. p.timed ≡ w.resend.timed) b.answers_probe (resend_answered w) w.resend (λ answers. refl) (λ other. refl)

moved : (b : Before) (w : View) (now : Moment) → is_moved b w ≡ true → (resend_heard b w now).timed ≡ timed_left w.resend.timed w.sending.una
moved b w now moves = ap (λ c. let p = if c then resend_acknowledged w.resend w.sending.una (is_opening b.state) now else if b.answers_probe then resend_answered w else w.resend in p.timed) moves

heard_goes_on : (v : View) (s : Segment) (now : Moment) (timed : Timed) → v.resend.timed ≡ Some timed → GoesOn v (Hears s now) timed (timed_by (before v s) (after_heard v s) now)
heard_goes_on v s now timed is =
    let b = before v s in
    let x = after_heard v s in
    let G : Type 0 = GoesOn v (Hears s now) timed (timed_by b x now) in
    let none : (resend_heard b x now).timed ≡ None → Ends v (Hears s now) timed (timed_by b x now) → G = λ gone why. inr (loss_leaves b x now ∙ gone, why) in
    let measured : x.resend.timed ≡ Some timed → G = λ still.
    by G (is_moved b x)
    (λ moves.
    let apart : x.sending.una ≢ v.sending.una = λ same. clash (v.sending.una == x.sending.una) (eq-eqb v.sending.una x.sending.una (sym same)) (not_true (v.sending.una == x.sending.una) moves) in
    let left : (resend_heard b x now).timed ≡ (if not (is_before x.sending.una timed.end.0) then None else Some timed) = moved b x now moves ∙ ap (λ o. timed_left o x.sending.una) still in
    by G (is_before x.sending.una timed.end.0)
    (λ early. inl (loss_leaves b x now ∙ (left ∙ ap (λ c. if not c then None else Some timed) early)))
    (λ reached. none (left ∙ ap (λ c. if not c then None else Some timed) reached) (inr (inl (s, now, refl, apart, reached)))))
    (λ stays. inl (loss_leaves b x now ∙ (unmoved b x now stays ∙ still))) in
    by G (is_closed x.state)
    (λ closed. elim (segment_hears v s).timed [
      | inl same ↦ measured (same ∙ is)
      | inr gone ↦ none (by ((resend_heard b x now).timed ≡ None) (is_moved b x) (λ moves. moved b x now moves ∙ ap (λ o. timed_left o x.sending.una) gone) (λ stays. unmoved b x now stays ∙ gone)) (inl closed)
    ])
    (λ alive. measured (timed_still v s alive ∙ is))

-- what goes out
emitted_goes_on : (v : View) (now : Moment) (timed : Timed) → IsSound v → v.resend.timed ≡ Some timed → GoesOn v (Emits now) timed (after_first v (first_due v) now)
emitted_goes_on v now timed sound is = sent (first_due v) refl
  where
    again : (due : Due) → first_due v ≡ Some due → sends_again v due ≡ true → BringsAgain v due → GoesOn v (Emits now) timed (after_emitted v due now)
    again due first old brings = inr (not_timed v due now (due-may v due sound first) old, inr (inr (now, due, refl, first, brings)))

    new : (due : Due) → BringsNew v due → GoesOn v (Emits now) timed (after_emitted v due now)
    new due brings = inl (new_times v due now brings ∙ ap (λ o. timing_of o (after_emitted v due now).sending.nxt now) is)

    sent : (o : Option Due) → first_due v ≡ o → GoesOn v (Emits now) timed (after_first v o now)
    sent None first = inl is
    sent (Some Rst) first = inl is
    sent (Some Syn) first = elim (leb_tells 1 (outstanding v.sending)) [
      | inl t ↦ again Syn first t.0 (inr (inl (refl, t.1)))
      | inr t ↦ let none = t.1 in new Syn (inl (refl, omega (arith, none)))
    ]
    sent (Some (Text stretch)) first = elim (leb_tells (suc stretch.offset) (outstanding v.sending)) [
      | inl t ↦ again (Text stretch) first t.0 (inr (inr (stretch, refl, t.1)))
      | inr t ↦ let past = t.1 in new (Text stretch) (inr (stretch, refl, omega (arith, past)))
    ]
    sent (Some Probe) first = again Probe first refl (inl refl)
    sent (Some Ack) first = inl is
    sent (Some KeepAlive) first = inl is

acts_on : (v : View) (now : Moment) → (clocked false (after_timers v now) now).resend.timed ≡ v.resend.timed
acts_on v now =
    by_others (λ w. w.resend.timed ≡ v.resend.timed) v now
    (either View (λ w. w.resend.timed ≡ v.resend.timed) (has_come v.timers.retransmission now) (retransmission_expired v) _ (λ comes. refl)
    (λ late. either View (λ w. w.resend.timed ≡ v.resend.timed) (has_come v.timers.probe now) (probe_expired v now) v (λ probes. refl) (λ rests. refl)))
    (λ w owes same. same) (λ w same. same)

pub measuring_goes_on : (v : View) (e : Event) (timed : Timed) → IsSound v → v.resend.timed ≡ Some timed → GoesOn v e timed (after_event v e)
measuring_goes_on v e timed sound is = by_event (λ e w. GoesOn v e timed w) v (record {
  same = λ e. inl is;
  asks = λ e alive. inl is;
  silent = λ now. inl is;
  heard = λ s now lives. heard_goes_on v s now timed is;
  over = λ now ends. inr (refl, inl refl);
  given_up = λ now waits expired. inr (refl, inl refl);
  acts = λ now. inl (acts_on (after_silence v now) now ∙ is);
  emits = λ now. emitted_goes_on v now timed sound is;
  sends = λ octets taken now opened. inl is;
  reads = λ len. inl is;
  shuts = λ now. inl is;
  delays = λ on now. inl is;
  leaves = λ now lives. inl is;
  aborts = λ e now at cause lives. inr (refl, inl refl);
  refused = λ number hit. inr (refl, inl refl);
  hopless = λ now over. inr (refl, inl refl);
}) e
