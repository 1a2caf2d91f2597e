-- Which segments count as sent again.
use Rattle.std.proofs.Common.{◌≡◌, ℕ, ◌<◌, ◌==◌, ◌||◌, ◌⊎◌, ◌+◌, ◌-◌, ◌^◌, min, not, nat_lt, false, length, Option, Some, None, inl, inr, arith, refl, ◌∙◌, ap}
use Rattle.std.proofs.lemmas.Bool.{lt-ltb, ltb-true}
use Rattle.tcp_segment.specs.Segment.{Segment}
use Rattle.clock.specs.declared.moment.Moment.{Moment}
use Rattle.clock.specs.Moments.{has_come}
use Rattle.tcp_state.specs.declared.emission.Due.{Due}
use Rattle.tcp_state.specs.declared.emission.Due.TheVariants.{Rst, Syn, Text, Probe, Ack, KeepAlive}
use Rattle.tcp_state.specs.declared.emission.Stretch.{Stretch}
use Rattle.tcp_halves.specs.Stream.{outstanding, after_probed}
use Rattle.tcp_halves.proofs.Choices.{either, by, clash}
use Rattle.tcp_state.specs.Resend.{Resend, stopped, once_more, resend_probed}
use Rattle.tcp_state.specs.View.{View, is_closed, is_syn_received}
use Rattle.tcp_state.specs.Alive.{after_silence}
use Rattle.tcp_state.specs.Timing.{clocked, retransmission_expired, probe_expired, after_timers}
use Rattle.tcp_state.specs.Arrival.{is_receiving, beyond_fin, after_new_ack, after_ack, after_window, after_text, after_heard, before, timed_by}
use Rattle.tcp_state.specs.Counted.{BringsAgain}
use Rattle.tcp_state.specs.Due.{first_due, probe_stretch, end_of, after_resent, after_first_sent, after_numbers, after_new_octets, after_new_text, brings_new_octets, after_syn_ack_paid, after_syn_out, after_emitted}
use Rattle.tcp_state.specs.Edges.{Event, Emits, after_first, after_event}
use Rattle.tcp_state.proofs.Clocked.{by_others, heard_paced, after_paced, syn_out}
use Rattle.tcp_state.proofs.Events.{by_event}
use Rattle.tcp_state.proofs.Segments.{by_fin, by_ack, by_hearing}

-- it is so many
abbrev Is : ℕ → View → Type 0
Is count w = w.resend.resent ≡ count

-- as it was
abbrev Same : View → View → Type 0
Same v w = Is v.resend.resent w

-- A segment that comes.

-- .. and so is what is excused of it
abbrev SameCounts : View → View → Type 0
SameCounts v w = Same v w × (w.resend.excused ≡ v.resend.excused)

pub heard_counts : (v : View) (s : Segment) → SameCounts v (after_heard v s)
heard_counts v s =
    let P : View → Type 0 = SameCounts v in
    let told = after_window (after_ack v s.acknowledgement) s in
    let gone = after_new_ack v s.acknowledgement in
    let acked : P (after_ack v s.acknowledgement) = by_ack P v s.acknowledgement (record {
      old = (refl, refl);
      beyond = (refl, refl);
      opens = λ received new. (refl, refl);
      octets = λ new. (refl, refl);
      fin = λ new fin. either Resend (λ p. (p.resent ≡ v.resend.resent) × (p.excused ≡ v.resend.excused)) (is_closed (beyond_fin v.state)) (stopped gone.resend) gone.resend (λ closed. (refl, refl)) (λ alive. (refl, refl));
    }) in
    let text : P (after_text told s) = either View P ((length s.octets == 0) || not (is_receiving told.state)) told _ (λ none. acked) (λ some. acked) in
    by_hearing P v s acked (record {
      dropped = (refl, refl);
      drawn = (refl, refl);
      reset = λ acts. (refl, refl);
      crossed = λ waits. (refl, refl);
      opened = λ waits right. (refl, refl);
      acknowledged = λ taken. acked;
      read = λ on. by_fin P (after_text told s) s (λ counts. text) text text;
    })

timed_same : (v : View) (s : Segment) (now : Moment) → Same v (timed_by (before v s) (after_heard v s) now)
timed_same v s now =
    let b = before v s in
    let x = after_heard v s in
    let kept = heard_paced b x now (λ p. p.resent ≡ x.resend.resent) refl refl refl in
    after_paced b x now (λ p. p.resent ≡ x.resend.resent) kept kept (λ r. kept) kept ∙ (heard_counts v s).0

-- What goes out.

-- numbers go out again, or for the first time
numbers_again : (v : View) (offset end : ℕ) (now : Moment) → offset < outstanding v.sending → Is (once_more v.resend.resent) (after_numbers v offset end now)
numbers_again v offset end now again =
    either View (Is (once_more v.resend.resent)) (nat_lt offset (outstanding v.sending)) (after_resent v end) (after_first_sent v end now) (λ is. refl)
    (λ first. clash (nat_lt offset (outstanding v.sending)) (lt-ltb offset (outstanding v.sending) again) first)

numbers_first : (v : View) (offset end : ℕ) (now : Moment) → nat_lt offset (outstanding v.sending) ≡ false → Same v (after_numbers v offset end now)
numbers_first v offset end now new =
    either View (Same v) (nat_lt offset (outstanding v.sending)) (after_resent v end) (after_first_sent v end now) (λ again. clash (nat_lt offset (outstanding v.sending)) again new) (λ first. refl)

syn_counts : (v : View) (now : Moment) (count : ℕ) → Is count (after_numbers v 0 1 now) → Is count (after_emitted v Syn now)
syn_counts v now count sent =
    let out : Is count (after_syn_out v now) = syn_out v now (Is count) sent sent in
    either View (Is count) (is_syn_received v.state) (after_syn_ack_paid (after_syn_out v now)) (after_syn_out v now) (λ received. out) (λ waits. out)

stretch_counts : (v : View) (stretch : Stretch) (now : Moment) (count : ℕ) → Is count (after_numbers v stretch.offset (end_of stretch) now) → Is count (after_emitted v (Text stretch) now)
stretch_counts v stretch now count sent =
    either View (Is count) (brings_new_octets v stretch) (after_new_text (after_numbers v stretch.offset (end_of stretch) now) stretch) (after_numbers v stretch.offset (end_of stretch) now) (λ new. sent) (λ old. sent)

probe_counts : (v : View) (now : Moment) → Is (once_more v.resend.resent) (after_emitted v Probe now)
probe_counts v now =
    let sent = record v { sending = after_probed v.sending (end_of (probe_stretch v)); resend = resend_probed v.resend } in
    either View (Is (once_more v.resend.resent)) (brings_new_octets v (probe_stretch v)) (after_new_octets sent) sent (λ new. refl) (λ old. refl)

emitted_again : (v : View) (due : Due) (now : Moment) → BringsAgain v due → Is (once_more v.resend.resent) (after_emitted v due now)
emitted_again v Rst now again = elim again [ inl probe ↦ cc | inr other ↦ elim other [ inl syn ↦ let is = syn.0 in cc | inr text ↦ let is = text.1 in cc ] ]
emitted_again v Syn now again = elim again [
  | inl probe ↦ cc
  | inr other ↦ elim other [ inl syn ↦ syn_counts v now (once_more v.resend.resent) (numbers_again v 0 1 now syn.1) | inr text ↦ let is = text.1 in cc ]
]
emitted_again v (Text stretch) now again = elim again [
  | inl probe ↦ cc
  | inr other ↦ elim other [
    | inl syn ↦ let is = syn.0 in cc
    | inr text ↦
        let is = text.1 in
        let same : stretch ≡ text.0 = cc in
        let before : stretch.offset < outstanding v.sending = omega (arith, ap (λ (t : Stretch). t.offset) same, text.2) in
        stretch_counts v stretch now (once_more v.resend.resent) (numbers_again v stretch.offset (end_of stretch) now before)
  ]
]
emitted_again v Probe now again = probe_counts v now
emitted_again v Ack now again = elim again [ inl probe ↦ cc | inr other ↦ elim other [ inl syn ↦ let is = syn.0 in cc | inr text ↦ let is = text.1 in cc ] ]
emitted_again v KeepAlive now again = elim again [ inl probe ↦ cc | inr other ↦ elim other [ inl syn ↦ let is = syn.0 in cc | inr text ↦ let is = text.1 in cc ] ]

pub counted_again : (v : View) (due : Due) (now : Moment) → first_due v ≡ Some due → BringsAgain v due → (after_event v (Emits now)).resend.resent ≡ min (2 ^ 64 - 1) (v.resend.resent + 1)
counted_again v due now first again = ap (λ o. (after_first v o now).resend.resent) first ∙ emitted_again v due now again

-- Every event.

-- or something goes out again
abbrev Counts : View → Event → Type 0
Counts v e = (now : Moment) × (due : Due) × (e ≡ Emits now) × (first_due v ≡ Some due) × BringsAgain v due

emitted : (v : View) (now : Moment) → Same v (after_first v (first_due v) now) ⊎ Counts v (Emits now)
emitted v now = sent (first_due v) refl
  where
    sent : (o : Option Due) → first_due v ≡ o → Same v (after_first v o now) ⊎ Counts v (Emits now)
    sent None first = inl refl
    sent (Some Rst) first = inl refl
    sent (Some Syn) first = by (Same v (after_emitted v Syn now) ⊎ Counts v (Emits now)) (nat_lt 0 (outstanding v.sending))
        (λ again. inr (now, Syn, refl, first, inr (inl (refl, ltb-true 0 (outstanding v.sending) again))))
        (λ none. inl (syn_counts v now v.resend.resent (numbers_first v 0 1 now none)))
    sent (Some (Text stretch)) first = by (Same v (after_emitted v (Text stretch) now) ⊎ Counts v (Emits now)) (nat_lt stretch.offset (outstanding v.sending))
        (λ again. inr (now, Text stretch, refl, first, inr (inr (stretch, refl, ltb-true stretch.offset (outstanding v.sending) again))))
        (λ new. inl (stretch_counts v stretch now v.resend.resent (numbers_first v stretch.offset (end_of stretch) now new)))
    sent (Some Probe) first = inr (now, Probe, refl, first, inl refl)
    sent (Some Ack) first = inl refl
    sent (Some KeepAlive) first = inl refl

acts_same : (v : View) (now : Moment) → Same v (clocked false (after_timers v now) now)
acts_same v now =
    by_others (Same v) v now
    (either View (Same v) (has_come v.timers.retransmission now) (retransmission_expired v) _ (λ comes. refl)
    (λ late. either View (Same v) (has_come v.timers.probe now) (probe_expired v now) v (λ probes. refl) (λ rests. refl)))
    (λ w owes same. same) (λ w same. same)

pub nothing_else_counts : (v : View) (e : Event) → ((after_event v e).resend.resent ≡ v.resend.resent) ⊎ ((now : Moment) × (due : Due) × (e ≡ Emits now) × (first_due v ≡ Some due) × BringsAgain v due)
nothing_else_counts v e = by_event (λ e w. Same v w ⊎ Counts v e) v (record {
  same = λ e. inl refl;
  asks = λ e alive. inl refl;
  silent = λ now. inl refl;
  heard = λ s now lives. inl (timed_same v s now);
  over = λ now ends. inl refl;
  given_up = λ now waits expired. inl refl;
  acts = λ now. inl (acts_same (after_silence v now) now);
  emits = λ now. emitted v now;
  sends = λ octets taken now opened. inl refl;
  reads = λ len. inl refl;
  shuts = λ now. inl refl;
  delays = λ on now. inl refl;
  leaves = λ now lives. inl refl;
  aborts = λ e now at cause lives. inl refl;
  refused = λ number hit. inl refl;
  hopless = λ now over. inl refl;
}) e
