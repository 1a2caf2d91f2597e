-- When a connection remembers that its SYN was lost.
use Rattle.std.proofs.Common.{◌≡◌, ℕ, ◌<◌, ◌==◌, ◌||◌, ◌⊎◌, not, nat_lt, true, false, length, Option, Some, None, inl, inr, refl, sym, ◌∙◌, ap}
use Rattle.std.proofs.lemmas.Bool.{lt-ltb, ltb-true}
use Rattle.tcp_segment.specs.Segment.{Segment}
use Rattle.clock.specs.declared.moment.Moment.{Moment}
use Rattle.clock.specs.Moments.{has_come}
use Rattle.tcp_state.specs.declared.emission.Due.{Due}
use Rattle.tcp_state.specs.declared.emission.Due.TheVariants.{Rst, Syn, Text, Probe, Ack, KeepAlive}
use Rattle.tcp_state.specs.declared.emission.Stretch.{Stretch}
use Rattle.tcp_halves.specs.Stream.{outstanding, after_probed}
use Rattle.tcp_halves.proofs.Choices.{either, by, clash, or_else, or_left, or_right}
use Rattle.tcp_state.specs.Resend.{Resend, stopped, resend_probed}
use Rattle.tcp_state.specs.View.{View, is_closed, is_syn_received}
use Rattle.tcp_state.specs.Alive.{after_silence}
use Rattle.tcp_state.specs.Timing.{clocked, retransmission_expired, probe_expired, after_timers}
use Rattle.tcp_state.specs.Arrival.{is_receiving, beyond_fin, after_new_ack, after_ack, after_window, after_text, after_heard, before, resend_heard, timed_by}
use Rattle.tcp_state.specs.Due.{first_due, probe_stretch, end_of, after_resent, after_first_sent, after_numbers, after_new_octets, after_new_text, brings_new_octets, after_syn_ack_paid, after_syn_again, after_syn_out, after_stretch, after_probe, after_emitted}
use Rattle.tcp_state.specs.Edges.{Event, Emits, after_first, after_event}
use Rattle.tcp_state.proofs.Clocked.{by_others, after_paced}
use Rattle.tcp_state.proofs.Congestion.{syn_kept}
use Rattle.tcp_state.proofs.Events.{by_event}
use Rattle.tcp_state.proofs.Segments.{by_fin, by_ack, by_hearing}

-- it is as it was
abbrev Same : View → View → Type 0
Same v w = w.resend.syn_resent ≡ v.resend.syn_resent

-- A segment.

heard_same : (v : View) (s : Segment) → Same v (after_heard v s)
heard_same v s =
    let told = after_window (after_ack v s.acknowledgement) s in
    let gone = after_new_ack v s.acknowledgement in
    let acked : Same v (after_ack v s.acknowledgement) = by_ack (Same v) v s.acknowledgement (record {
      old = refl;
      beyond = refl;
      opens = λ received new. refl;
      octets = λ new. refl;
      fin = λ new fin. either Resend (λ p. p.syn_resent ≡ v.resend.syn_resent) (is_closed (beyond_fin v.state)) (stopped gone.resend) gone.resend (λ closed. refl) (λ alive. refl);
    }) in
    let text : Same v (after_text told s) = either View (Same v) ((length s.octets == 0) || not (is_receiving told.state)) told _ (λ none. acked) (λ some. acked) in
    by_hearing (Same v) v s acked (record {
      dropped = refl;
      drawn = refl;
      reset = λ acts. refl;
      crossed = λ waits. refl;
      opened = λ waits right. refl;
      acknowledged = λ taken. acked;
      read = λ on. by_fin (Same v) (after_text told s) s (λ counts. text) text text;
    })

timed_same : (v : View) (s : Segment) (now : Moment) → Same v (timed_by (before v s) (after_heard v s) now)
timed_same v s now =
    let b = before v s in
    let x = after_heard v s in
    after_paced b x now (λ p. p.syn_resent ≡ (resend_heard b x now).syn_resent) refl refl (λ r. refl) refl ∙ (syn_kept b x now ∙ heard_same v s)

-- What goes out.

numbers_same : (v : View) (offset end : ℕ) (now : Moment) → Same v (after_numbers v offset end now)
numbers_same v offset end now = either View (Same v) (nat_lt offset (outstanding v.sending)) (after_resent v end) (after_first_sent v end now) (λ again. refl) (λ first. refl)

stretch_same : (v : View) (stretch : Stretch) (now : Moment) → Same v (after_stretch v stretch now)
stretch_same v stretch now =
    let sent = after_numbers v stretch.offset (end_of stretch) now in
    let all = numbers_same v stretch.offset (end_of stretch) now in
    either View (Same v) (brings_new_octets v stretch) (after_new_text sent stretch) sent (λ new. all) (λ old. all)

probe_same : (v : View) → Same v (after_probe v)
probe_same v =
    let sent = record v { sending = after_probed v.sending (end_of (probe_stretch v)); resend = resend_probed v.resend } in
    either View (Same v) (brings_new_octets v (probe_stretch v)) (after_new_octets sent) sent (λ new. refl) (λ old. refl)

-- our SYN, once more: it is so where it expired
again_syn : (v : View) (now : Moment) → nat_lt 0 (outstanding v.sending) ≡ true → (after_emitted v Syn now).resend.syn_resent ≡ (v.resend.syn_resent || nat_lt 0 v.resend.expiries)
again_syn v now again =
    let sent = after_numbers v 0 1 now in
    let P : View → Type 0 = λ w. w.resend.syn_resent ≡ (v.resend.syn_resent || nat_lt 0 v.resend.expiries) in
    let told : P (after_syn_again sent) = either View (λ w. (w.resend.syn_resent || nat_lt 0 w.resend.expiries) ≡ (v.resend.syn_resent || nat_lt 0 v.resend.expiries))
    (nat_lt 0 (outstanding v.sending)) (after_resent v 1) (after_first_sent v 1 now) (λ before. refl) (λ first. refl) in
    let all : P (after_syn_out v now) = either View P (nat_lt 0 (outstanding v.sending)) (after_syn_again sent) sent (λ before. told) (λ first. clash (nat_lt 0 (outstanding v.sending)) again first) in
    either View P (is_syn_received v.state) (after_syn_ack_paid (after_syn_out v now)) (after_syn_out v now) (λ received. all) (λ waits. all)

first_syn : (v : View) (now : Moment) → nat_lt 0 (outstanding v.sending) ≡ false → Same v (after_emitted v Syn now)
first_syn v now none =
    let sent = after_numbers v 0 1 now in
    let all : Same v (after_syn_out v now) = either View (Same v) (nat_lt 0 (outstanding v.sending)) (after_syn_again sent) sent (λ before. clash (nat_lt 0 (outstanding v.sending)) before none) (λ first. numbers_same v 0 1 now) in
    either View (Same v) (is_syn_received v.state) (after_syn_ack_paid (after_syn_out v now)) (after_syn_out v now) (λ received. all) (λ waits. all)

-- Every event.

-- or our SYN goes out again
abbrev Resends : View → Event → View → Type 0
Resends v e w = (now : Moment) × (e ≡ Emits now) × (first_due v ≡ Some Syn) × (nat_lt 0 (outstanding v.sending) ≡ true) × (w.resend.syn_resent ≡ (v.resend.syn_resent || nat_lt 0 v.resend.expiries))

emitted : (v : View) (now : Moment) → Same v (after_first v (first_due v) now) ⊎ Resends v (Emits now) (after_first v (first_due v) now)
emitted v now = sent (first_due v) refl
  where
    sent : (o : Option Due) → first_due v ≡ o → Same v (after_first v o now) ⊎ Resends v (Emits now) (after_first v o now)
    sent None first = inl refl
    sent (Some Rst) first = inl refl
    sent (Some Syn) first = by (Same v (after_emitted v Syn now) ⊎ Resends v (Emits now) (after_emitted v Syn now)) (nat_lt 0 (outstanding v.sending))
        (λ again. inr (now, refl, first, again, again_syn v now again)) (λ none. inl (first_syn v now none))
    sent (Some (Text stretch)) first = inl (stretch_same v stretch now)
    sent (Some Probe) first = inl (probe_same v)
    sent (Some Ack) first = inl refl
    sent (Some KeepAlive) first = inl refl

acts_same : (v : View) (now : Moment) → Same v (clocked false (after_timers v now) now)
acts_same v now =
    by_others (Same v) v now
    (either View (Same v) (has_come v.timers.retransmission now) (retransmission_expired v) _ (λ comes. refl)
    (λ late. either View (Same v) (has_come v.timers.probe now) (probe_expired v now) v (λ probes. refl) (λ rests. refl)))
    (λ w owes same. same) (λ w same. same)

all_events : (v : View) (e : Event) → Same v (after_event v e) ⊎ Resends v e (after_event v e)
all_events v e = by_event (λ e w. Same v w ⊎ Resends v e w) v (record {
  same = λ e. inl refl;
  asks = λ e alive. inl refl;
  silent = λ now. inl refl;
  heard = λ s now lives. inl (timed_same v s now);
  over = λ now ends. inl refl;
  given_up = λ now waits expired. inl refl;
  acts = λ now. inl (acts_same (after_silence v now) now);
  emits = λ now. emitted v now;
  sends = λ octets taken now opened. inl refl;
  reads = λ len. inl refl;
  shuts = λ now. inl refl;
  delays = λ on now. inl refl;
  leaves = λ now lives. inl refl;
  aborts = λ e now at cause lives. inl refl;
  refused = λ number hit. inl refl;
  hopless = λ now over. inl refl;
}) e

pub resent_is_lost : (v : View) (now : Moment) → first_due v ≡ Some Syn → 0 < outstanding v.sending → 0 < v.resend.expiries → (after_event v (Emits now)).resend.syn_resent ≡ true
resent_is_lost v now first again expired =
    ap (λ o. (after_first v o now).resend.syn_resent) first ∙ (again_syn v now (lt-ltb 0 (outstanding v.sending) again) ∙ or_right v.resend.syn_resent (nat_lt 0 v.resend.expiries) (lt-ltb 0 v.resend.expiries expired))

pub lost_for_ever : (v : View) (e : Event) → v.resend.syn_resent ≡ true → (after_event v e).resend.syn_resent ≡ true
lost_for_ever v e was = elim (all_events v e) [ inl same ↦ same ∙ was | inr again ↦ again.4 ∙ or_left v.resend.syn_resent (nat_lt 0 v.resend.expiries) was ]

pub nothing_else_is : (v : View) (e : Event) → v.resend.syn_resent ≡ false → (after_event v e).resend.syn_resent ≡ true
    → (now : Moment) × (e ≡ Emits now) × (first_due v ≡ Some Syn) × (0 < outstanding v.sending) × (0 < v.resend.expiries)
nothing_else_is v e was is = elim (all_events v e) [
  | inl same ↦ clash v.resend.syn_resent (sym same ∙ is) was
  | inr again ↦ elim (or_else v.resend.syn_resent (nat_lt 0 v.resend.expiries) (sym again.4 ∙ is)) [
    | inl before ↦ clash v.resend.syn_resent before was
    | inr expired ↦ (again.0, again.1, again.2, ltb-true 0 (outstanding v.sending) again.3, ltb-true 0 v.resend.expiries expired)
  ]
]
