-- Why each round trip is measured once, and none of what goes out again.
use Rattle.std.proofs.Common.{◌≡◌, ℕ, ◌-◌, ◌&&◌, ◌⊎◌, ◌≢◌, nat_lt, if◌then◌else◌, Bool, true, false, Option, Some, None, is_some, inl, inr, refl, sym, ◌∙◌, ap}
use Rattle.tcp_segment.specs.Segment.{Segment}
use Rattle.clock.specs.declared.moment.Moment.{Moment}
use Rattle.clock.specs.Moments.{has_come}
use Rattle.retransmit.specs.Timeout.{Timeout, after_sample, after_lost_syn}
use Rattle.tcp_state.specs.declared.emission.Due.{Due}
use Rattle.tcp_state.specs.declared.emission.Due.TheVariants.{Rst, Syn, Text, Probe, Ack, KeepAlive}
use Rattle.tcp_state.specs.declared.resend.Timed.{Timed}
use Rattle.tcp_halves.specs.Stream.{outstanding, after_probed}
use Rattle.tcp_state.specs.Resend.{Resend, timing_of, resend_probed, is_timed_by, timeout_sampled, timed_left, resend_acknowledged}
use Rattle.tcp_state.specs.View.{View, is_opening, is_syn_received}
use Rattle.tcp_state.specs.Alive.{after_silence}
use Rattle.tcp_state.specs.Timing.{clocked, retransmission_expired, probe_expired, after_timers}
use Rattle.tcp_state.specs.Calls.{aborted_at}
use Rattle.tcp_state.specs.Arrival.{after_heard, before, resend_answered, resend_heard, resend_told, resend_after, timed_by}
use Rattle.tcp_state.specs.Due.{MayGoOut, sends_again, after_emitted, probe_stretch, end_of, after_syn_ack_paid, after_resent, after_first_sent, after_numbers, after_new_octets, after_new_text, brings_new_octets, after_syn_out, after_going_out, first_due}
use Rattle.tcp_state.specs.Edges.{Event, moment_of, after_first, after_event, Ticks}
use Rattle.tcp_state.proofs.Clocked.{by_others, syn_out, heard_paced, after_paced}
use Rattle.tcp_halves.proofs.Choices.{either, clash}
use Rattle.tcp_state.proofs.Events.{by_event}
use Rattle.tcp_state.proofs.Resends.{segment_hears, goes_out}

-- What goes out again.

resent : (v : View) (offset end : ℕ) (now : Moment) → nat_lt offset (outstanding v.sending) ≡ true → (after_numbers v offset end now).resend.timed ≡ None
resent v offset end now again =
    either View (λ w. w.resend.timed ≡ None) (nat_lt offset (outstanding v.sending)) (after_resent v end) (after_first_sent v end now) (λ before. refl) (λ first. clash (nat_lt offset (outstanding v.sending)) again first)

pub not_timed : (v : View) (due : Due) (now : Moment) → MayGoOut v due → sends_again v due ≡ true → (after_emitted v due now).resend.timed ≡ None
not_timed v Rst now may again = cc
not_timed v Syn now may again =
    let sent = after_syn_out v now in
    let none = syn_out v now (λ w. w.resend.timed ≡ None) (resent v 0 1 now again) (resent v 0 1 now again) in
    either View (λ w. w.resend.timed ≡ None) (is_syn_received v.state) (after_syn_ack_paid sent) sent (λ received. none) (λ waits. none)
not_timed v (Text stretch) now may again =
    let sent = after_numbers v stretch.offset (end_of stretch) now in
    let none = resent v stretch.offset (end_of stretch) now again in
    either View (λ w. w.resend.timed ≡ None) (brings_new_octets v stretch) (after_new_text sent stretch) sent (λ new. none) (λ old. none)
not_timed v Probe now may again =
    let sent = record v { sending = after_probed v.sending (end_of (probe_stretch v)); resend = resend_probed v.resend } in
    either View (λ w. w.resend.timed ≡ None) (brings_new_octets v (probe_stretch v)) (after_new_octets sent) sent (λ new. refl) (λ old. refl)
not_timed v Ack now may again = cc
not_timed v KeepAlive now may again = cc

-- What is measured.

-- the estimate moves only by a sample of what was measured, which is measured no longer; and what is measured was, or begins to be with numbers that go out
record Measures (v : View) (now : Option Moment) (w : View) : Type 0 where
  pub sampled : (w.resend.timeout.estimate ≡ v.resend.timeout.estimate) ⊎ ((is_some v.resend.timed ≡ true) × (w.resend.timed ≡ None))
  pub begins : (timed : Timed) → w.resend.timed ≡ Some timed
      → (v.resend.timed ≡ Some timed) ⊎ ((v.resend.timed ≡ None) × (now ≡ Some timed.since) × (first_due v ≢ None) × (timed.end.0 ≡ w.sending.nxt))

-- nothing is measured that was not
keeps : (v w : View) (now : Option Moment) → w.resend.timeout.estimate ≡ v.resend.timeout.estimate → w.resend.timed ≡ v.resend.timed → Measures v now w
keeps v w now estimate timed = record { sampled = inl estimate; begins = λ t is. inl (sym timed ∙ is) }

leaves : (v w : View) (now : Option Moment) → w.resend.timeout.estimate ≡ v.resend.timeout.estimate → w.resend.timed ≡ None → Measures v now w
leaves v w now estimate none = record { sampled = inl estimate; begins = λ t is. let bad : None ≡ Some t = sym none ∙ is in cc }

-- Segments.

-- the same sample, whether it came with the acknowledgement of our SYN or later
estimated : (opens : Bool) (t : Timeout) → (let u = if opens then after_lost_syn t else t in u.estimate) ≡ t.estimate
estimated true t = refl
estimated false t = refl

sampled_or_left : (t : Timeout) (o : Option Timed) (una : ℕ) (now : Moment)
    → (let u = timeout_sampled t o una now in u.estimate ≡ t.estimate) ⊎ ((is_some o ≡ true) × (timed_left o una ≡ None))
sampled_or_left t None una now = inl refl
sampled_or_left t (Some timed) una now = chosen (is_timed_by timed una)
  where
    chosen : (back : Bool) → (let u = if back then after_sample t (now.0 - timed.since.0) else t in u.estimate ≡ t.estimate) ⊎ ((true ≡ true) × ((if back then None else Some timed) ≡ None))
    chosen true = inr (refl, refl)
    chosen false = inl refl

still_timed : (o : Option Timed) (una : ℕ) (timed : Timed) → timed_left o una ≡ Some timed → o ≡ Some timed
still_timed None una timed e = cc
still_timed (Some other) una timed e = either (Option Timed) (λ x. x ≡ Some timed → Some other ≡ Some timed) (is_timed_by other una) None (Some other) (λ back bad. cc) (λ out same. same) e

acknowledged : (v w : View) (una : ℕ) (opens : Bool) (now : Moment) → w.resend.timeout.estimate ≡ v.resend.timeout.estimate → (w.resend.timed ≡ v.resend.timed) ⊎ (w.resend.timed ≡ None)
    → Measures v (Some now) (record w { resend = resend_acknowledged w.resend una opens now })
acknowledged v w una opens now estimate was =
    let last = estimated (opens && nat_lt 0 w.resend.expiries) (timeout_sampled w.resend.timeout w.resend.timed una now) in
    record {
      sampled = elim (sampled_or_left w.resend.timeout w.resend.timed una now) [
        | inl same ↦ inl (last ∙ same ∙ estimate)
        | inr back ↦ elim was [
          | inl same ↦ inr (ap is_some (sym same) ∙ back.0, back.1)
          | inr none ↦ let bad : false ≡ true = sym (ap is_some none) ∙ back.0 in cc
        ]
      ];
      begins = λ timed is.
          let out = still_timed w.resend.timed una timed is in
          elim was [ inl same ↦ inl (sym same ∙ out) | inr none ↦ let bad : None ≡ Some timed = sym none ∙ out in cc ];
    }

-- whether or not it moved SND.UNA, or answered a probe
clocked_measures : (v w : View) (m : Option Moment) (moved : Bool) (now : Moment) → Measures v m w → Measures v m (clocked moved w now)
clocked_measures v w m moved now k = record { sampled = k.sampled; begins = k.begins }

heard_measures : (v : View) (s : Segment) (now : Moment) → Measures v (Some now) (timed_by (before v s) (after_heard v s) now)
heard_measures v s now =
    let b = before v s in
    let w = after_heard v s in
    let k = segment_hears v s in
    let estimate : w.resend.timeout.estimate ≡ v.resend.timeout.estimate = ap (λ (t : Timeout). t.estimate) k.timeout in
    let kept : Measures v (Some now) w = elim k.timed [ inl same ↦ keeps v w (Some now) estimate same | inr none ↦ leaves v w (Some now) estimate none ] in
    let P : Resend → Type 0 = λ p. Measures v (Some now) (record w { resend = p }) in
    let still : P (resend_answered w) = record { sampled = kept.sampled; begins = kept.begins } in
    let heard : P (resend_heard b w now) = heard_paced b w now P (acknowledged v w w.sending.una (is_opening b.state) now estimate k.timed) still (record { sampled = kept.sampled; begins = kept.begins }) in
    let told : P (resend_told b w now) = record { sampled = heard.sampled; begins = heard.begins } in
    let resend_view : P (resend_after b w now) = after_paced b w now P told (record { sampled = heard.sampled; begins = heard.begins }) (λ r. record { sampled = heard.sampled; begins = heard.begins }) (record { sampled = heard.sampled; begins = heard.begins }) in
    record { sampled = resend_view.sampled; begins = resend_view.begins }

-- Emissions.

begun : (o : Option Timed) (end : ℕ) (now : Moment) (timed : Timed) → timing_of o end now ≡ Some timed → (o ≡ Some timed) ⊎ ((o ≡ None) × (Some now ≡ Some timed.since) × (timed.end.0 ≡ end))
begun None end now timed e =
    let same : record { end = record { 0 = end }; since = now } ≡ timed = cc in
    inr (refl, ap (λ (t : Timed). Some t.since) same, ap (λ (t : Timed). t.end.0) (sym same))
begun (Some other) end now timed e = inl e

emission_measures : (v : View) (now : Moment) → Measures v (Some now) (after_first v (first_due v) now)
emission_measures v now = sent (first_due v) refl
  where
    sent : (o : Option Due) → first_due v ≡ o → Measures v (Some now) (after_first v o now)
    sent None first = keeps v v (Some now) refl refl
    sent (Some due) first =
        let k = goes_out v due now in
        record {
          sampled = inl (ap (λ (t : Timeout). t.estimate) k.timeout);
          begins = λ timed is. elim k.timed [
            | inl same ↦ inl (sym same ∙ is)
            | inr more ↦ elim more [
              | inl none ↦ let bad : None ≡ Some timed = sym none ∙ is in cc
              | inr new ↦ elim (begun v.resend.timed (after_going_out v due now).sending.nxt now timed (sym new ∙ is)) [
                | inl was ↦ inl was
                | inr begins ↦ inr (begins.0, begins.1, λ none. let bad : None ≡ Some due = sym none ∙ first in cc, begins.2)
              ]
            ]
          ];
        }

-- Every event.

-- a timer that expires takes no sample
timers_measure : (v : View) (now : Moment) → Measures v (Some now) (clocked false (after_timers (after_silence v now) now) now)
timers_measure v now =
    let m : Option Moment = Some now in
    let asked = after_silence v now in
    clocked_measures v (after_timers asked now) m false now (by_others (Measures v m) asked now
    (either View (Measures v m) (has_come v.timers.retransmission now) (retransmission_expired asked) _ (λ comes. keeps v _ m refl refl)
    (λ early. either View (Measures v m) (has_come v.timers.probe now) (probe_expired asked now) asked (λ comes. keeps v _ m refl refl) (λ late. keeps v asked m refl refl)))
    (λ w owes k. record { sampled = k.sampled; begins = k.begins }) (λ w k. record { sampled = k.sampled; begins = k.begins }))

measures : (v : View) (e : Event) → Measures v (moment_of e) (after_event v e)
measures v = by_event (λ e. Measures v (moment_of e)) v (record {
  same = λ e. keeps v v (moment_of e) refl refl;
  asks = λ e alive. keeps v _ (moment_of e) refl refl;
  silent = λ now. keeps v _ (moment_of (Ticks now)) refl refl;
  heard = λ s now lives. heard_measures v s now;
  over = λ now ends. leaves v _ (Some now) refl refl;
  given_up = λ now waits expired. leaves v _ (Some now) refl refl;
  acts = λ now. timers_measure v now;
  emits = λ now. emission_measures v now;
  sends = λ octets taken now opened. keeps v _ (Some now) refl refl;
  reads = λ len. keeps v _ None refl refl;
  shuts = λ now. keeps v _ (Some now) refl refl;
  delays = λ on now. keeps v _ (Some now) refl refl;
  leaves = λ now lives. keeps v _ (Some now) refl refl;
  aborts = λ e now at cause lives. leaves v (aborted_at v now) (moment_of e) refl refl;
  refused = λ number hit. leaves v _ None refl refl;
  hopless = λ now over. leaves v _ (Some now) refl refl;
})

pub sampled : (v : View) (e : Event) → ((after_event v e).resend.timeout.estimate ≡ v.resend.timeout.estimate) ⊎ ((is_some v.resend.timed ≡ true) × ((after_event v e).resend.timed ≡ None))
sampled v e = (measures v e).sampled

pub begins : (v : View) (e : Event) (timed : Timed) → (after_event v e).resend.timed ≡ Some timed
    → (v.resend.timed ≡ Some timed) ⊎ ((v.resend.timed ≡ None) × (moment_of e ≡ Some timed.since) × (first_due v ≢ None) × (timed.end.0 ≡ (after_event v e).sending.nxt))
begins v e = (measures v e).begins
