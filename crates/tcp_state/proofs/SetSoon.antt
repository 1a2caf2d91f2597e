-- Why no event sets a timer for later than a minute past its moment.
use Rattle.std.proofs.Common.{◌≡◌, ℕ, ◌+◌, ◌≤◌, ◌&&◌, ◌⊎◌, nat_lt, if◌then◌else◌, Bool, true, false, Option, Some, None, inl, inr, arith, refl, sym, ◌∙◌, ap, subst}
use Rattle.tcp_segment.specs.Segment.{Segment}
use Rattle.clock.specs.declared.moment.Moment.{Moment}
use Rattle.clock.specs.Moments.{after, has_come}
use Rattle.retransmit.specs.declared.timers.Timers.{Timers}
use Rattle.retransmit.specs.declared.timers.TimerKind.{TimerKind}
use Rattle.retransmit.specs.declared.timers.TimerKind.TheVariants.{Retransmission, Probe, DelayedAck, Override}
use Rattle.retransmit.specs.Deadlines.{no_timers, deadline_of}
use Rattle.retransmit.specs.Timeout.{Timeout, after_lost_syn}
use Rattle.tcp_state.specs.declared.emission.Due.{Due}
use Rattle.tcp_state.specs.declared.resend.Timed.{Timed}
use Rattle.tcp_state.specs.declared.timing.TheConstants.{DELAYED_ACK_WAIT, OVERRIDE_WAIT}
use Rattle.tcp_state.specs.Resend.{Resend, is_timed_by, timeout_sampled, resend_acknowledged}
use Rattle.tcp_state.specs.View.{View, IsSound, is_opening, is_fin_wait_2}
use Rattle.tcp_state.specs.Timing.{probes, retransmits, awaits_second, awaits_more, running, clocked, retransmission_expired, probe_expired, after_expiry, after_timers}
use Rattle.tcp_state.specs.Calls.{told_nodelay, latest}
use Rattle.tcp_state.specs.Alive.{after_silence}
use Rattle.tcp_state.specs.Arrival.{after_heard, before, is_moved, resend_after, timed_by, noted_by}
use Rattle.tcp_state.specs.Due.{first_due, after_going_out}
use Rattle.tcp_state.specs.Edges.{Event, moment_of, after_first, after_event}
use Rattle.tcp_state.proofs.Clocked.{by_others, heard_paced, after_paced}
use Rattle.tcp_halves.proofs.Choices.{either}
use Rattle.tcp_state.proofs.Events.{holding, shut, by_event}
use Rattle.tcp_state.proofs.Resends.{segment_hears, goes_out}

-- a timer runs as before, or until a minute past the moment at the latest
abbrev Soon : Moment → Option Moment → Option Moment → Type 0
Soon now was is = (deadline : Moment) → is ≡ Some deadline → (was ≡ Some deadline) ⊎ (deadline.0 ≤ now.0 + 60000)

record SetSoon (now : Moment) (was is : Timers) : Type 0 where
  pub retransmission : Soon now was.retransmission is.retransmission
  pub probe : Soon now was.probe is.probe
  pub delayed_ack : Soon now was.delayed_ack is.delayed_ack
  pub overriding : Soon now was.overriding is.overriding

as_before : (now : Moment) (was : Option Moment) → Soon now was was
as_before now was deadline e = inl e

none_set : (now : Moment) (was : Option Moment) → Soon now was None
none_set now was deadline e = cc

-- so many milliseconds from now on
later : (now : Moment) (was : Option Moment) (milliseconds : ℕ) → milliseconds ≤ 60000 → Soon now was (Some (after now milliseconds))
later now was milliseconds few deadline e =
    let same : after now milliseconds ≡ deadline = cc in
    let at : (let m = after now milliseconds in m.0) ≡ deadline.0 = ap (λ (m : Moment). m.0) same in
    inr (omega (arith, at, few))

runs : (now : Moment) (was is : Option Moment) (milliseconds : ℕ) → milliseconds ≤ 60000 → Soon now was is → Soon now was (running is now milliseconds)
runs now was None milliseconds few k = later now was milliseconds few
runs now was (Some moment) milliseconds few k = k

runs_where : (wants : Bool) (now : Moment) (was is : Option Moment) (milliseconds : ℕ) → milliseconds ≤ 60000 → Soon now was is → Soon now was (if wants then running is now milliseconds else None)
runs_where true now was is milliseconds few k = runs now was is milliseconds few k
runs_where false now was is milliseconds few k = none_set now was

runs_once : (wants : Bool) (now : Moment) (was is : Option Moment) (milliseconds : ℕ) → milliseconds ≤ 60000 → Soon now was is → Soon now was (if wants then running is now milliseconds else is)
runs_once true now was is milliseconds few k = runs now was is milliseconds few k
runs_once false now was is milliseconds few k = k

-- anew where SND.UNA moved
anew : (moved : Bool) (now : Moment) (was is : Option Moment) → Soon now was is → Soon now was (if moved then None else is)
anew true now was is k = none_set now was
anew false now was is k = k

goes_on_or_stops : (goes_on : Bool) (now : Moment) (was : Option Moment) → Soon now was (if goes_on then was else None)
goes_on_or_stops true now was = as_before now was
goes_on_or_stops false now was = none_set now was

unset : (now : Moment) (t : Timers) → SetSoon now t t
unset now t = record {
  retransmission = as_before now t.retransmission;
  probe = as_before now t.probe;
  delayed_ack = as_before now t.delayed_ack;
  overriding = as_before now t.overriding;
}

stopped_soon : (now : Moment) (t : Timers) → SetSoon now t no_timers
stopped_soon now t = record {
  retransmission = none_set now t.retransmission;
  probe = none_set now t.probe;
  delayed_ack = none_set now t.delayed_ack;
  overriding = none_set now t.overriding;
}

-- the clock at the end of an event
clocked_soon : (moved : Bool) (v : View) (now : Moment) (was : Timers) → v.resend.timeout.rto ≤ 60000 → SetSoon now was v.timers → SetSoon now was (clocked moved v now).timers
clocked_soon moved v now was few k = record {
  retransmission = runs_where (retransmits v) now was.retransmission (if moved then None else v.timers.retransmission) v.resend.timeout.rto few (anew moved now was.retransmission v.timers.retransmission k.retransmission);
  probe = runs_where (probes v) now was.probe v.timers.probe v.resend.timeout.rto few k.probe;
  delayed_ack = runs_where (awaits_second v) now was.delayed_ack v.timers.delayed_ack DELAYED_ACK_WAIT (omega arith) k.delayed_ack;
  overriding = runs_once (awaits_more v) now was.overriding v.timers.overriding OVERRIDE_WAIT (omega arith) k.overriding;
}

-- Segments.

sampled_few : (t : Timeout) (o : Option Timed) (una : ℕ) (now : Moment) → t.least ≤ 1000 → t.rto ≤ 60000 → (let u = timeout_sampled t o una now in u.rto ≤ 60000)
sampled_few t None una now least few = few
sampled_few t (Some timed) una now least few = either Timeout (λ u. u.rto ≤ 60000) (is_timed_by timed una) _ t (λ back. omega arith) (λ out. few)

acknowledged_few : (p : Resend) (una : ℕ) (opens : Bool) (now : Moment) → p.timeout.least ≤ 1000 → p.timeout.rto ≤ 60000 → (let q = resend_acknowledged p una opens now in q.timeout.rto ≤ 60000)
acknowledged_few p una opens now least few =
    let sampled = timeout_sampled p.timeout p.timed una now in
    either Timeout (λ u. u.rto ≤ 60000) (opens && nat_lt 0 p.expiries) (after_lost_syn sampled) sampled (λ lost. omega arith) (λ came. sampled_few p.timeout p.timed una now least few)

heard_few : (v : View) (s : Segment) (now : Moment) → v.resend.timeout.least ≤ 1000 → v.resend.timeout.rto ≤ 60000 → (let p = resend_after (before v s) (after_heard v s) now in p.timeout.rto ≤ 60000)
heard_few v s now least few =
    let b = before v s in
    let w = after_heard v s in
    let same : w.resend.timeout.rto ≡ v.resend.timeout.rto = ap (λ (t : Timeout). t.rto) (segment_hears v s).timeout in
    let still : w.resend.timeout.rto ≤ 60000 = omega (arith, same, few) in
    let bounded : w.resend.timeout.least ≤ 1000 = subst (λ (t : Timeout). t.least ≤ 1000) (sym (segment_hears v s).timeout) least in
    let heard = heard_paced b w now (λ p. p.timeout.rto ≤ 60000) (acknowledged_few w.resend w.sending.una (is_opening b.state) now bounded still) still still in
    after_paced b w now (λ p. p.timeout.rto ≤ 60000) heard heard (λ r. heard) heard

heard_soon : (v : View) (s : Segment) (now : Moment) → v.resend.timeout.least ≤ 1000 → v.resend.timeout.rto ≤ 60000 → SetSoon now v.timers (timed_by (before v s) (after_heard v s) now).timers
heard_soon v s now least few =
    let b = before v s in
    let w = after_heard v s in
    let kept : SetSoon now v.timers w.timers = elim (segment_hears v s).timers [
      | inl same ↦ subst (λ t. SetSoon now v.timers t) (sym same) (unset now v.timers)
      | inr none ↦ subst (λ t. SetSoon now v.timers t) (sym none.0) (stopped_soon now v.timers)
    ] in
    clocked_soon (is_moved b w) (noted_by b w now) now v.timers (heard_few v s now least few) kept

-- Emissions.

same_soon : (now : Moment) (was is : Option Moment) → is ≡ was → Soon now was is
same_soon now was is same deadline e = inl (sym same ∙ e)

emission_soon : (v : View) (o : Option Due) (now : Moment) → v.resend.timeout.rto ≤ 60000 → SetSoon now v.timers (after_first v o now).timers
emission_soon v None now few = unset now v.timers
emission_soon v (Some due) now few =
    let out = after_going_out v due now in
    let k = goes_out v due now in
    let rto : out.resend.timeout.rto ≡ v.resend.timeout.rto = ap (λ (t : Timeout). t.rto) k.timeout in
    clocked_soon false out now v.timers (omega (arith, rto, few)) (record {
      retransmission = same_soon now v.timers.retransmission out.timers.retransmission (ap (λ (t : Timers). t.retransmission) k.others);
      probe = same_soon now v.timers.probe out.timers.probe (ap (λ (t : Timers). t.probe) k.others);
      delayed_ack = same_soon now v.timers.delayed_ack out.timers.delayed_ack (ap (λ (t : Timers). t.delayed_ack) k.others);
      overriding = elim k.overriding [
        | inl same ↦ same_soon now v.timers.overriding out.timers.overriding same
        | inr none ↦ subst (Soon now v.timers.overriding) (sym none) (none_set now v.timers.overriding)
      ];
    })

-- Ticks.

record Acted (now : Moment) (v w : View) : Type 0 where
  pub timers : SetSoon now v.timers w.timers
  pub few : w.resend.timeout.rto ≤ 60000

expiry_soon : (v : View) (now : Moment) → v.resend.timeout.rto ≤ 60000 → Acted now v (after_expiry v now)
expiry_soon v now few =
    let t = unset now v.timers in
    either View (Acted now v) (has_come v.timers.retransmission now) (retransmission_expired v) _
    (λ comes. record { timers = record { retransmission = none_set now v.timers.retransmission; probe = t.probe; delayed_ack = t.delayed_ack; overriding = t.overriding }; few = omega arith })
    (λ early. either View (Acted now v) (has_come v.timers.probe now) (probe_expired v now) v
    (λ comes. record { timers = record { retransmission = t.retransmission; probe = later now v.timers.probe _ (omega arith); delayed_ack = t.delayed_ack; overriding = t.overriding }; few = few })
    (λ late. record { timers = t; few = few }))

timers_soon : (v : View) (now : Moment) → v.resend.timeout.rto ≤ 60000 → SetSoon now v.timers (clocked false (after_timers v now) now).timers
timers_soon v now few =
    let k = by_others (Acted now v) v now (expiry_soon v now few) (λ w owes a. record { timers = a.timers; few = a.few }) (λ w a. let t = a.timers in
    record { timers = record { retransmission = t.retransmission; probe = t.probe; delayed_ack = t.delayed_ack; overriding = none_set now v.timers.overriding }; few = a.few }) in
    clocked_soon false (after_timers v now) now v.timers k.few k.timers

-- Every event.

-- the timers are as they were, or stopped, or set by an event that has a moment
abbrev SetsSoon : View → Event → View → Type 0
SetsSoon v e w = (w.timers ≡ v.timers) ⊎ ((w.timers ≡ no_timers) ⊎ ((now : Moment) × (moment_of e ≡ Some now) × (v.resend.timeout.rto ≤ 60000 → v.resend.timeout.least ≤ 1000 → SetSoon now v.timers w.timers)))

sets_soon : (v : View) (e : Event) → SetsSoon v e (after_event v e)
sets_soon v = by_event (SetsSoon v) v (record {
  same = λ e. inl refl;
  asks = λ e alive. inl refl;
  silent = λ now. inl refl;
  heard = λ s now lives. inr (inr (now, refl, λ few least. heard_soon v s now least few));
  over = λ now ends. inr (inl refl);
  given_up = λ now waits expired. inr (inl refl);
  acts = λ now. inr (inr (now, refl, λ few least. timers_soon (after_silence v now) now few));
  emits = λ now. inr (inr (now, refl, λ few least. emission_soon v (first_due v) now few));
  sends = λ octets taken now opened. inr (inr (now, refl, λ few least. clocked_soon false (holding v taken) now v.timers few (unset now v.timers)));
  reads = λ len. inl refl;
  shuts = λ now. inr (inr (now, refl, λ few least. shut_soon v.released v.since now few));
  delays = λ on now. inr (inr (
    now,
    refl,
    λ few least. clocked_soon false (told_nodelay v on) now v.timers few (let t = unset now v.timers in record {
      retransmission = t.retransmission;
      probe = t.probe;
      delayed_ack = t.delayed_ack;
      overriding = goes_on_or_stops (awaits_more (record v { nodelay = on })) now v.timers.overriding;
    }),
  ));
  leaves = λ now lives. inr (inr (now, refl, λ few least. shut_soon true (if is_fin_wait_2 v.state then latest v.since now else v.since) now few));
  aborts = λ e now at cause lives. inr (inl refl);
  refused = λ number hit. inr (inl refl);
  hopless = λ now over. inr (inl refl);
})
  where
    shut_soon : (released : Bool) (since now : Moment) → v.resend.timeout.rto ≤ 60000 → SetSoon now v.timers (clocked false (shut v released since) now).timers
    shut_soon released since now few = clocked_soon false (shut v released since) now v.timers few (unset now v.timers)

none_runs : (kind : TimerKind) → deadline_of no_timers kind ≡ None
none_runs Retransmission = refl
none_runs Probe = refl
none_runs DelayedAck = refl
none_runs Override = refl

of_kind : (now : Moment) (was is : Timers) (kind : TimerKind) → SetSoon now was is → Soon now (deadline_of was kind) (deadline_of is kind)
of_kind now was is Retransmission k = k.retransmission
of_kind now was is Probe k = k.probe
of_kind now was is DelayedAck k = k.delayed_ack
of_kind now was is Override k = k.overriding

-- a timer that runs after an event ran before, or the event has a moment and set it
ran_or_set : (v : View) (e : Event) (deadline : Moment) (kind : TimerKind) → deadline_of (after_event v e).timers kind ≡ Some deadline
    → (deadline_of v.timers kind ≡ Some deadline)
    ⊎ ((now : Moment) × (moment_of e ≡ Some now) × (v.resend.timeout.rto ≤ 60000 → v.resend.timeout.least ≤ 1000 → (deadline_of v.timers kind ≡ Some deadline) ⊎ (deadline.0 ≤ now.0 + 60000)))
ran_or_set v e deadline kind set = elim (sets_soon v e) [
  | inl same ↦ inl (sym (ap (λ (t : Timers). deadline_of t kind) same) ∙ set)
  | inr other ↦ elim other [
    | inl none ↦ let bad : None ≡ Some deadline = sym (ap (λ (t : Timers). deadline_of t kind) none ∙ none_runs kind) ∙ set in cc
    | inr sets ↦ inr (sets.0, sets.1, λ few least. of_kind sets.0 v.timers (after_event v e).timers kind (sets.2 few least) deadline set)
  ]
]

pub soon : (v : View) (e : Event) (now deadline : Moment) (kind : TimerKind) → IsSound v → moment_of e ≡ Some now → deadline_of (after_event v e).timers kind ≡ Some deadline
    → (deadline_of v.timers kind ≡ Some deadline) ⊎ (deadline.0 ≤ now.0 + 60000)
soon v e now deadline kind sound is set = elim (ran_or_set v e deadline kind set) [
  | inl was ↦ inl was
  | inr sets ↦ let same : ◌≡◌ {A = Option Moment} (Some sets.0) (Some now) = sym sets.1 ∙ is in let one : sets.0 ≡ now = cc in
      subst (λ m. (deadline_of v.timers kind ≡ Some deadline) ⊎ (deadline.0 ≤ m.0 + 60000)) one (sets.2 sound.resend.timeout_most sound.resend.ceiling)
]

pub never : (v : View) (e : Event) (deadline : Moment) (kind : TimerKind) → moment_of e ≡ None → deadline_of (after_event v e).timers kind ≡ Some deadline → deadline_of v.timers kind ≡ Some deadline
never v e deadline kind is set = elim (ran_or_set v e deadline kind set) [ inl was ↦ was | inr sets ↦ let bad : ◌≡◌ {A = Option Moment} None (Some sets.0) = sym is ∙ sets.1 in cc ]
