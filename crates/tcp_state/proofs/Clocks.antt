-- How an event leaves the timers of what is outstanding and of the probe, the count of expiries, and the override.
use Rattle.std.proofs.Common.{◌≡◌, ℕ, ◌+◌, ◌<◌, ◌≤◌, ◌==◌, ◌||◌, ◌&&◌, ◌⊎◌, ◌≢◌, not, nat_lt, if◌then◌else◌, Bool, true, false, Option, Some, None, is_some, inl, inr, arith, refl, sym, ◌∙◌, ap, ap₂, subst}
use Rattle.std.proofs.lemmas.Bool.{leb-true, eqb-true, eq-eqb, lt-ltb}
use Rattle.std.proofs.lemmas.Bool.Decides.{eqb_tells}
use Rattle.tcp_segment.specs.Segment.{Segment}
use Rattle.tcp_segment.specs.Wire.{wire}
use Rattle.clock.specs.declared.moment.Moment.{Moment}
use Rattle.clock.specs.Moments.{after, has_come}
use Rattle.retransmit.specs.declared.timers.Timers.{Timers}
use Rattle.retransmit.specs.Deadlines.{no_timers}
use Rattle.tcp_state.specs.declared.state.State.{State}
use Rattle.tcp_state.specs.declared.state.State.TheVariants.{SynSent, SynReceived}
use Rattle.tcp_state.specs.declared.emission.Due.{Due}
use Rattle.tcp_state.specs.declared.emission.Due.TheVariants.{Ack}
use Rattle.tcp_halves.specs.Stream.{outstanding}
use Rattle.tcp_state.specs.Resend.{Resend, stopped, resend_acknowledged}
use Rattle.tcp_state.specs.View.{View, IsSound, is_opening, is_syn_sent, is_syn_received, is_closed, is_fin_wait_2}
use Rattle.tcp_state.specs.Timing.{probes, retransmits, awaits_more, running, clocked, expires, retransmission_expired, probe_expired, after_expiry, delayed_ack_expired, after_timers}
use Rattle.tcp_state.specs.Calls.{told_nodelay, latest, aborted_at}
use Rattle.tcp_state.specs.Alive.{after_silence}
use Rattle.tcp_state.specs.Arrival.{after_heard, acknowledges_unsent, is_rejected, is_acceptable_to, answers_probe, timed_by, before, is_moved, resend_answered, resend_heard, resend_after, noted_by}
use Rattle.tcp_state.specs.Due.{first_due, after_going_out}
use Rattle.tcp_state.specs.Edges.{Event, Hears, Ticks, Emits, Sends, Receives, Shuts, SetsNoDelay, Closes, Unreachable, LosesHop, moment_of, after_first, after_event}
use Rattle.tcp_halves.specs.Heard.{settled}
use Rattle.tcp_state.specs.Positions.{ReceivesAt}
use Rattle.tcp_state.specs.Said.{segment_of}
use Rattle.tcp_halves.proofs.Choices.{either, clash, and_left, and_right, both, or_left, or_right, neither, not_true, of_false}
use Rattle.tcp_state.proofs.AckNumbers.{ack_heard}
use Rattle.tcp_state.proofs.Segments.{by_clock}
use Rattle.tcp_state.proofs.Events.{holding, shut, by_event}
use Rattle.tcp_state.proofs.Clocked.{heard_paced, after_paced}
use Rattle.tcp_state.proofs.Timers.{none_left}
use Rattle.tcp_state.proofs.Resends.{segment_hears, goes_out}

-- a timer began at the moment of the event, for the timeout
abbrev pub BeginsAt : Event → View → Moment → Type 0
BeginsAt e w deadline = (now : Moment) × (moment_of e ≡ Some now) × (deadline ≡ after now w.resend.timeout.rto)

-- the event is a tick that has come to a deadline
abbrev pub HasCome : Event → Moment → Type 0
HasCome e deadline = (now : Moment) × (e ≡ Ticks now) × (deadline.0 ≤ now.0)

-- .. at which one more expiry counts
abbrev pub Counts : View → Event → View → Type 0
Counts v e w = (now : Moment) × (e ≡ Ticks now) × (expires v now ≡ true) × (w.resend.expiries ≡ v.resend.expiries + 1)

-- there was progress
abbrev pub Progress : View → View → Type 0
Progress v w = (w.sending.una ≢ v.sending.una) ⊎ (v.sending.window ≡ 0)

-- .. to the override's
abbrev pub Overrides : View → Event → Type 0
Overrides v e = (now : Moment) × (e ≡ Ticks now) × (has_come v.timers.overriding now ≡ true)

-- after an event
pub record Clocks (v : View) (e : Event) (w : View) : Type 0 where
  pub runs_on : is_closed w.state ≡ false → (was is : Moment) → v.timers.retransmission ≡ Some was → w.timers.retransmission ≡ Some is → (is ≡ was) ⊎ ((w.sending.una ≢ v.sending.una) ⊎ HasCome e was)
  pub begins : (deadline : Moment) → v.timers.retransmission ≡ None → w.timers.retransmission ≡ Some deadline → BeginsAt e w deadline
  pub probe_on : is_closed w.state ≡ false → (was is : Moment) → v.timers.probe ≡ Some was → w.timers.probe ≡ Some is → ((is ≡ was) × (w.resend.interval ≡ v.resend.interval)) ⊎ HasCome e was
  pub probe_begins : (deadline : Moment) → v.timers.probe ≡ None → w.timers.probe ≡ Some deadline → (w.resend.interval ≡ w.resend.timeout.rto) × BeginsAt e w deadline
  pub expiries : (w.resend.expiries ≡ v.resend.expiries) ⊎ (((w.resend.expiries ≡ 0) × Progress v w) ⊎ Counts v e w)
  pub overridden : v.resend.overridden ≡ false → w.resend.overridden ≡ true → Overrides v e
  pub override_begins : (deadline : Moment) → v.timers.overriding ≡ None → w.timers.overriding ≡ Some deadline → (now : Moment) × (moment_of e ≡ Some now) × (deadline ≡ after now 500)

-- .. before its clock is set
record Unset (v : View) (e : Event) (x : View) : Type 0 where
  pub runs : is_closed x.state ≡ false → (was : Moment) → v.timers.retransmission ≡ Some was → (x.timers.retransmission ≡ Some was) ⊎ HasCome e was
  pub none_runs : v.timers.retransmission ≡ None → x.timers.retransmission ≡ None
  pub probe : is_closed x.state ≡ false → (was : Moment) → v.timers.probe ≡ Some was → ((x.timers.probe ≡ Some was) × (x.resend.interval ≡ v.resend.interval)) ⊎ HasCome e was
  pub no_probe : v.timers.probe ≡ None → x.timers.probe ≡ None
  pub expiries : (x.resend.expiries ≡ v.resend.expiries) ⊎ (((x.resend.expiries ≡ 0) × Progress v x) ⊎ Counts v e x)
  pub overridden : v.resend.overridden ≡ false → x.resend.overridden ≡ true → Overrides v e
  pub no_override : v.timers.overriding ≡ None → x.timers.overriding ≡ None

-- The clock.

one : (a b : Moment) → Some a ≡ Some b → a ≡ b
one a b e = cc

unless_none : {C : Type 0} (o : Option Moment) (deadline : Moment) → o ≡ None → o ≡ Some deadline → C
unless_none None deadline e f = cc
unless_none (Some moment) deadline e f = cc

still : (wants : Bool) (was is : Moment) (o : Option Moment) (now : Moment) (milliseconds : ℕ) → o ≡ Some was → (if wants then running o now milliseconds else None) ≡ Some is → is ≡ was
still true was is (Some moment) now milliseconds e f = one is was (sym f ∙ e)
still true was is None now milliseconds e f = cc
still false was is o now milliseconds e f = cc

begun : (wants : Bool) (deadline : Moment) (o : Option Moment) (now : Moment) (milliseconds : ℕ) → o ≡ None → (if wants then running o now milliseconds else None) ≡ Some deadline → deadline ≡ after now milliseconds
begun true deadline None now milliseconds e f = sym (one (after now milliseconds) deadline f)
begun true deadline (Some moment) now milliseconds e f = cc
begun false deadline o now milliseconds e f = cc

goes_on : {C : Type 0} (moved wants : Bool) (was is : Moment) (o : Option Moment) (now : Moment) (milliseconds : ℕ) → o ≡ Some was
    → (if wants then running (if moved then None else o) now milliseconds else None) ≡ Some is → (moved ≡ true → C) → (is ≡ was) ⊎ C
goes_on true wants was is o now milliseconds e f moves = inr (moves refl)
goes_on false wants was is o now milliseconds e f moves = inl (still wants was is o now milliseconds e f)

none_still : (moved : Bool) (o : Option Moment) → o ≡ None → (if moved then None else o) ≡ None
none_still true o e = refl
none_still false o e = e

interval_on : (wants : Bool) (was is : Moment) (o : Option Moment) (now : Moment) (interval rto : ℕ) → o ≡ Some was → (if wants then running o now rto else None) ≡ Some is → (if wants && is_some o then interval else rto) ≡ interval
interval_on true was is (Some moment) now interval rto e f = refl
interval_on true was is None now interval rto e f = cc
interval_on false was is o now interval rto e f = cc

first_interval : (wants : Bool) (o : Option Moment) (interval rto : ℕ) → o ≡ None → (if wants && is_some o then interval else rto) ≡ rto
first_interval true None interval rto e = refl
first_interval true (Some moment) interval rto e = cc
first_interval false o interval rto e = refl

begun_once : (wants : Bool) (deadline : Moment) (o : Option Moment) (now : Moment) (milliseconds : ℕ) → o ≡ None → (if wants then running o now milliseconds else o) ≡ Some deadline → deadline ≡ after now milliseconds
begun_once true deadline None now milliseconds e f = sym (one (after now milliseconds) deadline f)
begun_once true deadline (Some moment) now milliseconds e f = cc
begun_once false deadline o now milliseconds e f = unless_none o deadline e f

sets : (v x : View) (e : Event) (moved : Bool) (now : Moment) → moment_of e ≡ Some now → (moved ≡ true → x.sending.una ≢ v.sending.una) → Unset v e x → Clocks v e (clocked moved x now)
sets v x e moved now at moves u =
    let t = x.timers in
    let rto = x.resend.timeout.rto in
    record {
      runs_on = λ lives was is runs set. elim (u.runs lives was runs) [
        | inl same ↦ goes_on moved (retransmits x) was is t.retransmission now rto same set (λ moves_it. inl (moves moves_it))
        | inr comes ↦ inr (inr comes)
      ];
      begins = λ deadline none set. (now, at, begun (retransmits x) deadline (if moved then None else t.retransmission) now rto (none_still moved t.retransmission (u.none_runs none)) set);
      probe_on = λ lives was is runs set. elim (u.probe lives was runs) [
        | inl same ↦ inl (still (probes x) was is t.probe now rto same.0 set, interval_on (probes x) was is t.probe now x.resend.interval rto same.0 set ∙ same.1)
        | inr comes ↦ inr comes
      ];
      probe_begins = λ deadline none set. (first_interval (probes x) t.probe x.resend.interval rto (u.no_probe none), (now, at, begun (probes x) deadline t.probe now rto (u.no_probe none) set));
      expiries = u.expiries;
      overridden = u.overridden;
      override_begins = λ deadline none set. (now, at, begun_once (awaits_more x) deadline t.overriding now 500 (u.no_override none) set);
    }

-- nothing is set
stays : (v w : View) (e : Event) → w.timers ≡ v.timers → w.resend.interval ≡ v.resend.interval → w.resend.expiries ≡ v.resend.expiries → w.resend.overridden ≡ v.resend.overridden → Clocks v e w
stays v w e timers interval expiries overridden =
    let retransmission = ap (λ (t : Timers). t.retransmission) timers in
    let probe = ap (λ (t : Timers). t.probe) timers in
    record {
      runs_on = λ lives was is runs set. inl (one is was (sym set ∙ retransmission ∙ runs));
      begins = λ deadline none set. unless_none w.timers.retransmission deadline (retransmission ∙ none) set;
      probe_on = λ lives was is runs set. inl (one is was (sym set ∙ probe ∙ runs), interval);
      probe_begins = λ deadline none set. unless_none w.timers.probe deadline (probe ∙ none) set;
      expiries = inl (expiries);
      overridden = λ none over. let bad : true ≡ false = sym over ∙ overridden ∙ none in cc;
      override_begins = λ deadline none set. unless_none w.timers.overriding deadline (ap (λ (t : Timers). t.overriding) timers ∙ none) set;
    }

-- the timers stop
stops : (v w : View) (e : Event) → w.timers ≡ no_timers → w.resend.expiries ≡ v.resend.expiries → w.resend.overridden ≡ false → Clocks v e w
stops v w e timers expiries overridden =
    let retransmission : w.timers.retransmission ≡ None = ap (λ (t : Timers). t.retransmission) timers in
    let probe : w.timers.probe ≡ None = ap (λ (t : Timers). t.probe) timers in
    record {
      runs_on = λ lives was is runs set. unless_none w.timers.retransmission is retransmission set;
      begins = λ deadline none set. unless_none w.timers.retransmission deadline retransmission set;
      probe_on = λ lives was is runs set. unless_none w.timers.probe is probe set;
      probe_begins = λ deadline none set. unless_none w.timers.probe deadline probe set;
      expiries = inl expiries;
      overridden = λ none over. let bad : true ≡ false = sym over ∙ overridden in cc;
      override_begins = λ deadline none set. unless_none w.timers.overriding deadline (ap (λ (t : Timers). t.overriding) timers) set;
    }

-- the timers and the retransmission state are as they were
as_before : (v x : View) (e : Event) → x.timers ≡ v.timers → x.resend ≡ v.resend → Unset v e x
as_before v x e timers resend = record {
  runs = λ lives was runs. inl (ap (λ (t : Timers). t.retransmission) timers ∙ runs);
  none_runs = λ none. ap (λ (t : Timers). t.retransmission) timers ∙ none;
  probe = λ lives was runs. inl (ap (λ (t : Timers). t.probe) timers ∙ runs, ap (λ (p : Resend). p.interval) resend);
  no_probe = λ none. ap (λ (t : Timers). t.probe) timers ∙ none;
  expiries = inl (ap (λ (p : Resend). p.expiries) resend);
  overridden = λ none over. let bad : true ≡ false = sym over ∙ ap (λ (p : Resend). p.overridden) resend ∙ none in cc;
  no_override = λ none. ap (λ (t : Timers). t.overriding) timers ∙ none;
}

-- Segments.

apart : (a b : ℕ) → not (a == b) ≡ true → b ≢ a
apart a b e same = clash (a == b) (eq-eqb a b (sym same)) (not_true (a == b) e)

-- an answer to a probe comes while the peer's window is closed
closed_window : (v : View) (s : Segment) → answers_probe v s ≡ true → v.sending.window ≡ 0
closed_window v s e =
    let one = not (is_opening v.state) in
    let two = one && (v.sending.window == 0) in
    let three = two && is_acceptable_to v s in
    let four = three && s.flags.ack in
    eqb-true v.sending.window 0 (and_right one (v.sending.window == 0) (and_left two (is_acceptable_to v s) (and_left three s.flags.ack (and_left four (not s.flags.rst) e))))

heard_unset : (v : View) (s : Segment) (now : Moment)
    → (let b = before v s in let w = after_heard v s in Unset v (Hears s now) (noted_by b w now))
heard_unset v s now =
    let b = before v s in
    let w = after_heard v s in
    let h = segment_hears v s in
    let resend = resend_after b w now in
    let interval_kept = heard_paced b w now (λ p. p.interval ≡ w.resend.interval) refl refl refl in
    let interval : resend.interval ≡ w.resend.interval = after_paced b w now (λ p. p.interval ≡ w.resend.interval) interval_kept interval_kept (λ r. interval_kept) interval_kept in
    let override_kept = heard_paced b w now (λ p. p.overridden ≡ w.resend.overridden) refl refl refl in
    let overridden : resend.overridden ≡ w.resend.overridden = after_paced b w now (λ p. p.overridden ≡ w.resend.overridden) override_kept override_kept (λ r. override_kept) override_kept in
    let P : Resend → Type 0 = λ p. (p.expiries ≡ v.resend.expiries) ⊎ (((p.expiries ≡ 0) × Progress v w) ⊎ Counts v (Hears s now) (record w { resend = p })) in
    let counted : P (resend_heard b w now) = either Resend P (is_moved b w) (resend_acknowledged w.resend w.sending.una (is_opening b.state) now) _ (λ moves. inr (inl (refl, inl (apart v.sending.una w.sending.una moves))))
    (λ unmoved. either Resend P b.answers_probe (resend_answered w) w.resend (λ answers. inr (inl (refl, inr (closed_window v s answers)))) (λ other. inl h.expiries)) in
    record {
      runs = λ lives was runs. elim h.timers [ inl same ↦ inl (ap (λ (t : Timers). t.retransmission) same ∙ runs) | inr stop ↦ clash (is_closed w.state) stop.1 lives ];
      none_runs = λ none. elim h.timers [ inl same ↦ ap (λ (t : Timers). t.retransmission) same ∙ none | inr stop ↦ ap (λ (t : Timers). t.retransmission) stop.0 ];
      probe = λ lives was runs. elim h.timers [
        | inl same ↦ elim h.interval [ inl kept ↦ inl (ap (λ (t : Timers). t.probe) same ∙ runs, interval ∙ kept) | inr closed ↦ clash (is_closed w.state) closed lives ]
        | inr stop ↦ clash (is_closed w.state) stop.1 lives
      ];
      no_probe = λ none. elim h.timers [ inl same ↦ ap (λ (t : Timers). t.probe) same ∙ none | inr stop ↦ ap (λ (t : Timers). t.probe) stop.0 ];
      expiries = after_paced b w now P counted counted (λ r. counted) counted;
      overridden = λ none over. elim h.overridden [
        | inl same ↦ let bad : true ≡ false = sym over ∙ overridden ∙ same ∙ none in cc
        | inr not_over ↦ let bad : true ≡ false = sym over ∙ overridden ∙ not_over in cc
      ];
      no_override = λ none. elim h.timers [ inl same ↦ ap (λ (t : Timers). t.overriding) same ∙ none | inr stop ↦ ap (λ (t : Timers). t.overriding) stop.0 ];
    }

-- Emissions.

sent_unset : (v : View) (due : Due) (now : Moment) → Unset v (Emits now) (after_going_out v due now)
sent_unset v due now =
    let g = goes_out v due now in
    let others = g.others in
    record {
      runs = λ lives was runs. inl (ap (λ (t : Timers). t.retransmission) others ∙ runs);
      none_runs = λ none. ap (λ (t : Timers). t.retransmission) others ∙ none;
      probe = λ lives was runs. inl (ap (λ (t : Timers). t.probe) others ∙ runs, g.interval);
      no_probe = λ none. ap (λ (t : Timers). t.probe) others ∙ none;
      expiries = inl g.expiries;
      overridden = λ none over. elim g.overridden [
        | inl same ↦ let bad : true ≡ false = sym over ∙ same ∙ none in cc
        | inr not_over ↦ let bad : true ≡ false = sym over ∙ not_over in cc
      ];
      no_override = λ none. elim g.overriding [ inl same ↦ same ∙ none | inr stopped ↦ stopped ];
    }

emission_clocks : (v : View) (o : Option Due) (now : Moment) → Clocks v (Emits now) (after_first v o now)
emission_clocks v None now = stays v v (Emits now) refl refl refl refl
emission_clocks v (Some due) now = sets v (after_going_out v due now) (Emits now) false now refl (λ moves. cc) (sent_unset v due now)

-- Ticks.

came : (o : Option Moment) (was now : Moment) → o ≡ Some was → has_come o now ≡ true → was.0 ≤ now.0
came o was now e comes = leb-true was.0 now.0 (ap (λ (m : Option Moment). has_come m now) (sym e) ∙ comes)

record Expires (v : View) (now : Moment) (w : View) : Type 0 where
  pub runs : (was : Moment) → v.timers.retransmission ≡ Some was → (w.timers.retransmission ≡ Some was) ⊎ (was.0 ≤ now.0)
  pub none_runs : v.timers.retransmission ≡ None → w.timers.retransmission ≡ None
  pub probe : (was : Moment) → v.timers.probe ≡ Some was → ((w.timers.probe ≡ Some was) × (w.resend.interval ≡ v.resend.interval)) ⊎ (was.0 ≤ now.0)
  pub no_probe : v.timers.probe ≡ None → w.timers.probe ≡ None
  pub expiries : (w.resend.expiries ≡ v.resend.expiries) ⊎ ((expires v now ≡ true) × (w.resend.expiries ≡ v.resend.expiries + 1))
  pub overridden : w.resend.overridden ≡ v.resend.overridden
  pub overriding : w.timers.overriding ≡ v.timers.overriding

expiry_expires : (v : View) (now : Moment) → Expires v now (after_expiry v now)
expiry_expires v now =
    let t = v.timers in
    either View (Expires v now) (has_come t.retransmission now) (retransmission_expired v) _
    (λ comes. record {
      runs = λ was runs. inr (came t.retransmission was now runs comes);
      none_runs = λ none. refl;
      probe = λ was runs. inl (runs, refl);
      no_probe = λ none. none;
      expiries = inr (or_left (has_come t.retransmission now) (has_come t.probe now) comes, omega arith);
      overridden = refl;
      overriding = refl;
    })
    (λ early. either View (Expires v now) (has_come t.probe now) (probe_expired v now) v
    (λ comes. record {
      runs = λ was runs. inl runs;
      none_runs = λ none. none;
      probe = λ was runs. inr (came t.probe was now runs comes);
      no_probe = λ none. clash (has_come t.probe now) comes (ap (λ (m : Option Moment). has_come m now) none);
      expiries = inr (or_right (has_come t.retransmission now) (has_come t.probe now) comes, omega arith);
      overridden = refl;
      overriding = refl;
    })
    (λ late. record { runs = λ was runs. inl runs; none_runs = λ none. none; probe = λ was runs. inl (runs, refl); no_probe = λ none. none; expiries = inl refl; overridden = refl; overriding = refl }))

tick_unset : (v : View) (now : Moment) → Unset v (Ticks now) (after_timers v now)
tick_unset v now =
    let first = after_expiry v now in
    let second = delayed_ack_expired first now in
    let a = expiry_expires v now in
    let b : Expires v now second = either View (Expires v now) (has_come first.timers.delayed_ack now) _ first
    (λ comes. record { runs = a.runs; none_runs = a.none_runs; probe = a.probe; no_probe = a.no_probe; expiries = a.expiries; overridden = a.overridden; overriding = a.overriding }) (λ early. a) in
    let counted : (second.resend.expiries ≡ v.resend.expiries) ⊎ Counts v (Ticks now) second = elim b.expiries [ inl same ↦ inl same | inr expired ↦ inr (now, refl, expired.0, expired.1) ] in
    let runs : (was : Moment) → v.timers.retransmission ≡ Some was → (second.timers.retransmission ≡ Some was) ⊎ HasCome (Ticks now) was = λ was is. elim (b.runs was is) [ inl same ↦ inl same | inr comes ↦ inr (now, refl, comes) ] in
    let probe : (was : Moment) → v.timers.probe ≡ Some was → ((second.timers.probe ≡ Some was) × (second.resend.interval ≡ v.resend.interval)) ⊎ HasCome (Ticks now) was = λ was is. elim (b.probe was is) [ inl same ↦ inl same | inr comes ↦ inr (now, refl, comes) ] in
    either View (Unset v (Ticks now)) (has_come second.timers.overriding now) _ second
    (λ comes. record {
      runs = λ lives was is. runs was is;
      none_runs = b.none_runs;
      probe = λ lives was is. probe was is;
      no_probe = b.no_probe;
      expiries = elim counted [ inl same ↦ inl same | inr expired ↦ inr (inr expired) ];
      overridden = λ none over. (now, refl, ap (λ (m : Option Moment). has_come m now) (sym b.overriding) ∙ comes);
      no_override = λ none. refl;
    })
    (λ early. record {
      runs = λ lives was is. runs was is;
      none_runs = b.none_runs;
      probe = λ lives was is. probe was is;
      no_probe = b.no_probe;
      expiries = elim counted [ inl same ↦ inl same | inr expired ↦ inr (inr expired) ];
      overridden = λ none over. let bad : true ≡ false = sym over ∙ b.overridden ∙ none in cc;
      no_override = λ none. b.overriding ∙ none;
    })

-- .. once a peer that said nothing was asked
asked_unset : (v : View) (now : Moment) → Unset v (Ticks now) (after_timers (after_silence v now) now)
asked_unset v now = let u = tick_unset (after_silence v now) now in record {
  runs = u.runs;
  none_runs = u.none_runs;
  probe = u.probe;
  no_probe = u.no_probe;
  expiries = u.expiries;
  overridden = u.overridden;
  no_override = u.no_override;
}

-- Every event.

clocks : (v : View) (e : Event) → Clocks v e (after_event v e)
clocks v = by_event (Clocks v) v (record {
  same = λ e. stays v v e refl refl refl refl;
  asks = λ e alive. stays v (record v { alive = alive }) e refl refl refl refl;
  silent = λ now. stays v (after_silence v now) (Ticks now) refl refl refl refl;
  heard = λ s now lives. let b = before v s in let w = after_heard v s in
      sets v (noted_by b w now) (Hears s now) (is_moved b w) now refl
      (λ moves. apart v.sending.una w.sending.una moves) (heard_unset v s now);
  over = λ now ends. stops v _ (Ticks now) refl refl refl;
  given_up = λ now waits expired. stops v _ (Ticks now) refl refl refl;
  acts = λ now. sets v (after_timers (after_silence v now) now) (Ticks now) false now refl (λ moves. cc) (asked_unset v now);
  emits = λ now. emission_clocks v (first_due v) now;
  sends = λ octets taken now opened. called (holding v taken) (Sends octets now) now refl refl refl;
  reads = λ len. stays v _ (Receives len) refl refl refl refl;
  shuts = λ now. called (shut v v.released v.since) (Shuts now) now refl refl refl;
  delays = λ on now. sets v (told_nodelay v on) (SetsNoDelay on now) false now refl (λ moves. cc) (record {
    runs = λ lives was runs. inl runs;
    none_runs = λ none. none;
    probe = λ lives was runs. inl (runs, refl);
    no_probe = λ none. none;
    expiries = inl refl;
    overridden = λ none over. let bad : true ≡ false = sym over ∙ none in cc;
    no_override = λ none. none_left (awaits_more (record v { nodelay = on })) v.timers.overriding none;
  });
  leaves = λ now lives. called (shut v true (if is_fin_wait_2 v.state then latest v.since now else v.since)) (Closes now) now refl refl refl;
  aborts = λ e now at cause lives. stops v (aborted_at v now) e refl refl refl;
  refused = λ number hit. stops v _ (Unreachable number) refl refl refl;
  hopless = λ now over. stops v _ (LosesHop now) refl refl refl;
})
  where
    called : (x : View) (e : Event) (now : Moment) → moment_of e ≡ Some now → x.timers ≡ v.timers → x.resend ≡ v.resend → Clocks v e (clocked false x now)
    called x e now at timers resend = sets v x e false now at (λ moves. cc) (as_before v x e timers resend)

-- the retransmission timer
pub runs_on : (v : View) (e : Event) (was is : Moment) → is_closed (after_event v e).state ≡ false → v.timers.retransmission ≡ Some was → (after_event v e).timers.retransmission ≡ Some is
    → (is ≡ was) ⊎ (((after_event v e).sending.una ≢ v.sending.una) ⊎ ((now : Moment) × (e ≡ Ticks now) × (was.0 ≤ now.0)))
runs_on v e was is lives = (clocks v e).runs_on lives was is

pub begins : (v : View) (e : Event) (deadline : Moment) → v.timers.retransmission ≡ None → (after_event v e).timers.retransmission ≡ Some deadline
    → (now : Moment) × (moment_of e ≡ Some now) × (deadline ≡ after now (after_event v e).resend.timeout.rto)
begins v e = (clocks v e).begins

-- the probe timer
pub probe_on : (v : View) (e : Event) (was is : Moment) → is_closed (after_event v e).state ≡ false → v.timers.probe ≡ Some was → (after_event v e).timers.probe ≡ Some is
    → ((is ≡ was) × ((after_event v e).resend.interval ≡ v.resend.interval)) ⊎ ((now : Moment) × (e ≡ Ticks now) × (was.0 ≤ now.0))
probe_on v e was is lives = (clocks v e).probe_on lives was is

pub probe_begins : (v : View) (e : Event) (deadline : Moment) → v.timers.probe ≡ None → (after_event v e).timers.probe ≡ Some deadline
    → ((after_event v e).resend.interval ≡ (after_event v e).resend.timeout.rto) × ((now : Moment) × (moment_of e ≡ Some now) × (deadline ≡ after now (after_event v e).resend.timeout.rto))
probe_begins v e = (clocks v e).probe_begins

-- expiries without progress
pub counted : (v : View) (e : Event) → ((after_event v e).resend.expiries ≡ v.resend.expiries)
    ⊎ ((((after_event v e).resend.expiries ≡ 0) × (((after_event v e).sending.una ≢ v.sending.una) ⊎ (v.sending.window ≡ 0)))
    ⊎ ((now : Moment) × (e ≡ Ticks now) × (expires v now ≡ true) × ((after_event v e).resend.expiries ≡ v.resend.expiries + 1)))
counted v e = (clocks v e).expiries

pub overrides : (v : View) (e : Event) → v.resend.overridden ≡ false → (after_event v e).resend.overridden ≡ true → (now : Moment) × (e ≡ Ticks now) × (has_come v.timers.overriding now ≡ true)
overrides v e = (clocks v e).overridden

pub override_begins : (v : View) (e : Event) (deadline : Moment) → v.timers.overriding ≡ None → (after_event v e).timers.overriding ≡ Some deadline → (now : Moment) × (moment_of e ≡ Some now) × (deadline ≡ after now 500)
override_begins v e = (clocks v e).override_begins

-- Segments that acknowledge.

-- one that moves SND.UNA starts the timer anew
pub restarts : (v : View) (s : Segment) (now : Moment) → (after_event v (Hears s now)).sending.una ≢ v.sending.una → 0 < outstanding (after_event v (Hears s now)).sending → probes (after_event v (Hears s now)) ≡ false
    → (after_event v (Hears s now)).timers.retransmission ≡ Some (after now (after_event v (Hears s now)).resend.timeout.rto)
restarts v s now = by_clock (λ w. w.sending.una ≢ v.sending.una → 0 < outstanding w.sending → probes w ≡ false → w.timers.retransmission ≡ Some (after now w.resend.timeout.rto)) v s now
    (λ moves some unprobed. absurd (moves refl))
    (λ lives moves some unprobed.
    let b = before v s in
    let w = after_heard v s in
    let x = noted_by b w now in
    let moved : is_moved b w ≡ true = of_false (v.sending.una == w.sending.una) (apart_test v.sending.una w.sending.una moves) in
    let runs : retransmits x ≡ true = both (nat_lt 0 (outstanding x.sending)) (not (probes x)) (lt-ltb 0 (outstanding x.sending) some) (of_false (probes x) unprobed) in
    anew (retransmits x) (is_moved b w) x.timers.retransmission now x.resend.timeout.rto runs moved)
  where
    apart_test : (a b : ℕ) → b ≢ a → (a == b) ≡ false
    apart_test a b other = elim (eqb_tells a b) [ inl same ↦ absurd (other (sym same.1)) | inr differ ↦ differ.0 ]

    anew : (wants moved : Bool) (o : Option Moment) (now : Moment) (milliseconds : ℕ) → wants ≡ true → moved ≡ true → (if wants then running (if moved then None else o) now milliseconds else None) ≡ Some (after now milliseconds)
    anew true true o now milliseconds w m = refl
    anew true false o now milliseconds w m = cc
    anew false moved o now milliseconds w m = cc

-- .. and is progress
pub acknowledged : (v : View) (s : Segment) (now : Moment) → (after_event v (Hears s now)).sending.una ≢ v.sending.una → (after_event v (Hears s now)).resend.expiries ≡ 0
acknowledged v s now = by_clock (λ w. w.sending.una ≢ v.sending.una → w.resend.expiries ≡ 0) v s now
    (λ moves. absurd (moves refl))
    (λ lives moves.
    let b = before v s in
    let w = after_heard v s in
    let P : Resend → Type 0 = λ p. p.expiries ≡ 0 in
    let heard : P (resend_heard b w now) = either Resend P (is_moved b w) (resend_acknowledged w.resend w.sending.una (is_opening b.state) now) _ (λ moved. refl)
    (λ unmoved. elim (eqb_tells v.sending.una w.sending.una) [ inl same ↦ absurd (moves (sym same.1)) | inr differ ↦ clash (not (v.sending.una == w.sending.una)) (of_false (v.sending.una == w.sending.una) differ.0) unmoved ]) in
    after_paced b w now P heard heard (λ r. heard) heard)

-- a connection that opens no more rejects nothing
unrejected : (a x y : Bool) (t : State) → is_opening t ≡ false → (a && (is_syn_sent t || (is_syn_received t && x && y))) ≡ false
unrejected false x y t e = refl
unrejected true x y SynSent e = cc
unrejected true x y SynReceived e = cc
unrejected true x y _ e = refl

-- .. and so is the answer of a peer whose window is closed
pub answered : (v : View) (s : Segment) (now : Moment) → is_closed v.state ≡ false → is_opening v.state ≡ false → v.sending.window ≡ 0 → is_acceptable_to v s ≡ true → s.flags.ack ≡ true → s.flags.rst ≡ false
    → (after_event v (Hears s now)).resend.expiries ≡ 0
answered v s now lives opened shut fits acks unreset =
    let b = before v s in
    let w = after_heard v s in
    let P : Resend → Type 0 = λ p. p.expiries ≡ 0 in
    let quiet : (is_closed v.state || is_rejected v s) ≡ false = ap₂ (λ x y. x || y) lives (unrejected (acknowledges_unsent v s) (is_acceptable_to v s) (not s.flags.syn) v.state opened) in
    let told : answers_probe v s ≡ true =
    subst (λ x. (not x && (v.sending.window == 0) && is_acceptable_to v s && s.flags.ack && not s.flags.rst) ≡ true) (sym opened)
    (subst (λ n. (true && (n == 0) && is_acceptable_to v s && s.flags.ack && not s.flags.rst) ≡ true) (sym shut)
    (subst (λ x. (true && true && x && s.flags.ack && not s.flags.rst) ≡ true) (sym fits)
    (subst (λ x. (true && true && true && x && not s.flags.rst) ≡ true) (sym acks)
    (subst (λ x. (true && true && true && true && not x) ≡ true) (sym unreset) refl)))) in
    let heard : P (resend_heard b w now) = either Resend P (is_moved b w) (resend_acknowledged w.resend w.sending.una (is_opening b.state) now) _ (λ moved. refl)
    (λ unmoved. either Resend P (answers_probe v s) (resend_answered w) w.resend (λ answers. refl) (λ silent. clash (answers_probe v s) told silent)) in
    either View (λ x. x.resend.expiries ≡ 0) (is_closed v.state || is_rejected v s) v (timed_by b w now) (λ is. clash (is_closed v.state || is_rejected v s) is quiet) (λ goes. after_paced b w now P heard heard (λ r. heard) heard)

-- .. where that is a host of this stack, whatever its window
pub answered_by_peer : (initial una next edge : ℕ) (v peer : View) (now : Moment) → is_closed v.state ≡ false → is_opening v.state ≡ false → v.sending.window ≡ 0
    → IsSound peer → (is_syn_sent peer.state || is_closed peer.state) ≡ false → peer.sending.una ≡ wire initial una → ReceivesAt initial next edge v.receiving → una ≤ next → next ≤ una + outstanding peer.sending
    → una + settled peer.sending ≤ edge → (after_event v (Hears (segment_of peer Ack) now)).resend.expiries ≡ 0
answered_by_peer initial una next edge v peer now lives opened shut sound speaks stands at from to within =
    answered v (segment_of peer Ack) now lives opened shut
    (ack_heard initial una next edge peer v.receiving sound (neither (is_syn_sent peer.state) (is_closed peer.state) speaks).1 stands at from to within) refl refl
