-- What moves the retransmission timeout.
use Rattle.std.proofs.Common.{◌≡◌, ◌≢◌, ℕ, ◌-◌, ◌*◌, ◌<◌, ◌==◌, ◌&&◌, ◌||◌, ◌⊎◌, not, nat_lt, min, if◌then◌else◌, Bool, true, false, length, Option, Some, None, inl, inr, refl, sym, ◌∙◌, ap, ap₂}
use Rattle.std.proofs.lemmas.Bool.{eq-eqb, ltb-true, lt-ltb}
use Rattle.tcp_segment.specs.Segment.{Segment}
use Rattle.clock.specs.declared.moment.Moment.{Moment}
use Rattle.clock.specs.Moments.{has_come}
use Rattle.retransmit.specs.Deadlines.{next_of}
use Rattle.retransmit.specs.Timeout.{Timeout, estimate_after, after_sample, after_lost_syn}
use Rattle.tcp_state.specs.declared.arrival.Before.{Before}
use Rattle.tcp_state.specs.declared.calls.Refusal.TheVariants.{ETIMEDOUT}
use Rattle.tcp_state.specs.declared.emission.Due.{Due}
use Rattle.tcp_state.specs.declared.resend.Timed.{Timed}
use Rattle.tcp_halves.specs.Numbers.{is_before}
use Rattle.tcp_halves.proofs.Choices.{either, by, clash, and_left, and_right, both, not_true}
use Rattle.tcp_state.specs.Resend.{Resend, stopped, timeout_sampled, resend_acknowledged}
use Rattle.tcp_state.specs.View.{View, is_opening, is_closed, after_stop, after_reset}
use Rattle.tcp_state.specs.Alive.{after_silence}
use Rattle.tcp_state.specs.Timing.{clocked, retransmission_expired, probe_expired, after_timers, after_expiries}
use Rattle.tcp_state.specs.Arrival.{is_receiving, after_new_ack, after_ack, after_window, after_text, after_heard, is_rejected, before, is_moved, resend_answered, resend_heard, resend_after, timed_by}
use Rattle.tcp_state.specs.Due.{first_due}
use Rattle.tcp_state.specs.Edges.{Event, Hears, Ticks, after_first, after_event}
use Rattle.tcp_state.proofs.Clocked.{by_others, after_paced}
use Rattle.tcp_state.proofs.Deadlines.{none_comes}
use Rattle.tcp_state.proofs.Events.{by_event}
use Rattle.tcp_state.proofs.Gains.{receiving_lives}
use Rattle.tcp_state.proofs.Resends.{segment_hears, goes_out}
use Rattle.tcp_state.proofs.Segments.{by_fin, by_ack, by_hearing}
use Rattle.tcp_state.proofs.Signals.{heard_is, moved_hears, is_moved_by, goes_on}

-- A segment.

-- what is measured stays so, where the segment closes nothing
pub timed_still : (v : View) (s : Segment) → is_closed (after_heard v s).state ≡ false → (after_heard v s).resend.timed ≡ v.resend.timed
timed_still v s =
    let P : View → Type 0 = λ w. is_closed w.state ≡ false → w.resend.timed ≡ v.resend.timed in
    let told = after_window (after_ack v s.acknowledgement) s in
    let acked : P (after_ack v s.acknowledgement) = by_ack P v s.acknowledgement (record {
      old = λ alive. refl;
      beyond = λ alive. refl;
      opens = λ received new alive. refl;
      octets = λ new alive. refl;
      fin = λ new fin alive. ap (λ b. let p = after_new_ack v s.acknowledgement in let q = if b then stopped p.resend else p.resend in q.timed) alive;
    }) in
    let read = after_text told s in
    let text : P read = either View P ((length s.octets == 0) || not (is_receiving told.state)) told _ (λ none. acked) (λ some. acked) in
    by_hearing P v s (λ alive. cc) (record {
      dropped = λ alive. refl;
      drawn = λ alive. refl;
      reset = λ r alive. cc;
      crossed = λ waits alive. refl;
      opened = λ waits right alive. refl;
      acknowledged = λ taken. acked;
      read = λ on. by_fin P read s
          (λ counts alive. text (receiving_lives read.state (and_right s.flags.fin (is_receiving read.state) (and_left (s.flags.fin && is_receiving read.state) _ counts))).0)
          text text;
    })

-- without an acknowledgement that moves SND.UNA nothing is sampled, and with one the measured segment where it comes back
abbrev sample : View → ℕ → Moment → Timeout
sample v una now = timeout_sampled v.resend.timeout v.resend.timed una now

abbrev is_late : View → Bool
is_late v = is_opening v.state && nat_lt 0 v.resend.expiries

abbrev after_moved : View → ℕ → Moment → Timeout
after_moved v una now = if is_late v then after_lost_syn (sample v una now) else sample v una now

-- the third duplicate ACK leaves it
loss_leaves : (b : Before) (w : View) (now : Moment) → (resend_after b w now).timeout ≡ (resend_heard b w now).timeout
loss_leaves b w now = after_paced b w now (λ p. p.timeout ≡ (resend_heard b w now).timeout) refl refl (λ r. refl) refl

timeout_is : (v : View) (s : Segment) (now : Moment) → (is_closed v.state || is_rejected v s) ≡ false → (after_event v (Hears s now)).resend.timeout ≡ (resend_heard (before v s) (after_heard v s) now).timeout
timeout_is v s now hears = ap (λ (w : View). w.resend.timeout) (heard_is v s now hears) ∙ loss_leaves (before v s) (after_heard v s) now

-- by an acknowledgement that moves SND.UNA
heard_timeout : (v : View) (s : Segment) (now : Moment) → (timed : Option Timed) → (after_heard v s).resend.timed ≡ timed → is_moved (before v s) (after_heard v s) ≡ true
    → (resend_heard (before v s) (after_heard v s) now).timeout
    ≡ (let t = timeout_sampled v.resend.timeout timed (after_heard v s).sending.una now in if is_late v then after_lost_syn t else t)
heard_timeout v s now timed is moved =
    let b = before v s in
    let x = after_heard v s in
    let k = segment_hears v s in
    ap (λ c. let p = if c then resend_acknowledged x.resend x.sending.una (is_opening v.state) now else if b.answers_probe then resend_answered x else x.resend in p.timeout) moved
    ∙ ap (λ n. let t = timeout_sampled x.resend.timeout x.resend.timed x.sending.una now in if is_opening v.state && nat_lt 0 n then after_lost_syn t else t) k.expiries
    ∙ ap₂ (λ o d. let t = timeout_sampled o d x.sending.una now in if is_late v then after_lost_syn t else t) k.timeout is

moved_timeout : (v : View) (s : Segment) (now : Moment) → (after_event v (Hears s now)).sending.una ≢ v.sending.una → is_closed (after_event v (Hears s now)).state ≡ false
    → (after_event v (Hears s now)).resend.timeout ≡ after_moved v (after_event v (Hears s now)).sending.una now
moved_timeout v s now moved alive =
    let x = after_heard v s in
    let hears = moved_hears v s now moved in
    let at = heard_is v s now hears in
    let una = ap (λ (w : View). w.sending.una) at in
    timeout_is v s now hears
    ∙ heard_timeout v s now v.resend.timed (timed_still v s (sym (ap (λ (w : View). is_closed w.state) at) ∙ alive)) (is_moved_by v s (λ same. moved (una ∙ same)))
    ∙ ap (λ n. after_moved v n now) (sym una)

-- the measured segment comes back
sampled_of : (v : View) (una : ℕ) (now : Moment) (timed : Timed) → v.resend.timed ≡ Some timed → is_before una timed.end.0 ≡ false → sample v una now ≡ after_sample v.resend.timeout (now.0 - timed.since.0)
sampled_of v una now timed is reached =
    ap (λ o. timeout_sampled v.resend.timeout o una now) is ∙ ap (λ b. if not b then after_sample v.resend.timeout (now.0 - timed.since.0) else v.resend.timeout) reached

late_or_not : (late : Bool) (t : Timeout) → (let u = if late then after_lost_syn t else t in u.estimate) ≡ t.estimate
late_or_not true t = refl
late_or_not false t = refl

pub samples : (v : View) (s : Segment) (now : Moment) (timed : Timed) → v.resend.timed ≡ Some timed → (after_event v (Hears s now)).sending.una ≢ v.sending.una
    → is_closed (after_event v (Hears s now)).state ≡ false → is_before (after_event v (Hears s now)).sending.una timed.end.0 ≡ false
    → ((after_event v (Hears s now)).resend.timeout.estimate ≡ Some (estimate_after v.resend.timeout.estimate (min 60000 (now.0 - timed.since.0))))
    × ((is_opening v.state && nat_lt 0 v.resend.expiries) ≡ false → (after_event v (Hears s now)).resend.timeout ≡ after_sample v.resend.timeout (now.0 - timed.since.0))
samples v s now timed is moved alive reached =
    let w = after_event v (Hears s now) in
    let all = moved_timeout v s now moved alive in
    let one = sampled_of v w.sending.una now timed is reached in (
      ap (λ (t : Timeout). t.estimate) all ∙ late_or_not (is_late v) (sample v w.sending.una now) ∙ ap (λ (t : Timeout). t.estimate) one,
      λ in_time. all ∙ ap (λ b. if b then after_lost_syn (sample v w.sending.una now) else sample v w.sending.una now) in_time ∙ one,
    )

pub begins_after_loss : (v : View) (s : Segment) (now : Moment) → is_opening v.state ≡ true → 0 < v.resend.expiries → (after_event v (Hears s now)).sending.una ≢ v.sending.una
    → is_closed (after_event v (Hears s now)).state ≡ false
    → ((after_event v (Hears s now)).resend.timeout.rto ≡ 3000) × (v.resend.timed ≡ None → (after_event v (Hears s now)).resend.timeout.estimate ≡ v.resend.timeout.estimate)
begins_after_loss v s now opening some moved alive =
    let w = after_event v (Hears s now) in
    let all = moved_timeout v s now moved alive in
    let t = sample v w.sending.una now in
    let late : is_late v ≡ true = both (is_opening v.state) (nat_lt 0 v.resend.expiries) opening (lt-ltb 0 v.resend.expiries some) in (
      ap (λ (u : Timeout). u.rto) (all ∙ ap (λ b. if b then after_lost_syn t else t) late),
      λ none. ap (λ (u : Timeout). u.estimate) all ∙ late_or_not (is_late v) t ∙ ap (λ o. let u = timeout_sampled v.resend.timeout o w.sending.una now in u.estimate) none,
    )

-- An expiry.

abbrev doubled : View → Timeout
doubled v = record v.resend.timeout { rto = min 60000 (2 * v.resend.timeout.rto) }

expiry_doubles : (v : View) (now : Moment) → has_come v.timers.retransmission now ≡ true → (clocked false (after_timers v now) now).resend.timeout ≡ doubled v
expiry_doubles v now comes =
    by_others (λ w. w.resend.timeout ≡ doubled v) v now
    (either View (λ w. w.resend.timeout ≡ doubled v) (has_come v.timers.retransmission now) (retransmission_expired v) _ (λ expires. refl) (λ early. clash (has_come v.timers.retransmission now) comes early))
    (λ w owes same. same) (λ w same. same)

pub expiries_double : (v : View) (now : Moment) → has_come v.timers.retransmission now ≡ true → is_closed (after_event v (Ticks now)).state ≡ false → (after_event v (Ticks now)).resend.timeout ≡ doubled v
expiries_double v now comes alive =
    let on = goes_on v now alive in
    let quiet = after_silence v now in
    let acts = clocked false (after_timers quiet now) now in
    let next : has_come (next_of v.timers) now ≡ true = by (has_come (next_of v.timers) now ≡ true) (has_come (next_of v.timers) now) (λ has. has)
    (λ early. clash (has_come v.timers.retransmission now) comes (none_comes v now early)) in
    ap₂ (λ a b. let w = if a then after_stop v else if b then after_reset v (Some ETIMEDOUT) else after_expiries quiet now in w.resend.timeout) on.0 on.1
    ∙ ap (λ b. let w = if b then acts else quiet in w.resend.timeout) next
    ∙ expiry_doubles quiet now comes

-- no other timer moves it
early_keeps : (v : View) (now : Moment) → has_come v.timers.retransmission now ≡ false → (clocked false (after_timers v now) now).resend.timeout ≡ v.resend.timeout
early_keeps v now early =
    by_others (λ w. w.resend.timeout ≡ v.resend.timeout) v now
    (either View (λ w. w.resend.timeout ≡ v.resend.timeout) (has_come v.timers.retransmission now) (retransmission_expired v) _ (λ comes. clash (has_come v.timers.retransmission now) comes early)
    (λ late. either View (λ w. w.resend.timeout ≡ v.resend.timeout) (has_come v.timers.probe now) (probe_expired v now) v (λ probes. refl) (λ rests. refl)))
    (λ w owes same. same) (λ w same. same)

-- Nothing else.

sampled_or : (t : Timeout) (o : Option Timed) (una : ℕ) (now : Moment) → (timeout_sampled t o una now ≡ t) ⊎ ((timed : Timed) × (o ≡ Some timed) × (is_before una timed.end.0 ≡ false))
sampled_or t None una now = inl refl
sampled_or t (Some timed) una now =
    by ((timeout_sampled t (Some timed) una now ≡ t) ⊎ ((out : Timed) × (Some timed ≡ Some out) × (is_before una out.end.0 ≡ false))) (is_before una timed.end.0)
    (λ early. inl (ap (λ b. if not b then after_sample t (now.0 - timed.since.0) else t) early)) (λ reached. inr (timed, refl, reached))

abbrev Moved : View → Event → View → Type 0
Moved v e w = ((s : Segment) × (now : Moment) × (e ≡ Hears s now) × (w.sending.una ≢ v.sending.una)
    × (((timed : Timed) × (v.resend.timed ≡ Some timed) × (is_before w.sending.una timed.end.0 ≡ false)) ⊎ ((is_opening v.state ≡ true) × (0 < v.resend.expiries))))
    ⊎ ((now : Moment) × (e ≡ Ticks now) × (has_come v.timers.retransmission now ≡ true))

-- a segment, by what it leaves of the measured one
heard_by : (v : View) (s : Segment) (now : Moment) → let w = timed_by (before v s) (after_heard v s) now in (w.resend.timeout ≡ v.resend.timeout) ⊎ Moved v (Hears s now) w
heard_by v s now =
    let b = before v s in
    let x = after_heard v s in
    let k = segment_hears v s in
    let G : Type 0 = let w = timed_by b x now in (w.resend.timeout ≡ v.resend.timeout) ⊎ Moved v (Hears s now) w in
    let same : (resend_heard b x now).timeout ≡ v.resend.timeout → G = λ is. inl (loss_leaves b x now ∙ is) in
    by G (is_moved b x)
    (λ moved.
    let apart : x.sending.una ≢ v.sending.una = λ still. clash (v.sending.una == x.sending.una) (eq-eqb v.sending.una x.sending.una (sym still)) (not_true (v.sending.una == x.sending.una) moved) in
    by G (is_late v)
    (λ late. inr (inl (s, now, refl, apart, inr (and_left (is_opening v.state) (nat_lt 0 v.resend.expiries) late, ltb-true 0 v.resend.expiries (and_right (is_opening v.state) (nat_lt 0 v.resend.expiries) late)))))
    (λ in_time.
    let sampled : (timed : Option Timed) → x.resend.timed ≡ timed → (resend_heard b x now).timeout ≡ timeout_sampled v.resend.timeout timed x.sending.una now = λ timed is.
    heard_timeout v s now timed is moved ∙ ap (λ c. let t = timeout_sampled v.resend.timeout timed x.sending.una now in if c then after_lost_syn t else t) in_time in
    elim k.timed [
      | inl still ↦ elim (sampled_or v.resend.timeout v.resend.timed x.sending.una now) [
        | inl none ↦ same (sampled v.resend.timed still ∙ none)
        | inr out ↦ inr (inl (s, now, refl, apart, inl out))
      ]
      | inr none ↦ same (sampled None none)
    ]))
    (λ stays. same (ap (λ c. let p = if c then resend_acknowledged x.resend x.sending.una (is_opening v.state) now else if b.answers_probe then resend_answered x else x.resend in p.timeout) stays
    ∙ either Resend (λ p. p.timeout ≡ v.resend.timeout) b.answers_probe (resend_answered x) x.resend (λ answers. k.timeout) (λ other. k.timeout)))

emitted_keeps : (v : View) (o : Option Due) (now : Moment) → (after_first v o now).resend.timeout ≡ v.resend.timeout
emitted_keeps v None now = refl
emitted_keeps v (Some due) now = (goes_out v due now).timeout

pub others_keep : (v : View) (e : Event) → ((after_event v e).resend.timeout ≡ v.resend.timeout) ⊎ Moved v e (after_event v e)
others_keep v e = by_event (λ e w. (w.resend.timeout ≡ v.resend.timeout) ⊎ Moved v e w) v (record {
  same = λ e. inl refl;
  asks = λ e alive. inl refl;
  silent = λ now. inl refl;
  heard = λ s now lives. heard_by v s now;
  over = λ now ends. inl refl;
  given_up = λ now waits expired. inl refl;
  acts = λ now. let acted = clocked false (after_timers (after_silence v now) now) now in by ((acted.resend.timeout ≡ v.resend.timeout) ⊎ Moved v (Ticks now) acted) (has_come v.timers.retransmission now)
      (λ comes. inr (inr (now, refl, comes))) (λ early. inl (early_keeps (after_silence v now) now early));
  emits = λ now. inl (emitted_keeps v (first_due v) now);
  sends = λ octets taken now opened. inl refl;
  reads = λ len. inl refl;
  shuts = λ now. inl refl;
  delays = λ on now. inl refl;
  leaves = λ now lives. inl refl;
  aborts = λ e now at cause lives. inl refl;
  refused = λ number hit. inl refl;
  hopless = λ now over. inl refl;
}) e
