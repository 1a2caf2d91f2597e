-- How late octets came, and what is waited for.
use Rattle.std.proofs.Common.{◌≡◌, ◌≢◌, ℕ, ◌-◌, ◌*◌, ◌^◌, ◌<◌, ◌≤◌, ◌==◌, ◌&&◌, ◌||◌, ◌⊎◌, not, nat_lt, nat_le, max, true, false, if◌then◌else◌, List, length, filter, inl, inr, arith, refl, sym, ◌∙◌, ap, ap₂}
use Rattle.std.proofs.lemmas.Bool.{le-leb, lt-leb, lt-ltb, le-ltb, ltb-true, eqb-true}
use Rattle.clock.specs.declared.moment.Moment.{Moment}
use Rattle.clock.specs.Moments.{has_come}
use Rattle.stream_buf.specs.declared.ranges.Range.{Range}
use Rattle.stream_buf.specs.declared.scoreboard.Tolerance.{Tolerance}
use Rattle.stream_buf.specs.declared.receive.TheConstants.{MOST_RANGES}
use Rattle.stream_buf.specs.Ranges.{covered}
use Rattle.stream_buf.specs.Scoreboard.{is_reported, is_lost, lost_end, tells_loss}
use Rattle.stream_buf.proofs.Kept.{covered_within}
use Rattle.stream_buf.proofs.Reports.{lost_before}
use Rattle.stream_buf.proofs.Stepping.{lost_none}
use Rattle.tcp_segment.specs.declared.TheConstants.{MSS}
use Rattle.tcp_segment.specs.Segment.{Segment}
use Rattle.tcp_segment.specs.Wire.{past}
use Rattle.tcp_halves.specs.Halves.{Sending}
use Rattle.tcp_halves.specs.Stream.{is_new_ack}
use Rattle.tcp_halves.specs.Windows.{updates_window}
use Rattle.tcp_halves.proofs.Choices.{either, by, clash, and_left, and_right, or_right}
use Rattle.tcp_state.specs.declared.state.State.{State}
use Rattle.tcp_state.specs.declared.state.State.TheVariants.{Closed, SynSent, SynReceived}
use Rattle.tcp_state.specs.Resend.{Resend, stopped, reached, counted_on}
use Rattle.tcp_state.specs.View.{View, IsSound, is_opening, is_syn_sent, is_syn_received, is_closed}
use Rattle.tcp_state.specs.Alive.{after_silence}
use Rattle.tcp_state.specs.Timing.{clocked, retransmission_expired, probe_expired, after_timers}
use Rattle.tcp_state.specs.Arrival.{after_new_ack, after_ack, after_window, after_text, is_receiving, beyond_end, after_heard, before, timed_by, resend_told}
use Rattle.tcp_state.specs.Selective.{tolerated, tolerance_of, tolerance, loss_end}
use Rattle.tcp_state.specs.Due.{first_due}
use Rattle.tcp_state.specs.Edges.{Event, Hears, Ticks, after_event}
use Rattle.tcp_state.proofs.Clocked.{by_others, heard_paced, after_paced}
use Rattle.tcp_state.proofs.Deadlines.{none_comes}
use Rattle.tcp_state.proofs.Events.{by_event}
use Rattle.tcp_state.proofs.Minute.{by_live_tick}
use Rattle.tcp_state.proofs.Recovering.{first_left}
use Rattle.tcp_state.proofs.Segments.{by_hearing, by_ack, by_fin}
use Rattle.tcp_state.proofs.Signals.{heard_is, moved_hears}

pub reached_late : (p : Resend) → ((p.recover == 0) && (p.tail == 0)) ≡ true → reached p ≡ max p.reach (covered p.reported)
unfolding reached
reached_late p first = ap (λ b. if b then max p.reach (covered p.reported) else p.reach) first

pub reached_still : (p : Resend) → ((p.recover == 0) && (p.tail == 0)) ≡ false → reached p ≡ p.reach
unfolding reached
reached_still p other = ap (λ b. if b then max p.reach (covered p.reported) else p.reach) other

-- What a segment tells.

opens_yet : (t : State) → (is_syn_sent t || is_syn_received t) ≡ true → is_opening t ≡ true
opens_yet SynSent e = refl
opens_yet SynReceived e = refl
opens_yet _ e = cc

open_before : (t : State) → is_closed (beyond_end t) ≡ false → is_closed t ≡ false
open_before Closed e = e
open_before _ e = refl

-- past the opening an ACK of new numbers tells it, and is counted, and nothing else does
abbrev pub Tells : View → Segment → View → Type 0
Tells v s w = ((w.resend.reach ≡ reached v.resend) × (w.resend.since_loss ≡ counted_on v.resend.since_loss (past w.sending.una v.sending.una)) × (is_new_ack v.sending s.acknowledgement ≡ true))
    ⊎ ((w.resend.reach ≡ v.resend.reach) × (w.resend.since_loss ≡ v.resend.since_loss) × ((w.sending.una ≡ v.sending.una) ⊎ (is_opening v.state ≡ true)))

pub heard_tells : (v : View) (s : Segment) → is_closed (after_heard v s).state ≡ false → Tells v s (after_heard v s)
heard_tells v s =
    let P : View → Type 0 = λ w. is_closed w.state ≡ false → Tells v s w in
    let here : P v = λ lives. inr (refl, refl, inl refl) in
    let gone = after_new_ack v s.acknowledgement in
    let told = after_window (after_ack v s.acknowledgement) s in
    let acked : P (after_ack v s.acknowledgement) = by_ack P v s.acknowledgement (record {
      old = here;
      beyond = here;
      opens = λ received new lives. inr (refl, refl, inr (opens_yet v.state (or_right (is_syn_sent v.state) (is_syn_received v.state) received)));
      octets = λ new lives. inl (refl, refl, new);
      fin = λ new fin lives. inl (ap (λ b. let p = if b then stopped gone.resend else gone.resend in p.reach) lives, ap (λ b. let p = if b then stopped gone.resend else gone.resend in p.since_loss) lives, new);
    }) in
    let heard : P told = either Sending (λ t. P (record (after_ack v s.acknowledgement) { sending = t })) (updates_window (after_ack v s.acknowledgement).sending s.number s.acknowledgement) _ (after_ack v s.acknowledgement).sending (λ newer. acked) (λ older. acked) in
    let text : P (after_text told s) = either View P ((length s.octets == 0) || not (is_receiving told.state)) told _ (λ none. heard) (λ some. heard) in
    by_hearing P v s (λ lives. cc) (record {
      dropped = here;
      drawn = here;
      reset = λ acts lives. cc;
      crossed = λ waits lives. inr (refl, refl, inl refl);
      opened = λ waits right lives. inr (refl, refl, inr (opens_yet v.state (ap (λ b. b || is_syn_received v.state) waits)));
      acknowledged = λ taken. acked;
      read = λ on. by_fin P (after_text told s) s (λ counts lives. text (open_before (after_text told s).state lives)) text text;
    })

timed_reach : (v : View) (s : Segment) (now : Moment) → (timed_by (before v s) (after_heard v s) now).resend.reach ≡ (after_heard v s).resend.reach
timed_reach v s now =
    let b = before v s in
    let x = after_heard v s in
    let P : Resend → Type 0 = λ p. p.reach ≡ x.resend.reach in
    let kept : P (resend_told b x now) = heard_paced b x now P refl refl refl in
    after_paced b x now P kept kept (λ r. kept) kept

pub late_told : (v : View) (s : Segment) (now : Moment) → is_opening v.state ≡ false → v.resend.recover ≡ 0 → v.resend.tail ≡ 0 → (after_event v (Hears s now)).sending.una ≢ v.sending.una → is_closed (after_event v (Hears s now)).state ≡ false
    → (after_event v (Hears s now)).resend.reach ≡ max v.resend.reach (covered v.resend.reported)
late_told v s now opened over out moved alive =
    let x = after_heard v s in
    let at = heard_is v s now (moved_hears v s now moved) in
    let lives : is_closed x.state ≡ false = sym (ap (λ (w : View). is_closed w.state) at) ∙ alive in
    let reach : (after_event v (Hears s now)).resend.reach ≡ x.resend.reach = ap (λ (w : View). w.resend.reach) at ∙ timed_reach v s now in
    reach ∙ elim (heard_tells v s lives) [
      | inl tells ↦ tells.0 ∙ reached_late v.resend (ap₂ (λ m n. (m == 0) && (n == 0)) over out)
      | inr other ↦ elim other.2 [
        | inl same ↦ absurd (moved (ap (λ (w : View). w.sending.una) at ∙ same))
        | inr opening ↦ clash (is_opening v.state) opening opened
      ]
    ]

-- An expiry forgets it.

expiry_forgets : (v : View) (now : Moment) → has_come v.timers.retransmission now ≡ true → (clocked false (after_timers v now) now).resend.reach ≡ 0
expiry_forgets v now comes =
    let P : View → Type 0 = λ w. w.resend.reach ≡ 0 in
    by_others P v now
    (either View P (has_come v.timers.retransmission now) (retransmission_expired v) _ (λ expires. refl) (λ early. clash (has_come v.timers.retransmission now) comes early))
    (λ w owes gone. gone) (λ w gone. gone)

pub late_forgotten : (v : View) (now : Moment) → has_come v.timers.retransmission now ≡ true → is_closed (after_event v (Ticks now)).state ≡ false → (after_event v (Ticks now)).resend.reach ≡ 0
late_forgotten v now comes alive = by_live_tick (λ w. w.resend.reach ≡ 0) v now alive (expiry_forgets (after_silence v now) now comes) (λ early. clash (has_come v.timers.retransmission now) comes (none_comes v now early))

-- Nothing else moves it.

abbrev Known : View → Event → View → Type 0
Known v e w = (w.resend.reach ≡ v.resend.reach)
    ⊎ (((s : Segment) × (now : Moment) × (e ≡ Hears s now) × (v.resend.recover ≡ 0) × (v.resend.tail ≡ 0))
    ⊎ ((now : Moment) × (e ≡ Ticks now) × (has_come v.timers.retransmission now ≡ true)))

heard_known : (v : View) (s : Segment) (now : Moment) → is_closed (timed_by (before v s) (after_heard v s) now).state ≡ false → Known v (Hears s now) (timed_by (before v s) (after_heard v s) now)
heard_known v s now lives =
    elim (heard_tells v s lives) [
      | inl tells ↦ by (Known v (Hears s now) (timed_by (before v s) (after_heard v s) now)) ((v.resend.recover == 0) && (v.resend.tail == 0))
          (λ first. inr (inl (s, now, refl, eqb-true v.resend.recover 0 (and_left (v.resend.recover == 0) (v.resend.tail == 0) first), eqb-true v.resend.tail 0 (and_right (v.resend.recover == 0) (v.resend.tail == 0) first))))
          (λ other. inl (timed_reach v s now ∙ tells.0 ∙ reached_still v.resend other))
      | inr same ↦ inl (timed_reach v s now ∙ same.0)
    ]

acts_known : (v : View) (now : Moment) → has_come v.timers.retransmission now ≡ false → (clocked false (after_timers (after_silence v now) now) now).resend.reach ≡ v.resend.reach
acts_known v now early =
    let quiet = after_silence v now in
    let P : View → Type 0 = λ w. w.resend.reach ≡ v.resend.reach in
    by_others P quiet now
    (either View P (has_come v.timers.retransmission now) (retransmission_expired quiet) _ (λ comes. clash (has_come v.timers.retransmission now) comes early)
    (λ late. either View P (has_come v.timers.probe now) (probe_expired quiet now) quiet (λ probes. refl) (λ rests. refl)))
    (λ w owes same. same) (λ w same. same)

pub late_stays : (v : View) (e : Event) → is_closed (after_event v e).state ≡ false → Known v e (after_event v e)
late_stays v e =
    by_event (λ e w. is_closed w.state ≡ false → Known v e w) v (record {
      same = λ e lives. inl refl;
      asks = λ e asked lives. inl refl;
      silent = λ now lives. inl refl;
      heard = λ s now goes lives. heard_known v s now lives;
      over = λ now ends lives. cc;
      given_up = λ now waits expired lives. cc;
      acts = λ now lives. by (Known v (Ticks now) (clocked false (after_timers (after_silence v now) now) now)) (has_come v.timers.retransmission now) (λ comes. inr (inr (now, refl, comes))) (λ early. inl (acts_known v now early));
      emits = λ now lives. inl (first_left v (first_due v) now).3;
      sends = λ octets taken now takes lives. inl refl;
      reads = λ len lives. inl refl;
      shuts = λ now lives. inl refl;
      delays = λ on now lives. inl refl;
      leaves = λ now goes lives. inl refl;
      aborts = λ e now at cause goes lives. cc;
      refused = λ number hit lives. cc;
      hopless = λ now gone lives. cc;
    }) e

-- What is waited for.

little_tells : (t : Tolerance) (rs : List Range) → length rs ≤ t.ranges → covered rs ≤ t.octets → lost_end t rs ≡ 0
little_tells t rs few some = lost_none t rs (ap₂ (λ a b. a || b) (le-ltb t.ranges (length rs) few) (le-ltb t.octets (covered rs) some))

much_tolerated : (smss reach : ℕ) → smss ≤ MSS → smss < reach → tolerance_of smss reach ≡ record { ranges = MOST_RANGES; octets = tolerated smss reach }
unfolding tolerance_of
much_tolerated smss reach small late =
    ap (λ b. let t : Tolerance = record { ranges = if b then 2 else MOST_RANGES; octets = tolerated smss reach } in t) (lt-leb (tolerated smss reach) (2 * smss) (omega (arith, small, late)))

pub late_waits : (v : View) → IsSound v → v.sending.smss < v.resend.reach → covered v.resend.reported ≤ 2 * v.resend.reach → loss_end v ≤ v.resend.tail
late_waits v sound late few =
    let rs = v.resend.reported in
    let most = covered_within rs (2 ^ 32 - 1) sound.resend.reported.apart sound.resend.reported.within in
    let t : Tolerance = record { ranges = MOST_RANGES; octets = tolerated v.sending.smss v.resend.reach } in
    let none : lost_end (tolerance v) rs ≡ 0 = ap (λ t. lost_end t rs) (much_tolerated v.sending.smss v.resend.reach sound.segment late) ∙ little_tells t rs sound.resend.reported.few (omega (arith, few, most)) in
    omega (arith, none)

usually_tolerated : (smss reach : ℕ) → reach ≤ smss → tolerance_of smss reach ≡ record { ranges = 2; octets = 2 * smss }
unfolding tolerance_of
usually_tolerated smss reach near =
    let same : tolerated smss reach ≡ 2 * smss = omega (arith, near) in
    ap (λ n. let t : Tolerance = record { ranges = if nat_le n (2 * smss) then 2 else MOST_RANGES; octets = n } in t) same
    ∙ ap (λ b. let t : Tolerance = record { ranges = if b then 2 else MOST_RANGES; octets = 2 * smss } in t) (le-leb (2 * smss) (2 * smss) (omega arith))

pub usual_tells : (v : View) (place : ℕ) → IsSound v → v.resend.reach ≤ v.sending.smss → is_reported v.resend.reported place ≡ false
    → ((2 < length (filter (λ r. nat_lt place r.start) v.resend.reported)) ⊎ (2 * v.sending.smss < covered (filter (λ r. nat_lt place r.start) v.resend.reported))) → place < loss_end v
usual_tells v place sound near unreported enough =
    let rs = v.resend.reported in
    let ahead : List Range = filter (λ r. nat_lt place r.start) rs in
    let usual : Tolerance = record { ranges = 2; octets = 2 * v.sending.smss } in
    let tells : tells_loss usual ahead ≡ true = elim enough [
      | inl many ↦ ap (λ b. b || nat_lt (2 * v.sending.smss) (covered ahead)) (lt-ltb 2 (length ahead) many)
      | inr some ↦ or_right (nat_lt 2 (length ahead)) (nat_lt (2 * v.sending.smss) (covered ahead)) (lt-ltb (2 * v.sending.smss) (covered ahead) some)
    ] in
    let before_end : nat_lt place (lost_end (tolerance v) rs) ≡ true =
    lost_before (tolerance v) rs 1 place sound.resend.reported.apart unreported ∙ ap (λ t. is_lost t rs place) (usually_tolerated v.sending.smss v.resend.reach near) ∙ tells in
    let there = ltb-true place (lost_end (tolerance v) rs) before_end in
    omega (arith, there)
