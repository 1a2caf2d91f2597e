-- Why a tick does something exactly where the clock has come to the deadline.
use Rattle.std.proofs.Common.{◌≡◌, ℕ, ◌≤◌, ◌-◌, ◌&&◌, ◌||◌, not, nat_lt, nat_le, if◌then◌else◌, Bool, true, false, Option, Some, None, inl, inr, arith, refl, sym, ◌∙◌, ap, is_some}
use Rattle.std.proofs.lemmas.Bool.{leb-true, le-leb}
use Rattle.std.proofs.lemmas.Bool.Decides.{leb_tells}
use Rattle.clock.specs.declared.moment.Moment.{Moment}
use Rattle.clock.specs.Moments.{has_come, sooner}
use Rattle.retransmit.specs.Deadlines.{next_of}
use Rattle.tcp_state.specs.declared.calls.Refusal.TheVariants.{ETIMEDOUT}
use Rattle.tcp_state.specs.declared.resend.TheConstants.{MOST_EXPIRIES}
use Rattle.tcp_state.specs.Resend.{mark_past}
use Rattle.tcp_halves.specs.Stream.{outstanding}
use Rattle.tcp_state.specs.View.{View, is_closed, ends_at, is_at_end, after_stop, after_reset}
use Rattle.tcp_state.specs.Tail.{tail_at, is_tail_due}
use Rattle.tcp_state.specs.Alive.{rests, end_of_silence, alive_at, is_silent, unanswered_again, after_silence}
use Rattle.tcp_state.specs.Timing.{KeepsTime, probes, clocked, expires, is_silent_for_good, gives_up, retransmission_expired, probe_expired, after_expiry, delayed_ack_expired, override_expired, after_timers, after_expiries, after_tick, wants_out, deadline}
use Rattle.tcp_halves.proofs.Choices.{either, clash, and_left, or_left, or_right, or_else, neither}
use Rattle.tcp_state.proofs.TailProbes.{silent_timed, nobody_waits}

-- When a deadline has come.

either_first : (a b : Bool) → (b ≡ true → a ≡ true) → a ≡ (a || b)
either_first true b e = refl
either_first false true e = let bad = e refl in cc
either_first false false e = refl

either_second : (a b : Bool) → (a ≡ true → b ≡ true) → b ≡ (a || b)
either_second true true e = refl
either_second true false e = let bad = e refl in cc
either_second false b e = refl

-- what stands at a moment or before it comes no later
comes_by : (a b n : ℕ) → a ≤ b → nat_le b n ≡ true → nat_le a n ≡ true
comes_by a b n order come = let near = leb-true b n come in le-leb a n (omega (arith, order, near))

-- the sooner of two deadlines has come where one has
sooner_comes : (a b : Option Moment) (now : Moment) → has_come (sooner a b) now ≡ (has_come a now || has_come b now)
sooner_comes None b now = refl
sooner_comes (Some a) None now = either_first (nat_le a.0 now.0) false (λ e. cc)
sooner_comes (Some a) (Some b) now = elim (leb_tells a.0 b.0) [
  | inl t ↦ ap (λ c. has_come (if c then Some a else Some b) now) t.0 ∙ either_first (nat_le a.0 now.0) (nat_le b.0 now.0) (comes_by a.0 b.0 now.0 t.1)
  | inr t ↦ ap (λ c. has_come (if c then Some a else Some b) now) t.0 ∙ either_second (nat_le a.0 now.0) (nat_le b.0 now.0) (comes_by b.0 a.0 now.0 (omega (arith, t.1)))
]

-- the timers of which one has come
pub timers_come : (v : View) (now : Moment)
    → has_come (next_of v.timers) now ≡ ((has_come v.timers.retransmission now || has_come v.timers.probe now) || (has_come v.timers.delayed_ack now || has_come v.timers.overriding now))
timers_come v now =
    let t = v.timers in
    sooner_comes (sooner t.retransmission t.probe) (sooner t.delayed_ack t.overriding) now
    ∙ ap (λ b. b || has_come (sooner t.delayed_ack t.overriding) now) (sooner_comes t.retransmission t.probe now)
    ∙ ap (λ b. (has_come t.retransmission now || has_come t.probe now) || b) (sooner_comes t.delayed_ack t.overriding now)

pub come_runs : (deadline : Option Moment) (now : Moment) → has_come deadline now ≡ true → is_some deadline ≡ true
come_runs None now e = cc
come_runs (Some moment) now e = refl

-- where no timer has come, that of what is outstanding has not
pub none_comes : (v : View) (now : Moment) → has_come (next_of v.timers) now ≡ false → has_come v.timers.retransmission now ≡ false
none_comes v now early =
    let t = v.timers in
    let expired = (neither (expires v now) (has_come t.delayed_ack now || has_come t.overriding now) (sym (timers_come v now) ∙ early)).0 in
    (neither (has_come t.retransmission now) (has_come t.probe now) expired).0

-- nothing is waited for of a peer that something of ours waits for
pub busy : (v : View) (now : Moment) → rests v ≡ false → is_silent v now ≡ false
busy v now waits = ap (λ b. has_come (if b then end_of_silence v.alive.every v.alive else None) now) waits

-- what has come where the deadline has: a timer, the end of a wait, or that of a silence, also about the tail of what is outstanding
deadline_comes : (v : View) (now : Moment) → has_come (deadline v) now ≡ (has_come (next_of v.timers) now || is_at_end v now || (is_silent v now || is_tail_due v now))
deadline_comes v now =
    sooner_comes (sooner (next_of v.timers) (ends_at v)) (sooner (alive_at v) (tail_at v)) now
    ∙ ap (λ b. b || has_come (sooner (alive_at v) (tail_at v)) now) (sooner_comes (next_of v.timers) (ends_at v) now)
    ∙ ap (λ b. has_come (next_of v.timers) now || is_at_end v now || b) (sooner_comes (alive_at v) (tail_at v) now)

-- before the deadline a tick changes nothing
pub waits : (v : View) (now : Moment) → has_come (deadline v) now ≡ false → after_tick v now ≡ v
waits v now early =
    let spoken = neither (has_come (next_of v.timers) now || is_at_end v now) (is_silent v now || is_tail_due v now) (sym (deadline_comes v now) ∙ early) in
    let heard = neither (is_silent v now) (is_tail_due v now) spoken.1 in
    let parts = neither (has_come (next_of v.timers) now) (is_at_end v now) spoken.0 in
    let expired = neither (expires v now) (has_come v.timers.delayed_ack now || has_come v.timers.overriding now) (sym (timers_come v now) ∙ parts.0) in
    let gives = after_reset v (Some ETIMEDOUT) in
    let goes_on = after_expiries (after_silence v now) now in
    ap (λ b. if b then after_stop v else if gives_up v now then gives else goes_on) parts.1
    ∙ ap (λ b. if (b && nat_le MOST_EXPIRIES v.resend.expiries) || is_silent_for_good v now then gives else goes_on) expired.0
    ∙ ap (λ b. if b && nat_le MOST_EXPIRIES v.alive.unanswered then gives else goes_on) heard.0
    ∙ ap (λ w. after_expiries w now) (nobody_waits v now heard.0 heard.1)
    ∙ ap (λ b. if b then clocked false (after_timers v now) now else v) parts.0

-- What timers that act leave to be done.

-- once the clock is set, something goes out again, a probe or an acknowledgement goes out, or new octets wait no longer
abbrev Wants : View → Type 0
Wants w = (is_some w.resend.mark || (w.resend.owes_probe && probes w) || w.owes_ack || w.resend.overridden) ≡ true

still_wanted : (again probe ack delayed new : Bool) → (again || probe || ack || new) ≡ true → (again || probe || (ack || delayed) || new) ≡ true
still_wanted true probe ack delayed new e = refl
still_wanted false true ack delayed new e = refl
still_wanted false false true delayed new e = refl
still_wanted false false false true new e = refl
still_wanted false false false false new e = e

ack_wanted : (again probe ack delayed new : Bool) → delayed ≡ true → (again || probe || (ack || delayed) || new) ≡ true
ack_wanted true probe ack delayed new e = refl
ack_wanted false true ack delayed new e = refl
ack_wanted false false true delayed new e = refl
ack_wanted false false false true new e = refl
ack_wanted false false false false new e = cc

probe_wanted : (again probe ack new : Bool) → probe ≡ true → (again || probe || ack || new) ≡ true
probe_wanted true probe ack new e = refl
probe_wanted false true ack new e = refl
probe_wanted false false ack new e = cc

again_wanted : (again probe ack new : Bool) → again ≡ true → (again || probe || ack || new) ≡ true
again_wanted true probe ack new e = refl
again_wanted false probe ack new e = cc

wanted_after_ack : (w : View) (now : Moment) → Wants w → Wants (delayed_ack_expired w now)
wanted_after_ack w now wants =
    either View Wants (has_come w.timers.delayed_ack now) _ w
    (λ comes. still_wanted (is_some w.resend.mark) (w.resend.owes_probe && probes w) w.owes_ack w.delays_ack w.resend.overridden wants) (λ early. wants)

wanted_after_override : (w : View) (now : Moment) → Wants w → Wants (override_expired w now)
wanted_after_override w now wants =
    either View Wants (has_come w.timers.overriding now) _ w
    (λ comes. or_right (is_some w.resend.mark || (w.resend.owes_probe && probes w) || w.owes_ack) true refl) (λ early. wants)

wanted_by_ack : (w : View) (now : Moment) → has_come w.timers.delayed_ack now ≡ true → w.delays_ack ≡ true → Wants (delayed_ack_expired w now)
wanted_by_ack w now come delays =
    either View Wants (has_come w.timers.delayed_ack now) _ w
    (λ comes. ack_wanted (is_some w.resend.mark) (w.resend.owes_probe && probes w) w.owes_ack w.delays_ack w.resend.overridden delays)
    (λ early. clash (has_come w.timers.delayed_ack now) come early)

wanted_by_override : (w : View) (now : Moment) → has_come w.timers.overriding now ≡ true → Wants (override_expired w now)
wanted_by_override w now come =
    either View Wants (has_come w.timers.overriding now) _ w
    (λ comes. or_right (is_some w.resend.mark || (w.resend.owes_probe && probes w) || w.owes_ack) true refl)
    (λ early. clash (has_come w.timers.overriding now) come early)

-- the timer of what is outstanding or of the probe leaves the others
record KeepsOthers (v w : View) : Type 0 where
  pub delays : w.delays_ack ≡ v.delays_ack
  pub delayed_ack : w.timers.delayed_ack ≡ v.timers.delayed_ack
  pub overriding : w.timers.overriding ≡ v.timers.overriding

expiry_others : (v : View) (now : Moment) → KeepsOthers v (after_expiry v now)
expiry_others v now =
    let same : KeepsOthers v v = record { delays = refl; delayed_ack = refl; overriding = refl } in
    either View (λ w. KeepsOthers v w) (has_come v.timers.retransmission now) _ _ (λ comes. record { delays = refl; delayed_ack = refl; overriding = refl })
    (λ early. either View (λ w. KeepsOthers v w) (has_come v.timers.probe now) _ v (λ comes. record { delays = refl; delayed_ack = refl; overriding = refl }) (λ neither_comes. same))

wanted_by_expiry : (v : View) (now : Moment) → KeepsTime v → expires v now ≡ true → Wants (after_expiry v now)
wanted_by_expiry v now keeps come =
    either View Wants (has_come v.timers.retransmission now) (retransmission_expired v) _
    (λ comes.
    let runs = sym keeps.retransmission ∙ come_runs v.timers.retransmission now comes in
    let some : nat_lt 0 (outstanding v.sending) ≡ true = and_left (nat_lt 0 (outstanding v.sending)) (not (probes v)) runs in
    again_wanted (is_some (mark_past 0 (outstanding v.sending))) (v.resend.owes_probe && probes v) v.owes_ack v.resend.overridden (ap (λ b. is_some {T = ℕ} (if b then Some 0 else None)) some))
    (λ early.
    let probed : has_come v.timers.probe now ≡ true = elim (or_else (has_come v.timers.retransmission now) (has_come v.timers.probe now) come) [ inl comes ↦ clash (has_come v.timers.retransmission now) comes early | inr comes ↦ comes ] in
    either View Wants (has_come v.timers.probe now) (probe_expired v now) v
    (λ comes. probe_wanted (is_some v.resend.mark) (probes v) v.owes_ack v.resend.overridden (sym keeps.probe ∙ come_runs v.timers.probe now comes))
    (λ late. clash (has_come v.timers.probe now) probed late))

wanted_by_timers : (v : View) (now : Moment) → KeepsTime v → has_come (next_of v.timers) now ≡ true → Wants (after_timers v now)
wanted_by_timers v now keeps come =
    let t = v.timers in
    let first = after_expiry v now in
    let second = delayed_ack_expired first now in
    let others = expiry_others v now in
    elim (or_else (expires v now) (has_come t.delayed_ack now || has_come t.overriding now) (sym (timers_come v now) ∙ come)) [
      | inl expired ↦ wanted_after_override second now (wanted_after_ack first now (wanted_by_expiry v now keeps expired))
      | inr rest ↦ elim (or_else (has_come t.delayed_ack now) (has_come t.overriding now) rest) [
        | inl acks ↦
            let delays = and_left v.delays_ack (not v.owes_ack) (sym keeps.delayed_ack ∙ come_runs t.delayed_ack now acks) in
            wanted_after_override second now (wanted_by_ack first now (ap (λ (o : Option Moment). has_come o now) others.delayed_ack ∙ acks) (others.delays ∙ delays))
        | inr overrides ↦
            let kept : second.timers.overriding ≡ first.timers.overriding = either View (λ w. w.timers.overriding ≡ first.timers.overriding) (has_come first.timers.delayed_ack now) _ first (λ comes. refl) (λ early. refl) in
            wanted_by_override second now (ap (λ (o : Option Moment). has_come o now) (kept ∙ others.overriding) ∙ overrides)
      ]
    ]

-- a silent peer is asked
pub owed_in_silence : (v : View) (now : Moment) → is_silent v now ≡ true → (after_silence v now).alive.owed ≡ true
owed_in_silence v now silent = ap (λ b. let a = if b then unanswered_again v.alive v.resend.timeout.rto now else v.alive in a.owed) silent

-- .. and the last segment goes out again
marked_in_silence : (v : View) (now : Moment) → is_tail_due v now ≡ true → is_some (let w = after_silence v now in w.resend.mark) ≡ true
marked_in_silence v now due = ap (λ b. is_some (if b then Some (outstanding v.sending - v.sending.smss) else v.resend.mark)) due

pub acts : (v : View) (now : Moment) → KeepsTime v → has_come (deadline v) now ≡ true → (wants_out (after_tick v now) || is_closed (after_tick v now).state) ≡ true
acts v now keeps come =
    let P : View → Type 0 = λ w. (wants_out w || is_closed w.state) ≡ true in
    let quiet = after_silence v now in
    let acted = clocked false (after_timers quiet now) now in
    let before : View → Bool = λ w. is_some w.resend.mark || w.resend.owes_probe || w.owes_ack || w.resend.overridden in
    either View P (is_at_end v now) (after_stop v) _ (λ over. or_right (wants_out (after_stop v)) true refl)
    (λ goes_on. either View P (gives_up v now) (after_reset v (Some ETIMEDOUT)) _ (λ given_up. or_right (wants_out (after_reset v (Some ETIMEDOUT))) true refl)
    (λ lives. either View P (has_come (next_of v.timers) now) acted quiet
    (λ comes. or_left (wants_out acted) (is_closed acted.state) (or_left (before acted) acted.alive.owed (wanted_by_timers quiet now (silent_timed v now keeps) comes)))
    (λ early.
    let none = ap (λ b. b || is_at_end v now) early ∙ goes_on in
    or_left (wants_out quiet) (is_closed quiet.state)
    (elim (or_else (has_come (next_of v.timers) now || is_at_end v now) (is_silent v now || is_tail_due v now) (sym (deadline_comes v now) ∙ come)) [
      | inl other ↦ clash (has_come (next_of v.timers) now || is_at_end v now) other none
      | inr is ↦ elim (or_else (is_silent v now) (is_tail_due v now) is) [
        | inl silent ↦ or_right (before quiet) quiet.alive.owed (owed_in_silence v now silent)
        | inr tail ↦ or_left (before quiet) quiet.alive.owed (again_wanted (is_some quiet.resend.mark) quiet.resend.owes_probe quiet.owes_ack quiet.resend.overridden (marked_in_silence v now tail))
      ]
    ]))))
