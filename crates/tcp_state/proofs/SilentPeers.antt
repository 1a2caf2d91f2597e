-- When a silent peer is asked whether it is there, and when that ends the connection.
use Rattle.std.proofs.Common.{◌≡◌, ◌≢◌, ℕ, suc, ◌+◌, ◌*◌, ◌<◌, ◌≤◌, ◌==◌, ◌&&◌, nat_le, min, if◌then◌else◌, true, false, Option, Some, None, inl, inr, arith, refl, ◌∙◌, ap, ap₂}
use Rattle.std.proofs.lemmas.Bool.{le-leb, lt-leb}
use Rattle.std.proofs.lemmas.Bool.Decides.{eqb_tells}
use Rattle.tcp_segment.specs.Segment.{Segment}
use Rattle.clock.specs.declared.moment.Moment.{Moment}
use Rattle.clock.specs.Moments.{after, has_come}
use Rattle.tcp_state.specs.declared.alive.KeepAlive.{KeepAlive}
use Rattle.tcp_state.specs.declared.alive.TheConstants.{MOST_KEEPALIVE}
use Rattle.tcp_state.specs.declared.calls.Refusal.TheVariants.{ETIMEDOUT}
use Rattle.tcp_state.specs.declared.connection.Fate.TheVariants.{Rejected}
use Rattle.tcp_state.specs.declared.resend.TheConstants.{MOST_EXPIRIES, MOST_INTERVAL}
use Rattle.tcp_state.specs.declared.state.State.TheVariants.{Closed}
use Rattle.tcp_halves.proofs.Choices.{either, by, both, or_right}
use Rattle.tcp_state.specs.View.{View, is_closed, is_at_end, after_stop, after_reset}
use Rattle.tcp_state.specs.Alive.{heard_now, rests, wait_of, end_of_silence, is_silent, unanswered_again, after_silence}
use Rattle.tcp_state.specs.Timing.{expires_for_good, gives_up, after_expiries, after_tick}
use Rattle.tcp_state.specs.Arrival.{fate}
use Rattle.tcp_state.specs.Edges.{Hears, after_event}
use Rattle.tcp_state.proofs.AliveBy.{timers_alive, heard_alive}
use Rattle.tcp_state.proofs.Deadlines.{busy}
use Rattle.tcp_state.proofs.Rejecting.{heard_at}
use Rattle.tcp_state.proofs.StillStreams.{by_tick}

-- How long a peer may say nothing.

first_wait : (a : KeepAlive) (every : ℕ) → a.unanswered ≡ 0 → wait_of a every ≡ min 86400000 every
first_wait a every none = ap (λ n. if n == 0 then min MOST_KEEPALIVE every else min MOST_INTERVAL a.wait) none

some_asked : (n : ℕ) → 0 < n → (n == 0) ≡ false
some_asked n some = elim (eqb_tells n 0) [ inl t ↦ absurd (omega (arith, t.1, some)) | inr t ↦ t.0 ]

next_waits : (a : KeepAlive) (every : ℕ) → 0 < a.unanswered → wait_of a every ≡ min 60000 a.wait
next_waits a every some = ap (λ b. if b then min MOST_KEEPALIVE every else min MOST_INTERVAL a.wait) (some_asked a.unanswered some)

silent_is : (v : View) (every wait : ℕ) (now : Moment) → rests v ≡ true → v.alive.every ≡ Some every → wait_of v.alive every ≡ wait → is_silent v now ≡ nat_le (after v.alive.since wait).0 now.0
silent_is v every wait now quiet wants is =
    ap (λ b. has_come (if b then end_of_silence v.alive.every v.alive else None) now) quiet
    ∙ ap (λ o. has_come (end_of_silence o v.alive) now) wants
    ∙ ap (λ n. nat_le (after v.alive.since n).0 now.0) is

silent_at : (v : View) (every wait : ℕ) (now : Moment) → rests v ≡ true → v.alive.every ≡ Some every → wait_of v.alive every ≡ wait → (after v.alive.since wait).0 ≤ now.0 → is_silent v now ≡ true
silent_at v every wait now quiet wants is comes = silent_is v every wait now quiet wants is ∙ le-leb (after v.alive.since wait).0 now.0 comes

not_silent_at : (v : View) (every wait : ℕ) (now : Moment) → v.alive.every ≡ Some every → wait_of v.alive every ≡ wait → now.0 < (after v.alive.since wait).0 → is_silent v now ≡ false
not_silent_at v every wait now wants is early =
    by (is_silent v now ≡ false) (rests v) (λ quiet. silent_is v every wait now quiet wants is ∙ lt-leb (after v.alive.since wait).0 now.0 early) (λ waits. busy v now waits)

-- A tick.

-- where no silence is over, a tick asks nobody
asks_none : (v : View) (now : Moment) → is_silent v now ≡ false → (after_tick v now).alive ≡ v.alive
asks_none v now spoke =
    let quiet = after_silence v now in
    let same : quiet.alive ≡ v.alive = ap (λ b. if b then unanswered_again v.alive v.resend.timeout.rto now else v.alive) spoke in
    by_tick (λ w. w.alive ≡ v.alive) v now refl refl (timers_alive quiet now ∙ same) same

-- where one is, it asks, or ends the connection
asks_one : (v : View) (now : Moment) → is_silent v now ≡ true → is_closed (after_tick v now).state ≡ false → (after_tick v now).alive ≡ unanswered_again v.alive v.resend.timeout.rto now
asks_one v now silent =
    let quiet = after_silence v now in
    let next = unanswered_again v.alive v.resend.timeout.rto now in
    let asked : quiet.alive ≡ next = ap (λ b. if b then next else v.alive) silent in
    by_tick (λ w. is_closed w.state ≡ false → w.alive ≡ next) v now (λ lives. cc) (λ lives. cc) (λ lives. timers_alive quiet now ∙ asked) (λ lives. asked)

pub unasked : (v : View) (now : Moment) → v.alive.every ≡ None → (after_tick v now).alive ≡ v.alive
unasked v now none =
    asks_none v now
    (either (Option Moment) (λ o. has_come o now ≡ false) (rests v) (end_of_silence v.alive.every v.alive) None (λ quiet. ap (λ o. has_come (end_of_silence o v.alive) now) none) (λ waits. refl))

pub busy_unasked : (v : View) (now : Moment) → rests v ≡ false → (after_tick v now).alive ≡ v.alive
busy_unasked v now waits = asks_none v now (busy v now waits)

pub early : (v : View) (every : ℕ) (now : Moment) → v.alive.every ≡ Some every → v.alive.unanswered ≡ 0 → now.0 < (after v.alive.since (min 86400000 every)).0 → (after_tick v now).alive ≡ v.alive
early v every now wants none before = asks_none v now (not_silent_at v every (min 86400000 every) now wants (first_wait v.alive every none) before)

pub waits_on : (v : View) (every : ℕ) (now : Moment) → v.alive.every ≡ Some every → 0 < v.alive.unanswered → now.0 < (after v.alive.since (min 60000 v.alive.wait)).0 → (after_tick v now).alive ≡ v.alive
waits_on v every now wants some before = asks_none v now (not_silent_at v every (min 60000 v.alive.wait) now wants (next_waits v.alive every some) before)

pub asks : (v : View) (every : ℕ) (now : Moment) → rests v ≡ true → v.alive.every ≡ Some every → v.alive.unanswered ≡ 0 → (after v.alive.since (min 86400000 every)).0 ≤ now.0 → is_closed (after_tick v now).state ≡ false
    → (after_tick v now).alive ≡ record v.alive { since = now; wait = v.resend.timeout.rto; unanswered = 1; owed = true }
asks v every now quiet wants none comes lives =
    asks_one v now (silent_at v every (min 86400000 every) now quiet wants (first_wait v.alive every none) comes) lives
    ∙ ap (λ n. record v.alive { since = now; wait = if n == 0 then v.resend.timeout.rto else min MOST_INTERVAL (2 * v.alive.wait); unanswered = min MOST_EXPIRIES (suc n); owed = true }) none

pub asks_again : (v : View) (every : ℕ) (now : Moment) → rests v ≡ true → v.alive.every ≡ Some every → 0 < v.alive.unanswered → v.alive.unanswered < 12 → (after v.alive.since (min 60000 v.alive.wait)).0 ≤ now.0
    → is_closed (after_tick v now).state ≡ false → (after_tick v now).alive ≡ record v.alive { since = now; wait = min 60000 (2 * v.alive.wait); unanswered = v.alive.unanswered + 1; owed = true }
asks_again v every now quiet wants some few comes lives =
    let once_more : min MOST_EXPIRIES (suc v.alive.unanswered) ≡ v.alive.unanswered + 1 = omega (arith, few) in
    asks_one v now (silent_at v every (min 60000 v.alive.wait) now quiet wants (next_waits v.alive every some) comes) lives
    ∙ ap₂ (λ b n. record v.alive { since = now; wait = if b then v.resend.timeout.rto else min MOST_INTERVAL (2 * v.alive.wait); unanswered = n; owed = true }) (some_asked v.alive.unanswered some) once_more

pub ends : (v : View) (every : ℕ) (now : Moment) → rests v ≡ true → v.alive.every ≡ Some every → 12 ≤ v.alive.unanswered → (after v.alive.since (min 60000 v.alive.wait)).0 ≤ now.0 → is_at_end v now ≡ false
    → ((after_tick v now).state ≡ Closed) × ((after_tick v now).pending_error ≡ Some ETIMEDOUT)
ends v every now quiet wants twelve comes goes =
    let some : 0 < v.alive.unanswered = omega (arith, twelve) in
    let silent = silent_at v every (min 60000 v.alive.wait) now quiet wants (next_waits v.alive every some) comes in
    let asked = nat_le MOST_EXPIRIES v.alive.unanswered in
    let gives : gives_up v now ≡ true = or_right (expires_for_good v now) (is_silent v now && asked) (both (is_silent v now) asked silent (le-leb MOST_EXPIRIES v.alive.unanswered twelve)) in
    let on = after_expiries (after_silence v now) now in
    let given : after_tick v now ≡ after_reset v (Some ETIMEDOUT) =
    ap (λ b. if b then after_stop v else if gives_up v now then after_reset v (Some ETIMEDOUT) else on) goes ∙ ap (λ b. if b then after_reset v (Some ETIMEDOUT) else on) gives in
    (ap (λ (w : View). w.state) given, ap (λ (w : View). w.pending_error) given)

-- A segment.

pub hears : (v : View) (s : Segment) (now : Moment) → is_closed v.state ≡ false → fate v s ≢ Rejected → (after_event v (Hears s now)).alive ≡ record { every = v.alive.every; since = now; wait = 0; unanswered = 0; owed = false }
hears v s now lives taken = ap (λ (w : View). w.alive) (heard_at v s now lives taken) ∙ ap (λ (a : KeepAlive). heard_now a now) (heard_alive v s)
