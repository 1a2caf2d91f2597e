-- What an event makes of a connection, case by case.
use Rattle.std.proofs.Common.{◌≡◌, ℕ, ◌==◌, ◌||◌, Bool, true, false, List, ◌++◌, length, take, Some, is_some, refl}
use Rattle.tcp_segment.specs.Segment.{Segment}
use Rattle.clock.specs.declared.moment.Moment.{Moment}
use Rattle.clock.specs.Moments.{has_come}
use Rattle.retransmit.specs.Deadlines.{next_of}
use Rattle.tcp_state.specs.declared.calls.Refusal.TheVariants.{ECONNREFUSED, ETIMEDOUT}
use Rattle.tcp_halves.specs.Stream.{after_read}
use Rattle.tcp_state.specs.View.{View, is_opening, is_closed, is_syn_sent, is_write_closed, is_at_end, after_stop, after_reset}
use Rattle.tcp_state.specs.Timing.{clocked, gives_up, after_timers}
use Rattle.tcp_state.specs.Calls.{send_count, recv_count, with_octets, beyond_shutdown, shutdown_refusal, after_shutdown, after_set_nodelay, aborted_at, after_release, is_removed_by_close, is_aborted_by_close}
use Rattle.tcp_state.specs.Arrival.{after_heard, is_rejected, before, timed_by}
use Rattle.tcp_state.specs.Due.{first_due}
use Rattle.tcp_state.specs.Unreachable.{is_unreachable}
use Rattle.tcp_state.specs.Hop.{unheard_until}
use Rattle.tcp_state.specs.declared.alive.KeepAlive.{KeepAlive}
use Rattle.tcp_state.specs.Alive.{asked, after_silence}
use Rattle.tcp_state.specs.Edges.{Event, Hears, Ticks, Emits, Sends, Receives, Shuts, SetsNoDelay, SetsKeepAlive, Closes, Aborts, Unreachable, LosesHop, moment_of, after_first, after_event, is_cause}
use Rattle.tcp_halves.proofs.Choices.{either, neither, or_right}

-- octets are taken to be sent
abbrev pub holding : View → List ℕ → View
holding v octets = record v { sending = record v.sending { held = v.sending.held ++ octets } }

-- our side is closed
abbrev pub shut : View → Bool → Moment → View
shut v released since = record v { state = beyond_shutdown v.state; released = released; since = since }

-- What each event may make of a connection: most leave it as it is, each for a reason of its own, or but for what is known of a peer that says nothing. A segment is heard; its wait is over, it is given up, or a timer
-- acts; something goes out; octets are taken to be sent, or read; our side closes, and with it its caller may leave; small segments wait from now on, or don't; it is aborted; its SYN can't be delivered; and it
-- waited for its hop as long as it may.
pub record ByEvent (P : Event → View → Type 0) (v : View) : Type 0 where
  pub same : (e : Event) → P e v
  pub asks : (e : Event) (alive : KeepAlive) → P e (record v { alive = alive })
  pub silent : (now : Moment) → P (Ticks now) (after_silence v now)
  pub heard : (s : Segment) (now : Moment) → is_closed v.state ≡ false → P (Hears s now) (timed_by (before v s) (after_heard v s) now)
  pub over : (now : Moment) → is_at_end v now ≡ true → P (Ticks now) (after_stop v)
  pub given_up : (now : Moment) → is_at_end v now ≡ false → gives_up v now ≡ true → P (Ticks now) (after_reset v (Some ETIMEDOUT))
  pub acts : (now : Moment) → P (Ticks now) (clocked false (after_timers (after_silence v now) now) now)
  pub emits : (now : Moment) → P (Emits now) (after_first v (first_due v) now)
  pub sends : (octets taken : List ℕ) (now : Moment) → is_write_closed v.state ≡ false → P (Sends octets now) (clocked false (holding v taken) now)
  pub reads : (len : ℕ) → P (Receives len) (record v { receiving = after_read v.receiving (recv_count v len) })
  pub shuts : (now : Moment) → P (Shuts now) (after_shutdown v now)
  pub delays : (on : Bool) (now : Moment) → P (SetsNoDelay on now) (after_set_nodelay v on now)
  pub leaves : (now : Moment) → is_closed v.state ≡ false → P (Closes now) (after_release v now)
  pub aborts : (e : Event) (now : Moment) → moment_of e ≡ Some now → is_cause v e ≡ true → is_closed v.state ≡ false → P e (aborted_at v now)
  pub refused : (number : ℕ) → is_unreachable v number ≡ true → P (Unreachable number) (after_reset v (Some ECONNREFUSED))
  pub hopless : (now : Moment) → has_come (unheard_until v) now ≡ true → P (LosesHop now) (after_reset v (Some ETIMEDOUT))

pub by_event : (P : Event → View → Type 0) (v : View) → ByEvent P v → (e : Event) → P e (after_event v e)
by_event P v cases (Hears s now) =
    let e = Hears s now in
    either View (P e) (is_closed v.state || is_rejected v s) v _ (λ unheard. cases.same e) (λ hears. cases.heard s now (neither (is_closed v.state) (is_rejected v s) hears).0)
by_event P v cases (Ticks now) =
    let e = Ticks now in
    either View (P e) (is_at_end v now) (after_stop v) _ (cases.over now)
    (λ waits. either View (P e) (gives_up v now) (after_reset v (Some ETIMEDOUT)) _ (cases.given_up now waits)
    (λ goes_on. let quiet = after_silence v now in either View (P e) (has_come (next_of v.timers) now) (clocked false (after_timers quiet now) now) quiet (λ comes. cases.acts now) (λ early. cases.silent now)))
by_event P v cases (Emits now) = cases.emits now
by_event P v cases (Sends octets now) =
    let e = Sends octets now in
    let taken = take (send_count v octets) octets in
    either View (P e) (is_some v.pending_error || is_opening v.state || is_write_closed v.state) v (with_octets v taken now) (λ refused. cases.same e)
    (λ takes. either View (P e) (length taken == 0) v _ (λ none. cases.same e) (λ some. cases.sends octets taken now (neither (is_some v.pending_error || is_opening v.state) (is_write_closed v.state) takes).1))
by_event P v cases (Receives len) =
    let e = Receives len in
    either View (P e) (is_some v.pending_error || is_opening v.state || (length v.receiving.readable == 0)) v _ (λ nothing. cases.same e) (λ some. cases.reads len)
by_event P v cases (Shuts now) = let e = Shuts now in either View (P e) (is_some (shutdown_refusal v)) v (after_shutdown v now) (λ refused. cases.same e) (λ shuts. cases.shuts now)
by_event P v cases (SetsNoDelay on now) = cases.delays on now
by_event P v cases (SetsKeepAlive every now) = cases.asks (SetsKeepAlive every now) (asked every now)
by_event P v cases (Closes now) =
    let e = Closes now in
    either View (P e) (is_removed_by_close v) v _ (λ removed. cases.same e)
    (λ stays. let lives = (neither (is_closed v.state) (is_syn_sent v.state) stays).0 in
    either View (P e) (is_aborted_by_close v) (aborted_at v now) (after_release v now)
    (λ aborts. cases.aborts e now refl (or_right (is_removed_by_close v) (is_aborted_by_close v) aborts) lives) (λ leaves. cases.leaves now lives))
by_event P v cases (Aborts now) = let e = Aborts now in either View (P e) (is_closed v.state) v (aborted_at v now) (λ closed. cases.same e) (cases.aborts e now refl refl)
by_event P v cases (Unreachable number) =
    let e = Unreachable number in either View (P e) (is_unreachable v number) (after_reset v (Some ECONNREFUSED)) v (cases.refused number) (λ other. cases.same e)
by_event P v cases (LosesHop now) =
    let e = LosesHop now in either View (P e) (has_come (unheard_until v) now) (after_reset v (Some ETIMEDOUT)) v (cases.hopless now) (λ waits. cases.same e)
