-- The clock is no part of a stream.
use Rattle.std.proofs.Common.{Bool, true, false, if◌then◌else◌, refl}
use Rattle.clock.specs.declared.moment.Moment.{Moment}
use Rattle.clock.specs.Moments.{has_come}
use Rattle.tcp_segment.specs.Segment.{Segment}
use Rattle.tcp_state.specs.View.{View}
use Rattle.tcp_state.specs.Timing.{clocked, retransmission_expired, probe_expired, after_expiry, delayed_ack_expired, override_expired, after_timers}
use Rattle.tcp_state.specs.Alive.{after_silence}
use Rattle.tcp_state.specs.Arrival.{before, timed_by}
use Rattle.stream_law.specs.ChannelViews.{SameStream}
use Rattle.stream_law.proofs.ConnectionArrival.{either}

pub same-view : (v : View) → SameStream v v
same-view v = record { state = refl; held = refl; una = refl; nxt = refl; readable = refl; kept = refl; rnext = refl; pending_error = refl; released = λ e. e }

pub same-clocked : (v w : View) (moved : Bool) (now : Moment) → SameStream v w → SameStream v (clocked moved w now)
same-clocked v w moved now h = record { state = h.state; held = h.held; una = h.una; nxt = h.nxt; readable = h.readable; kept = h.kept; rnext = h.rnext; pending_error = h.pending_error; released = h.released }

pub same-timed : (v w : View) (s : Segment) (now : Moment) → SameStream w (timed_by (before v s) w now)
same-timed v w s now = record { state = refl; held = refl; una = refl; nxt = refl; readable = refl; kept = refl; rnext = refl; pending_error = refl; released = λ e. e }

-- none of the timers changes a stream
pub same-timers : (v : View) (now : Moment) → SameStream v (after_timers v now)
same-timers v now =
    let expiry = either (SameStream v) (has_come v.timers.retransmission now) (retransmission_expired v) _
    (λ expires. record { state = refl; held = refl; una = refl; nxt = refl; readable = refl; kept = refl; rnext = refl; pending_error = refl; released = λ e. e })
    (λ none. either (SameStream v) (has_come v.timers.probe now) (probe_expired v now) v (λ probes. record { state = refl; held = refl; una = refl; nxt = refl; readable = refl; kept = refl; rnext = refl; pending_error = refl; released = λ e. e }) (λ none. same-view v)) in
    let waited = acks (after_expiry v now) expiry in
    overrides (delayed_ack_expired (after_expiry v now) now) waited
  where
    acks : (w : View) → SameStream v w → SameStream v (delayed_ack_expired w now)
    acks w h =
        either (SameStream v) (has_come w.timers.delayed_ack now) _ w
        (λ comes. record { state = h.state; held = h.held; una = h.una; nxt = h.nxt; readable = h.readable; kept = h.kept; rnext = h.rnext; pending_error = h.pending_error; released = h.released })
        (λ waits. h)

    overrides : (w : View) → SameStream v w → SameStream v (override_expired w now)
    overrides w h =
        either (SameStream v) (has_come w.timers.overriding now) _ w
        (λ comes. record { state = h.state; held = h.held; una = h.una; nxt = h.nxt; readable = h.readable; kept = h.kept; rnext = h.rnext; pending_error = h.pending_error; released = h.released })
        (λ waits. h)

-- nor does it matter whether a silent peer is asked
same-asked : (v w : View) (now : Moment) → SameStream (after_silence v now) w → SameStream v w
same-asked v w now h = record { state = h.state; held = h.held; una = h.una; nxt = h.nxt; readable = h.readable; kept = h.kept; rnext = h.rnext; pending_error = h.pending_error; released = h.released }

-- a tick changes no stream, whether the moment of a timer has come or not
pub same-acted : (v : View) (come : Bool) (now : Moment) → SameStream v (if come then clocked false (after_timers (after_silence v now) now) now else after_silence v now)
same-acted v true now = let asked = after_silence v now in same-asked v (clocked false (after_timers asked now) now) now (same-clocked asked (after_timers asked now) false now (same-timers asked now))
same-acted v false now = let asked = after_silence v now in same-asked v asked now (same-view asked)
