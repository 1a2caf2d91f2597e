-- Which states one event of a connection may join, what ends a connection, and what raises an error (RFC 9293 sections 3.3.2 and 3.10).
use Rattle.std.specs.Prelude.{◌≡◌, ℕ, ◌&&◌, ◌||◌, not, Bool, true, false, if◌then◌else◌, ◌⊎◌, List, Option, Some, None, is_some}
use Rattle.tcp_segment.specs.Segment.{Segment}
use Rattle.clock.specs.declared.moment.Moment.{Moment}
use Rattle.clock.specs.Moments.{has_come}
use Rattle.congestion.specs.Events.Event.{Expiry}
use Rattle.tcp_state.specs.Congestion.{Signal}
use Rattle.tcp_state.specs.Congestion.Signal.{Counts, Nothing}
use Rattle.tcp_state.specs.declared.emission.Due.{Due}
use Rattle.tcp_state.specs.declared.connection.Fate.{Fate}
use Rattle.tcp_state.specs.declared.connection.Fate.TheVariants.{Stays, Removed, Rejected}
use Rattle.tcp_state.specs.declared.state.State.{State}
use Rattle.tcp_state.specs.declared.state.State.TheVariants.{Closed, Listen, SynSent, SynReceived, Established, FinWait1, FinWait2, CloseWait, Closing, LastAck, TimeWait}
use Rattle.tcp_state.specs.declared.calls.Refusal.{Refusal}
use Rattle.tcp_state.specs.declared.calls.Refusal.TheVariants.{ECONNREFUSED, ECONNRESET, ETIMEDOUT}
use Rattle.tcp_halves.specs.Stream.{outstanding, is_new_ack}
use Rattle.tcp_state.specs.View.{View, is_syn_sent, is_syn_received, is_closed, is_at_end, is_over}
use Rattle.tcp_state.specs.Timing.{gives_up, after_tick, tick_fate}
use Rattle.tcp_state.specs.Alive.{after_set_keepalive}
use Rattle.tcp_state.specs.Hop.{unheard_until, after_hopless, hopless_fate}
use Rattle.tcp_state.specs.Calls.{after_send, after_recv, shutdown_refusal, after_shutdown, after_set_nodelay, after_abort, abort_fate, is_removed_by_close, is_aborted_by_close, after_close, close_fate}
use Rattle.tcp_state.specs.Arrival.{reset_error, is_acting_reset, ends_by_reset, ends_by_syn, is_of_fin, is_lost, is_read, is_rejected, before, after_heard, congestion_event_of, after_segment_at, fate, tells_needless}
use Rattle.tcp_state.specs.Resend.{gives_back}
use Rattle.tcp_state.specs.Due.{first_due, after_emitted}
use Rattle.tcp_state.specs.Unreachable.{is_unreachable, after_unreachable, unreachable_fate}

-- the edges of the diagram of states (figure 5) but those of a listener that sends and of a close in SYN-RECEIVED, which is aborted here;
-- with them those of a reset and an abort, and those that one segment takes at once
abbrev pub may_join : State → State → Bool
may_join Closed Listen = true
may_join Closed SynSent = true
may_join Listen SynReceived = true
may_join Listen Closed = true
may_join SynSent SynReceived = true
may_join SynSent Established = true
may_join SynSent Closed = true
may_join SynReceived Established = true
may_join SynReceived CloseWait = true
may_join SynReceived Listen = true
may_join SynReceived Closed = true
may_join Established FinWait1 = true
may_join Established CloseWait = true
may_join Established Closed = true
may_join FinWait1 FinWait2 = true
may_join FinWait1 Closing = true
may_join FinWait1 TimeWait = true
may_join FinWait1 Closed = true
may_join FinWait2 TimeWait = true
may_join FinWait2 Closed = true
may_join CloseWait LastAck = true
may_join CloseWait Closed = true
may_join Closing TimeWait = true
may_join Closing Closed = true
may_join LastAck Closed = true
may_join TimeWait Closed = true
may_join _ _ = false

abbrev pub IsEdge : State → State → Type 0
IsEdge before after = (before ≡ after) ⊎ (may_join before after ≡ true)

-- what may happen to a connection: a segment comes, the clock moves, what is due first goes out, its caller calls, an error tells that the segment of a
-- number can't be delivered, or the clock moves while the hop to its peer is not known
pub data Event : Type 0 where
  Hears : Segment → Moment → Event
  Ticks : Moment → Event
  Emits : Moment → Event
  Sends : List ℕ → Moment → Event
  Receives : ℕ → Event
  Shuts : Moment → Event
  SetsNoDelay : Bool → Moment → Event
  SetsKeepAlive : Option ℕ → Moment → Event
  Closes : Moment → Event
  Aborts : Moment → Event
  Unreachable : ℕ → Event
  LosesHop : Moment → Event

-- when it happens, where it has a moment
abbrev pub moment_of : Event → Option Moment
moment_of (Hears s now) = Some now
moment_of (Ticks now) = Some now
moment_of (Emits now) = Some now
moment_of (Sends octets now) = Some now
moment_of (Shuts now) = Some now
moment_of (SetsNoDelay on now) = Some now
moment_of (SetsKeepAlive every now) = Some now
moment_of (Closes now) = Some now
moment_of (Aborts now) = Some now
moment_of (LosesHop now) = Some now
moment_of _ = None

-- what is due goes out, if anything is
abbrev pub after_first : View → Option Due → Moment → View
after_first v None now = v
after_first v (Some due) now = after_emitted v due now

-- the connection after an event
abbrev pub after_event : View → Event → View
after_event v (Hears s now) = after_segment_at v s now
after_event v (Ticks now) = after_tick v now
after_event v (Emits now) = after_first v (first_due v) now
after_event v (Sends octets now) = after_send v octets now
after_event v (Receives len) = after_recv v len
after_event v (Shuts now) = if is_some (shutdown_refusal v) then v else after_shutdown v now
after_event v (SetsNoDelay on now) = after_set_nodelay v on now
after_event v (SetsKeepAlive every now) = after_set_keepalive v every now
after_event v (Closes now) = after_close v now
after_event v (Aborts now) = after_abort v now
after_event v (Unreachable number) = after_unreachable v number
after_event v (LosesHop now) = after_hopless v now

-- what a tick is to the congestion window: an event where the retransmission timer expires
abbrev pub congestion_event_at : View → Moment → Signal
congestion_event_at v now =
    if is_at_end v now || gives_up v now then Nothing
    else if has_come v.timers.retransmission now then Counts (Expiry (outstanding v.sending))
    else Nothing

-- what an event is to it
abbrev pub congestion_event_by : View → Event → Signal
congestion_event_by v (Hears s now) = if is_closed v.state || is_rejected v s then Nothing else congestion_event_of (before v s) (after_heard v s)
congestion_event_by v (Ticks now) = congestion_event_at v now
congestion_event_by v _ = Nothing

-- whether it gives back what a loss took from the window, by what it leaves
abbrev pub gives_back_by : View → Event → View → Bool
gives_back_by v (Hears s now) w = not (is_closed v.state || is_rejected v s) && gives_back (tells_needless v s) w.resend
gives_back_by v _ w = false

-- what becomes of its place; it is taken out after an emission where it is over
abbrev pub fate_by : View → Event → Fate
fate_by v (Hears s now) = fate v s
fate_by v (Ticks now) = tick_fate v now
fate_by v (Emits now) = if is_over (after_first v (first_due v) now) then Removed else Stays
fate_by v (Sends octets now) = Stays
fate_by v (Receives len) = Stays
fate_by v (Shuts now) = Stays
fate_by v (SetsNoDelay on now) = Stays
fate_by v (SetsKeepAlive every now) = Stays
fate_by v (Closes now) = close_fate v
fate_by v (Aborts now) = abort_fate v
fate_by v (Unreachable number) = unreachable_fate v number
fate_by v (LosesHop now) = hopless_fate v now

abbrev pub is_removed : Fate → Bool
is_removed Removed = true
is_removed Stays = false
is_removed Rejected = false

-- what is taken out is CLOSED, or back in LISTEN where its listener opened it and it was not established
abbrev pub left_by : View → State
left_by v = if v.passive && is_syn_received v.state then Listen else Closed

-- the state that an event leads to
abbrev pub state_after : View → Event → State
state_after v e = if is_removed (fate_by v e) then left_by v else (after_event v e).state

-- A reset acts: in SYN-SENT where it acknowledges our SYN, in any other state where it stands at RCV.NXT.
abbrev pub is_reset_by : View → Segment → Bool
is_reset_by v s = s.flags.rst && (if is_syn_sent v.state then s.flags.ack && is_new_ack v.sending s.acknowledgement else is_acting_reset v s)

abbrev pub is_last_ack : State → Bool
is_last_ack LastAck = true
is_last_ack _ = false

-- our FIN is acknowledged, in LAST-ACK
abbrev pub ends_by_ack : View → Segment → Bool
ends_by_ack v s = is_last_ack v.state && is_read v s && is_new_ack v.sending s.acknowledgement && is_of_fin v s.acknowledgement

-- What ends a connection: a `close` that takes it out or aborts it, and an abort; a reset that acts, a SYN before it is established,
-- octets after its caller closed it, or the acknowledgement of our FIN in LAST-ACK; the clock at the end of its wait, or at the thirteenth expiry without progress or silence without an answer; the going out of
-- the reset of an abort; an error that tells that its SYN can't be delivered; and the clock, where what takes numbers waited for a hop as long as it may.
abbrev pub is_cause : View → Event → Bool
is_cause v (Closes now) = is_removed_by_close v || is_aborted_by_close v
is_cause v (Aborts now) = true
is_cause v (Hears s now) = is_reset_by v s || (not s.flags.rst && ends_by_syn v s) || is_lost v s || ends_by_ack v s
is_cause v (Ticks now) = is_at_end v now || gives_up v now
is_cause v (Emits now) = v.owes_reset
is_cause v (Sends octets now) = false
is_cause v (Receives len) = false
is_cause v (Shuts now) = false
is_cause v (SetsNoDelay on now) = false
is_cause v (SetsKeepAlive every now) = false
is_cause v (Unreachable number) = is_unreachable v number
is_cause v (LosesHop now) = has_come (unheard_until v) now

-- it is taken out, or becomes CLOSED
abbrev pub ends_by : View → Event → Bool
ends_by v e = is_removed (fate_by v e) || (not (is_closed v.state) && is_closed (after_event v e).state)

-- a reset tells this error
abbrev pub is_told : Option Refusal → Refusal → Bool
is_told (Some ECONNREFUSED) ECONNREFUSED = true
is_told (Some ECONNRESET) ECONNRESET = true
is_told _ _ = false

-- the error that a reset raises in a state, or in SYN-SENT an error about the SYN
abbrev pub is_error_of : State → Refusal → Bool
is_error_of state error = is_told (reset_error state) error

-- .. or the clock in any
abbrev pub is_timeout : Refusal → Bool
is_timeout ETIMEDOUT = true
is_timeout _ = false

-- an event raises this error: a reset that acts and leaves the connection its place, or an error about its SYN, in a state that has it; or the last expiry,
-- or the end of the wait for a hop
abbrev pub may_raise : View → Event → Refusal → Bool
may_raise v (Hears s now) error = is_reset_by v s && not (ends_by_reset v s) && is_error_of v.state error
may_raise v (Ticks now) error = not (is_at_end v now) && gives_up v now && is_timeout error
may_raise v (Emits now) error = false
may_raise v (Sends octets now) error = false
may_raise v (Receives len) error = false
may_raise v (Shuts now) error = false
may_raise v (SetsNoDelay on now) error = false
may_raise v (SetsKeepAlive every now) error = false
may_raise v (Closes now) error = false
may_raise v (Aborts now) error = false
may_raise v (Unreachable number) error = is_unreachable v number && is_error_of v.state error
may_raise v (LosesHop now) error = has_come (unheard_until v) now && is_timeout error
