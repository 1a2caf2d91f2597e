-- What a caller's octets, its reading and its closing make of a connection (RFC 9293 sections 3.10.2 to 3.10.5, POSIX send, recv and close).
use Rattle.std.specs.Prelude.{ℕ, ◌==◌, ◌&&◌, ◌||◌, not, Bool, true, false, min, max, if◌then◌else◌, List, ◌++◌, length, take, Option, Some, None, is_some, Result, Ok, Err}
use Rattle.std.specs.Option.{option_or}
use Rattle.tcp_state.specs.declared.state.State.{State}
use Rattle.tcp_state.specs.declared.state.State.TheVariants.{Established, FinWait1, CloseWait, LastAck}
use Rattle.tcp_state.specs.declared.calls.Refusal.{Refusal}
use Rattle.tcp_state.specs.declared.calls.Refusal.TheVariants.{EAGAIN, ENOTCONN, EPIPE}
use Rattle.tcp_state.specs.declared.calls.Received.{Received}
use Rattle.tcp_state.specs.declared.calls.Received.TheVariants.{Octets, EndOfStream}
use Rattle.clock.specs.declared.moment.Moment.{Moment}
use Rattle.tcp_state.specs.declared.connection.Fate.{Fate}
use Rattle.tcp_state.specs.declared.connection.Fate.TheVariants.{Stays, Removed}
use Rattle.tcp_halves.specs.Stream.{send_room, after_read}
use Rattle.tcp_state.specs.Timing.{awaits_more, clocked}
use Rattle.tcp_state.specs.View.{View, is_opening, is_syn_sent, is_syn_received, is_write_closed, is_read_closed, is_closed, is_fin_wait_2, after_stop}

-- how many octets a send takes: all, or as many as there is room for
abbrev pub send_count : View → List ℕ → ℕ
send_count v octets = min (length octets) (send_room v.sending)

-- a call while an error may be pending: it is refused with it, or it is what it is without one
abbrev pub unless_pending : {T : Type 0} → Option Refusal → Result T Refusal → Result T Refusal
unless_pending None answer = answer
unless_pending (Some error) answer = Err error

abbrev pub send_answer : View → List ℕ → Result ℕ Refusal
send_answer v octets =
    unless_pending v.pending_error (
    if is_opening v.state then Err EAGAIN
    else if is_write_closed v.state then Err EPIPE
    else if (send_room v.sending == 0) && not (length octets == 0) then Err EAGAIN
    else Ok (send_count v octets)
    )

-- octets that are taken stand behind those that are held, and the clock may begin for them; none change nothing
abbrev pub with_octets : View → List ℕ → Moment → View
with_octets v octets now =
    if length octets == 0 then v
    else clocked false (record v { sending = record v.sending { held = v.sending.held ++ octets } }) now

abbrev pub after_send : View → List ℕ → Moment → View
after_send v octets now =
    if is_some v.pending_error || is_opening v.state || is_write_closed v.state then v
    else with_octets v (take (send_count v octets) octets) now

-- how many octets a receive into a buffer of this length moves
abbrev pub recv_count : View → ℕ → ℕ
recv_count v len = min len (length v.receiving.readable)

abbrev pub recv_answer : View → ℕ → Result Received Refusal
recv_answer v len =
    unless_pending v.pending_error (
    if is_opening v.state then Err EAGAIN
    else if not (length v.receiving.readable == 0) then Ok (Octets (recv_count v len))
    else if is_read_closed v.state then Ok EndOfStream
    else Err EAGAIN
    )

-- octets that were read make room; whether the peer is told is a matter of what is due
abbrev pub after_recv : View → ℕ → View
after_recv v len =
    if is_some v.pending_error || is_opening v.state || (length v.receiving.readable == 0) then v
    else record v { receiving = after_read v.receiving (recv_count v len) }

-- Small segments wait for what is outstanding from now on, or don't (RFC 9293 section 3.7.4, RFC 1122 section 4.2.3.4): the timer of the override runs on only where new octets still wait ..
abbrev pub told_nodelay : View → Bool → View
told_nodelay v on =
    let w = record v { nodelay = on } in
    record w { timers = record w.timers { overriding = if awaits_more w then w.timers.overriding else None } }

-- .. and begins where they do from now on
abbrev pub after_set_nodelay : View → Bool → Moment → View
after_set_nodelay v on now = clocked false (told_nodelay v on) now

-- closing our side: there is nothing to close while the connection opens
abbrev pub shutdown_refusal : View → Option Refusal
shutdown_refusal v = option_or v.pending_error (if is_opening v.state then Some ENOTCONN else None)

-- the state once our side is closed (section 3.10.4); closed again, it stays
abbrev pub beyond_shutdown : State → State
beyond_shutdown Established = FinWait1
beyond_shutdown CloseWait = LastAck
beyond_shutdown state = state

abbrev pub after_shutdown : View → Moment → View
after_shutdown v now = clocked false (record v { state = beyond_shutdown v.state }) now

-- An abort (section 3.10.5): the peer is owed a reset, and nobody else anything; own in CLOSING, LAST-ACK and TIME-WAIT, where the
-- section sends none.
abbrev pub aborted : View → View
aborted v = record (after_stop v) { released = true; owes_reset = true }

-- which waits from this moment on
abbrev pub aborted_at : View → Moment → View
aborted_at v now = record (aborted v) { since = now }

abbrev pub after_abort : View → Moment → View
after_abort v now = if is_closed v.state then v else aborted_at v now

-- what is CLOSED already is taken out at once
abbrev pub abort_fate : View → Fate
abort_fate v = if is_closed v.state then Removed else Stays

-- the later of two moments
abbrev pub latest : Moment → Moment → Moment
latest a b = record { 0 = max a.0 b.0 }

-- its caller leaves it, and our side closes: it goes on until it ends by itself; in FIN-WAIT-2 its wait begins, with the call or with
-- the state, whichever is later
abbrev pub after_release : View → Moment → View
after_release v now = clocked false (record v {
  state = beyond_shutdown v.state;
  released = true;
  since = if is_fin_wait_2 v.state then latest v.since now else v.since;
}) now

-- Closing (section 3.10.4) takes out at once what is CLOSED, or waits for the answer to its SYN ..
abbrev pub is_removed_by_close : View → Bool
is_removed_by_close v = is_closed v.state || is_syn_sent v.state

-- .. and aborts what opens for a peer, or has octets that its caller will not read (section 3.6.1)
abbrev pub is_aborted_by_close : View → Bool
is_aborted_by_close v = is_syn_received v.state || not (length v.receiving.readable == 0)

abbrev pub after_close : View → Moment → View
after_close v now =
    if is_removed_by_close v then v
    else if is_aborted_by_close v then aborted_at v now
    else after_release v now

abbrev pub close_fate : View → Fate
close_fate v = if is_removed_by_close v then Removed else Stays
