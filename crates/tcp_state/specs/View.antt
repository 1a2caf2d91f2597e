-- A connection as its callers see it (RFC 9293 section 3.3).
use Rattle.std.specs.Prelude.{◌≡◌, ℕ, ◌+◌, ◌*◌, ◌≤◌, ◌^◌, ◌==◌, ◌&&◌, ◌||◌, ◌<◌, not, Bool, true, false, if◌then◌else◌, [], length, Option, Some, None, is_some}
use Rattle.ipv4.specs.declared.addr.Endpoint.{Endpoint}
use Rattle.tcp_segment.specs.declared.TheConstants.{MSS, DEFAULT_MSS, LEAST_MSS, MAX_SHIFT}
use Rattle.tcp_halves.specs.declared.buffers.TheConstants.{CAPACITY, LARGEST_CAPACITY}
use Rattle.tcp_state.specs.declared.state.State.{State}
use Rattle.tcp_state.specs.declared.state.State.TheVariants.{Closed, Listen, SynSent, SynReceived, FinWait1, FinWait2, CloseWait, Closing, LastAck, TimeWait}
use Rattle.tcp_state.specs.declared.ending.TheConstants.{TIME_WAIT, FIN_WAIT_2}
use Rattle.clock.specs.declared.moment.Moment.{Moment}
use Rattle.tcp_state.specs.declared.alive.KeepAlive.{KeepAlive}
use Rattle.tcp_state.specs.declared.reporting.Reporting.{Reporting}
use Rattle.tcp_state.specs.declared.guard.Guard.{Guard}
use Rattle.tcp_state.specs.Guard.{first_guard}
use Rattle.clock.specs.Moments.{after, has_come}
use Rattle.tcp_state.specs.declared.calls.Refusal.{Refusal}
use Rattle.retransmit.specs.declared.timers.Timers.{Timers}
use Rattle.congestion.specs.declared.control.Control.{Control}
use Rattle.congestion.specs.Control.{is_selective}
use Rattle.congestion.specs.Window.{Window, initial_window}
use Rattle.retransmit.specs.Deadlines.{no_timers}
use Rattle.tcp_state.specs.Resend.{Resend, IsSoundResend, first_resend, stopped}
use Rattle.std.specs.Option.{ForSome}
use Rattle.tcp_halves.specs.Halves.{Room, Sending, Receiving}
use Rattle.stream_buf.specs.Receiving.{IsReceiving}
use Rattle.tcp_halves.specs.Stream.{size_in, own_unit, size_of, outstanding, sending_from, receiving_nothing, receive_window, buffer_of, ReceivingFits, KeptInWindow}

pub record View : Type 0 where
  pub local : Endpoint
  pub peer : Endpoint
  pub state : State
  -- a listener opened it, and not its caller
  pub passive : Bool
  -- windows are scaled (RFC 7323 section 2): in SYN-SENT our SYN offers that, and from the peer's SYN on both sides do it
  pub scales : Bool
  pub sending : Sending
  pub receiving : Receiving
  -- an acknowledgement is owed
  pub owes_ack : Bool
  -- octets came since the last acknowledgement went out, and theirs may wait
  pub delays_ack : Bool
  -- a segment with ACK and without SYN went out
  pub spoke : Bool
  -- what goes out again, and what is measured
  pub resend : Resend
  -- the deadlines of its timers
  pub timers : Timers
  -- the congestion window: how much the network takes
  pub congestion : Window
  -- the error that every call reports from now on
  pub pending_error : Option Refusal
  -- its caller closed it: no socket names it any more
  pub released : Bool
  -- it was aborted, and its reset has not gone out
  pub owes_reset : Bool
  -- the moment from which its wait in TIME-WAIT, or in FIN-WAIT-2 where it is released, or that of the reset that it owes, is counted
  pub since : Moment
  -- since when a segment that takes numbers (the SYN, octets, the FIN, a probe) has been due while nothing is outstanding
  pub unheard : Option Moment
  -- small segments don't wait for what is outstanding
  pub nodelay : Bool
  -- they wait for small ones only, and the FIN goes with the last octets (Minshall, RFC 9293 appendix A.3)
  pub minshall : Bool
  -- what is known of a peer that says nothing
  pub alive : KeepAlive
  -- what is reported of octets that are kept ahead of a gap (RFC 2018)
  pub reporting : Reporting
  -- what guards it against segments that aren't used
  pub guard : Guard

-- SYN-SENT or SYN-RECEIVED
abbrev pub is_opening : State → Bool
is_opening SynSent = true
is_opening SynReceived = true
is_opening _ = false

abbrev pub is_syn_sent : State → Bool
is_syn_sent SynSent = true
is_syn_sent _ = false

abbrev pub is_syn_received : State → Bool
is_syn_received SynReceived = true
is_syn_received _ = false

-- our side is closed, and our FIN is not acknowledged
abbrev pub awaits_fin_ack : State → Bool
awaits_fin_ack FinWait1 = true
awaits_fin_ack Closing = true
awaits_fin_ack LastAck = true
awaits_fin_ack _ = false

-- our side is closed, and nothing of ours waits to be acknowledged: our FIN is, or the connection is CLOSED
abbrev pub is_write_finished : State → Bool
is_write_finished FinWait2 = true
is_write_finished TimeWait = true
is_write_finished Closed = true
is_write_finished _ = false

-- our side is closed: octets are taken no longer, and a FIN follows those that are held
abbrev pub is_write_closed : State → Bool
is_write_closed state = awaits_fin_ack state || is_write_finished state

-- nothing more comes from the peer: its FIN has come, behind all its octets, or the connection is CLOSED
abbrev pub is_read_closed : State → Bool
is_read_closed CloseWait = true
is_read_closed Closing = true
is_read_closed LastAck = true
is_read_closed TimeWait = true
is_read_closed Closed = true
is_read_closed _ = false

abbrev pub is_closed : State → Bool
is_closed Closed = true
is_closed _ = false

abbrev pub is_fin_wait_2 : State → Bool
is_fin_wait_2 FinWait2 = true
is_fin_wait_2 _ = false

abbrev pub is_time_wait : State → Bool
is_time_wait TimeWait = true
is_time_wait _ = false

abbrev pub is_listening : State → Bool
is_listening Listen = true
is_listening _ = false

-- The end of a wait.

-- when a wait that began at a moment ends: TIME-WAIT lasts twice the two minutes that a segment may live (section 3.4.2), FIN-WAIT-2
-- a minute where no caller is left to read
abbrev pub end_of_wait : State → Bool → Moment → Option Moment
end_of_wait TimeWait released since = Some (after since TIME_WAIT)
end_of_wait FinWait2 true since = Some (after since FIN_WAIT_2)
end_of_wait FinWait2 false since = None
end_of_wait _ released since = None

abbrev pub ends_at : View → Option Moment
ends_at v = end_of_wait v.state v.released v.since

abbrev pub is_at_end : View → Moment → Bool
is_at_end v now = has_come (ends_at v) now

-- the connection is CLOSED: nothing is held, owed or due, no number is outstanding, and no timer runs
abbrev pub after_stop : View → View
after_stop v = record v {
  state = Closed;
  sending = record v.sending { held = []; una = v.sending.nxt };
  owes_ack = false;
  delays_ack = false;
  resend = stopped v.resend;
  timers = no_timers;
  unheard = None;
}

-- An error ends the connection: every call reports it from now on.
abbrev pub after_reset : View → Option Refusal → View
after_reset v error = record (after_stop v) { pending_error = error }

-- closed by its caller and CLOSED, and no reset is owed: nothing is left of it
abbrev pub is_over : View → Bool
is_over v = is_closed v.state && v.released && not v.owes_reset

-- since when the reset of an abort waits to go out
abbrev pub reset_since : View → Option Moment
reset_since v = if v.owes_reset then Some v.since else None

-- the congestion window until our SYN is acknowledged, and its own begins
abbrev pub first_congestion : Control → Window
first_congestion control = initial_window control DEFAULT_MSS false

-- until the peer's SYN comes, by the set-up: where that wants selective acknowledgements, our SYN says that we take them (RFC 2018 section 2)
abbrev pub offered : Control → Reporting
offered control = record { sacks = is_selective control; latest = record { 0 = 0 } }

-- a connection that its caller opens at this moment (RFC 9293 section 3.10.1), in buffers that were made for this
abbrev pub opened_actively : Room → Endpoint → Endpoint → ℕ → Moment → View
opened_actively room local peer isn now = record {
  local = local;
  peer = peer;
  state = SynSent;
  passive = false;
  scales = room.manner.scales;
  sending = sending_from (size_of room) isn;
  receiving = receiving_nothing room;
  owes_ack = false;
  delays_ack = false;
  spoke = false;
  resend = first_resend room.manner.least_timeout;
  timers = no_timers;
  congestion = first_congestion room.manner.control;
  pending_error = None;
  released = false;
  owes_reset = false;
  since = record { 0 = 0 };
  unheard = Some now;
  nodelay = false;
  minshall = room.manner.minshall;
  alive = record { every = None; since = record { 0 = 0 }; wait = 0; unanswered = 0; owed = false };
  reporting = offered room.manner.control;
  guard = first_guard room.manner.guards;
}

-- a SYN, or the FIN of a closed side behind all octets, may be outstanding
abbrev pub takes_flag_number : State → Bool
takes_flag_number state = is_opening state || awaits_fin_ack state

-- how many numbers may be outstanding: those of the octets that are held, and that of the SYN before them or of the FIN behind them
abbrev pub most_outstanding : View → ℕ
most_outstanding v = length v.sending.held + (if takes_flag_number v.state then 1 else 0)

-- How many octets the two halves hold at most, and the units of the windows, where windows are scaled or not (RFC 7323 sections 2.2 and 2.3). Both halves hold the same number: of the places that were made for
-- what comes all where windows are scaled, else no more than 16 bits can tell of; room for a segment, so that a window is told, and no more than can be told in our units. A unit is an octet at least; one of ours is a segment at most, and one
-- of the peer's as much as the option can say. Where windows aren't scaled, the peer's is an octet.
pub record AreTerms (scales : Bool) (sent peer size made unit : ℕ) : Type 0 where
  pub send_size : sent ≤ LARGEST_CAPACITY
  pub receive_least : MSS ≤ size
  pub receive_size : size ≤ CAPACITY * unit
  pub places : size ≤ made
  pub capacity : made ≤ LARGEST_CAPACITY
  pub unit_some : 0 < unit
  pub unit_few : unit ≤ MSS
  pub peer_unit_some : 0 < peer
  pub peer_unit_few : peer ≤ 2 ^ MAX_SHIFT
  pub settled_size : size ≡ size_in scales made
  pub same_size : sent ≡ size
  pub settled_unit : unit ≡ own_unit scales
  pub settled_peer_unit : scales ≡ false → peer ≡ 1

-- What holds of every connection. While it opens, nothing is held or readable, and before the peer's SYN came no window is advertised and a unit of the peer's is an octet; nothing is held once our FIN is acknowledged or all is closed. What is
-- outstanding is of what is held, with the SYN or the FIN; the resend mark stands within it, and the ends of the last small segment, of a recovery and of a probe of the tail; what only a probe of a closed window took is all of it, and past the opening. A segment may
-- have `LEAST_MSS` octets at least, so that what is held can always go out. An acknowledgement is owed once a SYN came, and none when all is closed.
-- An error is pending, and a reset owed, only where all is closed; what its caller closed is closed on our side.
pub record IsSound (v : View) : Type 0 where
  pub una : v.sending.una < 2 ^ 32
  pub nxt : v.sending.nxt < 2 ^ 32
  pub rnext : v.receiving.rnext < 2 ^ 32
  pub held : length v.sending.held ≤ (if is_opening v.state || is_write_finished v.state then 0 else v.sending.size)
  pub readable : length v.receiving.readable ≤ (if is_opening v.state then 0 else v.receiving.size)
  pub window : ReceivingFits v.receiving
  pub untold : (is_syn_sent v.state && not (receive_window v.receiving == 0)) ≡ false
  pub unsettled : (is_syn_sent v.state && not (v.sending.unit == 1)) ≡ false
  pub buffer : IsReceiving (buffer_of v.receiving)
  pub kept : KeptInWindow v.receiving
  pub flight : outstanding v.sending ≤ most_outstanding v
  pub mark : ForSome v.resend.mark (λ distance. distance < outstanding v.sending)
  pub small : v.resend.small ≤ outstanding v.sending
  pub probed : (v.sending.probed && not (is_closed v.state) && (is_opening v.state || not (outstanding v.sending == 1))) ≡ false
  pub recover : v.resend.recover ≤ outstanding v.sending
  pub tail : v.resend.tail ≤ outstanding v.sending
  pub resend : IsSoundResend v.resend
  pub connection : is_listening v.state ≡ false
  pub segment : v.sending.smss ≤ MSS
  pub segment_least : LEAST_MSS ≤ v.sending.smss
  pub ack : ((is_syn_sent v.state || is_closed v.state) && (v.owes_ack || v.delays_ack)) ≡ false
  pub error : (is_some v.pending_error && not (is_closed v.state)) ≡ false
  pub reset : (v.owes_reset && not (is_closed v.state && v.released)) ≡ false
  pub release : (v.released && not (is_write_closed v.state)) ≡ false
  pub terms : AreTerms v.scales v.sending.size v.sending.unit v.receiving.size v.receiving.capacity v.receiving.unit
