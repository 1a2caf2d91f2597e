-- The entries of the table: sockets, and connections that no socket names, not yet or no longer.
use Rattle.std.specs.List.{retain_mut, list_any}
use Rattle.std.specs.Prelude.{◌≡◌, ◌<◌, length, ℕ, Bool, true, false, ◌&&◌, ◌||◌, not, ◌==◌, [], if◌then◌else◌, List, ◌∷◌, ◌++◌, ◌+◌, drop, find, Option, Some, None, option_map, is_some, slice_get}
use Rattle.ipv4.specs.declared.addr.Addr.{Addr}
use Rattle.ipv4.specs.declared.addr.Endpoint.{Endpoint}
use Rattle.ipv4.specs.declared.addr.Pair.{Pair}
use Rattle.tcp_state.specs.declared.state.State.TheVariants.{Closed, Listen}
use Rattle.clock.specs.declared.moment.Moment.{Moment}
use Rattle.tcp_state.specs.View.{View, is_opening, is_closed, is_syn_sent, is_syn_received, is_over, opened_actively, reset_since}
use Rattle.tcp_state.specs.Timing.{after_tick, tick_fate, deadline}
use Rattle.tcp_segment.specs.Segment.{Segment}
use Rattle.tcp_state.specs.declared.connection.Fate.{Fate}
use Rattle.tcp_state.specs.declared.connection.Fate.TheVariants.{Stays, Removed, Rejected}
use Rattle.tcp_state.specs.Arrival.{after_segment_at, fate}
use Rattle.tcp_state.specs.Alive.{after_set_keepalive}
use Rattle.tcp_state.specs.Calls.{after_send, after_recv, after_shutdown, after_set_nodelay, after_abort, abort_fate}
use Rattle.tcp_state.specs.Unreachable.{after_unreachable, unreachable_fate}
use Rattle.tcp_state.specs.declared.emission.Due.{Due}
use Rattle.tcp_state.specs.Due.{first_due, emitted_len, segment_octets}
use Rattle.tcp_state.specs.Edges.{after_first}
use Rattle.tcp_state.specs.Edges as edge
use Rattle.tcp_halves.specs.declared.buffers.Buffers.{Buffers}
use Rattle.udp_socket.specs.SocketView.{with_sent, with_received, after_read, has_room_in, has_room_out}
use Rattle.udp_socket.specs.SocketView as datagrams
use Rattle.udp_socket.specs.Emission as datagrams_out
use Rattle.sockets.specs.declared.entry.SocketId.{SocketId}
use Rattle.sockets.specs.declared.entry.Entry.{Entry}
use Rattle.ipv4.specs.Addresses.{same_end}
use Rattle.sockets.specs.declared.role.Leave.{Leave}
use Rattle.sockets.specs.declared.role.Leave.TheVariants.{Close, Abort}
use Rattle.sockets.specs.declared.role.Role.{Role}
use Rattle.sockets.specs.declared.role.Role.TheVariants.{Idle, Listener, Connected, Datagrams}
use Rattle.sockets.specs.declared.state.SocketState.{SocketState}
use Rattle.sockets.specs.declared.state.SocketState.TheVariants.{Datagram, Stream}
use Rattle.sockets.specs.declared.emission.Emitted.{Emitted}
use Rattle.sockets.specs.declared.emission.Emitted.TheVariants as emitted
use Rattle.sockets.specs.declared.emission.Outgoing.{Outgoing}
use Rattle.sockets.specs.declared.emission.Outgoing.TheVariants as outgoing
use Rattle.sockets.specs.Lists.{change_first, remove_first}

-- what a connection makes of itself, and any other role stays
abbrev pub on_connection : (View → View) → Role → Role
on_connection change (Connected c listener) = Connected (change c) listener
on_connection change (Listener local backlog) = Listener local backlog
on_connection change (Idle buffers bound) = Idle buffers bound
on_connection change (Datagrams bound socket) = Datagrams bound socket

-- what `of` says of a connection, and `other` of any other role
abbrev pub in_connection : {T : Type 0} → T → (View → T) → Role → T
in_connection other of (Connected c listener) = of c
in_connection other of (Listener local backlog) = other
in_connection other of (Idle buffers bound) = other
in_connection other of (Datagrams bound socket) = other

-- what a UDP socket makes of itself, and any other role stays
abbrev pub on_datagrams : (Option Endpoint → Option Endpoint) → (datagrams.SocketView → datagrams.SocketView) → Role → Role
on_datagrams bind change (Datagrams bound socket) = Datagrams (bind bound) (change socket)
on_datagrams bind change (Connected c listener) = Connected c listener
on_datagrams bind change (Listener local backlog) = Listener local backlog
on_datagrams bind change (Idle buffers bound) = Idle buffers bound

-- Tests of a role.

-- a connection that nobody has accepted yet
abbrev pub is_pending : Role → Bool
is_pending (Connected connection (Some listener)) = true
is_pending (Connected connection None) = false
is_pending (Listener local backlog) = false
is_pending (Idle buffers bound) = false
is_pending (Datagrams bound socket) = false

-- a connection that its caller closed
abbrev pub is_left : Role → Bool
is_left role = in_connection false (λ c. c.released) role

-- a connection is no socket while it is not accepted, and once its caller closed it
abbrev pub has_socket : Role → Bool
has_socket role = not (is_pending role || is_left role)

-- a connection from a local to a foreign endpoint, in any state but CLOSED
abbrev pub is_live_between : Endpoint → Endpoint → Role → Bool
is_live_between local peer role = in_connection false (λ c. not (is_closed c.state) && (same_end c.local local && same_end c.peer peer)) role

-- a connection of this pair of endpoints, in any state but CLOSED
abbrev pub joins : Pair → Role → Bool
joins pair role = is_live_between pair.first pair.second role || is_live_between pair.second pair.first role

-- the local port over TCP is this one
abbrev pub uses_port : ℕ → Role → Bool
uses_port port (Connected c listener) = c.local.port == port
uses_port port (Listener local backlog) = local.port == port
uses_port port (Idle buffers (Some local)) = local.port == port
uses_port port (Idle buffers None) = false
uses_port port (Datagrams bound socket) = false

-- a UDP socket bound to this port
abbrev pub uses_datagram_port : ℕ → Role → Bool
uses_datagram_port port (Datagrams (Some local) socket) = local.port == port
uses_datagram_port port (Datagrams None socket) = false
uses_datagram_port port (Connected c listener) = false
uses_datagram_port port (Listener local backlog) = false
uses_datagram_port port (Idle buffers bound) = false

-- a connection that waits at this listener to be accepted, in SYN-RECEIVED or past it
abbrev pub waits_at : SocketId → Role → Bool
waits_at id (Connected c (Some listener)) = listener.0 == id.0
waits_at id (Connected c None) = false
waits_at id (Listener local backlog) = false
waits_at id (Idle buffers bound) = false
waits_at id (Datagrams bound socket) = false

-- a connection in SYN-RECEIVED
abbrev pub is_in_syn_received : Role → Bool
is_in_syn_received role = in_connection false (λ c. is_syn_received c.state) role

-- .. that a listener opened
abbrev pub is_half_open : Role → Bool
is_half_open role = in_connection false (λ c. c.passive && is_syn_received c.state) role

-- the peer of a connection, in any state
abbrev pub peer_of : Role → Option Endpoint
peer_of role = in_connection None (λ c. Some c.peer) role

-- the state that a socket shows: that of its connection (RFC 9293 section 3.3.2), or that it is a UDP socket
abbrev pub shown_state : Role → SocketState
shown_state (Connected c listener) = Stream c.state
shown_state (Listener local backlog) = Stream Listen
shown_state (Idle buffers bound) = Stream Closed
shown_state (Datagrams bound socket) = Datagram

abbrev pub deadline_of : Role → Option Moment
deadline_of role = in_connection None deadline role

-- the segment that a connection to this peer has due, where it has one
abbrev pub segment_due : Endpoint → Option Due → List (Endpoint × Outgoing)
segment_due peer None = []
segment_due peer (Some due) = (peer, outgoing.Segment due) ∷ []

-- each datagram of a queue, by its place, of which the first is this one
abbrev pub datagrams_due : ℕ → List datagrams.Outgoing → List (Endpoint × Outgoing)
datagrams_due place [] = []
datagrams_due place (o ∷ rest) = (o.peer, outgoing.Datagram place) ∷ datagrams_due (place + 1) rest

-- All that an entry has to send, and to whom, what goes first first: of a connection its segment, of a UDP socket each datagram that waits to go out.
abbrev pub dues_of : Role → List (Endpoint × Outgoing)
dues_of (Connected c listener) = segment_due c.peer (first_due c)
dues_of (Datagrams bound socket) = datagrams_due 0 socket.outbox
dues_of (Listener local backlog) = []
dues_of (Idle buffers bound) = []

-- the first of it that may go out, by a test of the addresses that it is for
abbrev pub due_to : (Addr → Bool) → Role → Option (Endpoint × Outgoing)
due_to goes role = find (λ due. goes due.0.addr) (dues_of role)

-- it has just this to send
abbrev pub HasOutgoing : Role → Outgoing → Type 0
HasOutgoing (Connected c listener) (outgoing.Segment due) = first_due c ≡ Some due
HasOutgoing (Connected c listener) (outgoing.Datagram place) = ⊥
HasOutgoing (Datagrams bound socket) (outgoing.Segment due) = ⊥
HasOutgoing (Datagrams bound socket) (outgoing.Datagram place) = place < length socket.outbox
HasOutgoing (Listener local backlog) what = ⊥
HasOutgoing (Idle buffers bound) what = ⊥

-- to whom the reset of an abort is owed, and since when it waits to go out
abbrev pub reset_wait : Role → Option (Endpoint × Moment)
reset_wait role = in_connection None (λ c. option_map (λ since. (c.peer, since)) (reset_since c)) role

-- how many connections may wait at a listener
abbrev pub backlog_of : Role → ℕ
backlog_of (Listener local backlog) = backlog
backlog_of (Connected c listener) = 0
backlog_of (Idle buffers bound) = 0
backlog_of (Datagrams bound socket) = 0

abbrev pub listens_at : ℕ → Role → Bool
listens_at port (Listener local backlog) = local.port == port
listens_at port (Connected c listener) = false
listens_at port (Idle buffers bound) = false
listens_at port (Datagrams bound socket) = false

-- Tests of an entry by its id and its role.

-- the socket that the id names
abbrev pub is_socket : SocketId → Entry → Bool
is_socket id e = (e.id.0 == id.0) && has_socket e.role

abbrev pub is_listening_at : ℕ → Entry → Bool
is_listening_at port e = listens_at port e.role

abbrev pub is_between : Endpoint → Endpoint → Entry → Bool
is_between local peer e = is_live_between local peer e.role

abbrev pub is_of_pair : Pair → Entry → Bool
is_of_pair pair e = joins pair e.role

abbrev pub has_port : ℕ → Entry → Bool
has_port port e = uses_port port e.role

-- the UDP socket at a port
abbrev pub is_datagrams_at : ℕ → Entry → Bool
is_datagrams_at port e = uses_datagram_port port e.role

-- bound to this port as a socket over TCP
abbrev pub is_bound_at : ℕ → Entry → Bool
is_bound_at port e = has_socket e.role && uses_port port e.role

abbrev pub is_waiting_at : SocketId → Entry → Bool
is_waiting_at id e = waits_at id e.role

-- the connection that this id names, where it waits at this listener
abbrev pub is_waiting_as : SocketId → SocketId → Entry → Bool
is_waiting_as listener id e = (e.id.0 == id.0) && waits_at listener e.role

abbrev pub is_waiting_id : List Entry → SocketId → SocketId → Bool
is_waiting_id entries listener id = list_any (is_waiting_as listener id) entries

-- something that it has to send may go out, by a test of the addresses that it is for
abbrev pub sends : (Addr → Bool) → Entry → Bool
sends goes e = is_some (due_to goes e.role)

-- the entry in this place has just this to send
abbrev pub IsDueAt : List Entry → ℕ → Outgoing → Type 0
IsDueAt entries place what = (e : Entry) × (slice_get entries place ≡ Some e) × HasOutgoing e.role what

-- New entries.

-- an idle socket with empty buffers, not bound
abbrev pub new_socket : SocketId → Buffers → Entry
new_socket id buffers = record { id = id; role = Idle buffers None }

-- a UDP socket in which nothing waits, not bound
abbrev pub new_datagram_socket : SocketId → Entry
new_datagram_socket id = record { id = id; role = Datagrams None datagrams.new_socket }

-- a connection that waits at a listener
abbrev pub new_waiting : SocketId → SocketId → View → Entry
new_waiting id listener c = record { id = id; role = Connected c (Some listener) }

-- What the calls make of a role. Each names the role that it is for, and leaves any other.

abbrev pub role_after_bind : Endpoint → Role → Role
role_after_bind local (Idle buffers bound) = Idle buffers (Some local)
role_after_bind local (Listener l b) = Listener l b
role_after_bind local (Connected c l) = Connected c l
role_after_bind local (Datagrams bound socket) = Datagrams (Some local) socket

abbrev pub role_after_listen : ℕ → Role → Role
role_after_listen backlog (Idle buffers (Some local)) = Listener local backlog
role_after_listen backlog (Idle buffers None) = Idle buffers None
role_after_listen backlog (Listener l b) = Listener l b
role_after_listen backlog (Connected c l) = Connected c l
role_after_listen backlog (Datagrams bound socket) = Datagrams bound socket

-- a connection in SYN-SENT, opened at a moment (RFC 9293 section 3.10.1)
abbrev pub role_after_connect : Endpoint → Endpoint → ℕ → Moment → Role → Role
role_after_connect local peer isn now (Idle buffers bound) = Connected (opened_actively buffers local peer isn now) None
role_after_connect local peer isn now (Listener l b) = Listener l b
role_after_connect local peer isn now (Connected c l) = Connected c l
role_after_connect local peer isn now (Datagrams bound socket) = Datagrams bound socket

abbrev pub role_after_accept : Role → Role
role_after_accept (Connected c listener) = Connected c None
role_after_accept (Listener l b) = Listener l b
role_after_accept (Idle buffers bound) = Idle buffers bound
role_after_accept (Datagrams bound socket) = Datagrams bound socket

-- octets are given to the connection at a moment, and as many are taken as there is room for
abbrev pub role_after_send : Moment → List ℕ → Role → Role
role_after_send now octets role = on_connection (λ c. after_send c octets now) role

-- small segments of the connection wait for what is outstanding from this moment on, or don't
abbrev pub role_after_nodelay : Bool → Moment → Role → Role
role_after_nodelay on now role = on_connection (λ c. after_set_nodelay c on now) role

-- the connection's peer is asked whether it is there from this moment on, or no more
abbrev pub role_after_keepalive : Option ℕ → Moment → Role → Role
role_after_keepalive every now role = on_connection (λ c. after_set_keepalive c every now) role

-- our side of the connection is closed at a moment, where it is past its opening and told no error
abbrev pub role_after_shutdown : Moment → Role → Role
role_after_shutdown now role = on_connection (λ c. if is_some c.pending_error || is_opening c.state then c else after_shutdown c now) role

-- octets of the connection are read into a buffer of this length, and none into an empty one
abbrev pub role_after_recv : ℕ → Role → Role
role_after_recv len role = on_connection (λ c. if len == 0 then c else after_recv c len) role

-- a UDP socket has room for a further datagram of so many octets to be sent
abbrev pub has_room_to_send : ℕ → Role → Bool
has_room_to_send len (Datagrams bound socket) = has_room_out socket len
has_room_to_send len (Connected c listener) = false
has_room_to_send len (Listener local backlog) = false
has_room_to_send len (Idle buffers bound) = false

-- a datagram to be sent from `local` stands behind the others, and the socket is bound there where it was not bound
abbrev pub role_after_sendto : Endpoint → Moment → Endpoint → ℕ → List ℕ → Role → Role
role_after_sendto local now peer identification octets role = on_datagrams (λ bound. Some local) (λ socket. with_sent socket now peer identification octets) role

-- the first datagram that came was read
abbrev pub role_after_recvfrom : Role → Role
role_after_recvfrom role = on_datagrams (λ bound. bound) after_read role

-- What else happens to a role: what becomes of it, and of the entry's place.

abbrev pub is_kept : Fate → Bool
is_kept Removed = false
is_kept Stays = true
is_kept Rejected = true

-- timers act
abbrev pub role_after_tick : Moment → Role → Role
role_after_tick now role = on_connection (λ c. after_tick c now) role

abbrev pub tick_fate_of : Moment → Role → Fate
tick_fate_of now role = in_connection Stays (λ c. tick_fate c now) role

-- a segment arrives at the connection
abbrev pub role_after_segment : Moment → Segment → Role → Role
role_after_segment now s role = on_connection (λ c. after_segment_at c s now) role

abbrev pub fate_of : Segment → Role → Fate
fate_of s role = in_connection Stays (λ c. fate c s) role

-- by it a connection that waits at a listener passes SYN-RECEIVED: from then on it is offered to the listener's caller
abbrev pub is_offered_by : Moment → Segment → Role → Bool
is_offered_by now s role = is_pending role && is_in_syn_received role && is_kept (fate_of s role) && not (is_in_syn_received (role_after_segment now s role))

-- an error tells that the segment of this number can't be delivered
abbrev pub role_after_unreachable : ℕ → Role → Role
role_after_unreachable number role = on_connection (λ c. after_unreachable c number) role

abbrev pub unreachable_fate_of : ℕ → Role → Fate
unreachable_fate_of number role = in_connection Stays (λ c. unreachable_fate c number) role

-- Its caller's leaving closes a connection: by `close`; and by `abort` in SYN-SENT, where no peer is owed a reset (RFC 9293 section 3.10.5).
abbrev pub is_closed_by : Leave → View → Bool
is_closed_by Close c = true
is_closed_by Abort c = is_syn_sent c.state

-- .. and else aborts it
abbrev pub leaving_event : Leave → Moment → View → edge.Event
leaving_event how now c = if is_closed_by how c then edge.Closes now else edge.Aborts now

-- the caller leaves the socket, and nothing is left of one without a connection
abbrev pub role_after_leaving : Leave → Moment → Role → Role
role_after_leaving how now role = on_connection (λ c. edge.after_event c (leaving_event how now c)) role

abbrev pub leaving_fate_of : Leave → Moment → Role → Fate
leaving_fate_of how now role = in_connection Removed (λ c. edge.fate_by c (leaving_event how now c)) role

-- the connection is aborted
abbrev pub role_after_abort : Moment → Role → Role
role_after_abort now role = on_connection (λ c. after_abort c now) role

abbrev pub abort_fate_of : Role → Fate
abort_fate_of role = in_connection Stays abort_fate role

-- a listener is closed: a connection that waits at it is aborted
abbrev pub role_after_listener_close : Moment → SocketId → Role → Role
role_after_listener_close now id role = if waits_at id role then role_after_abort now role else role

abbrev pub listener_close_fate_of : SocketId → Role → Fate
listener_close_fate_of id role = if waits_at id role then abort_fate_of role else Stays

-- a UDP socket has room for a further datagram of so many octets that came
abbrev pub has_room_to_receive : ℕ → Role → Bool
has_room_to_receive len (Datagrams bound socket) = has_room_in socket len
has_room_to_receive len (Connected c listener) = false
has_room_to_receive len (Listener local backlog) = false
has_room_to_receive len (Idle buffers bound) = false

-- a datagram that came from this endpoint stands behind the others
abbrev pub role_after_reception : Endpoint → List ℕ → Role → Role
role_after_reception from octets role = on_datagrams (λ bound. bound) (λ socket. with_received socket from octets) role

-- in which place of a socket's queue a datagram stands
abbrev pub place_of : Outgoing → ℕ
place_of (outgoing.Datagram place) = place
place_of (outgoing.Segment due) = 0

-- the datagram in this place goes before the others, which stay in order
abbrev pub with_first : Outgoing → datagrams.SocketView → datagrams.SocketView
with_first what socket = datagrams_out.brought (place_of what) socket

-- The segment that is due goes out, and an abort is over once its reset has gone out; or the next part of this datagram does (RFC 791
-- section 3.2), which goes before the others from then on.
abbrev pub role_after_emission : Moment → Outgoing → Role → Role
role_after_emission now what (Connected c listener) = Connected (after_first c (first_due c) now) listener
role_after_emission now what (Datagrams bound socket) = Datagrams bound (datagrams_out.after_part (with_first what socket))
role_after_emission now what (Listener local backlog) = Listener local backlog
role_after_emission now what (Idle buffers bound) = Idle buffers bound

abbrev pub emission_fate_of : Role → Fate
emission_fate_of role = in_connection Stays (λ c. if is_over c then Removed else Stays) role

-- what is told of it: a segment's length in octets, or what the header of IPv4 says of a part
abbrev pub due_emitted : Outgoing → Role → Option Emitted
due_emitted what (Connected c listener) = option_map (λ due. emitted.Segment (emitted_len c due)) (first_due c)
due_emitted what (Datagrams bound socket) = option_map (λ part. emitted.Datagram part) (datagrams_out.due_part (with_first what socket))
due_emitted what (Listener local backlog) = None
due_emitted what (Idle buffers bound) = None

-- how many octets it has
abbrev pub len_of : Emitted → ℕ
len_of (emitted.Segment len) = len
len_of (emitted.Datagram part) = part.fragment.len

-- the endpoint that datagrams of a socket come from: our address, and the port that it is bound to
abbrev pub source_of : Addr → Option Endpoint → Endpoint
source_of own (Some local) = record { addr = own; port = local.port }
source_of own None = record { addr = own; port = 0 }

-- the octets that go out, from our address
abbrev pub due_octets : Addr → Outgoing → Role → List ℕ
due_octets own what (Connected c listener) = of_due (first_due c)
  where
    of_due : Option Due → List ℕ
    of_due None = []
    of_due (Some due) = segment_octets c due
due_octets own what (Datagrams bound socket) = datagrams_out.due_octets (source_of own bound) (with_first what socket)
due_octets own what (Listener local backlog) = []
due_octets own what (Idle buffers bound) = []

-- they stand at the front of what was there
abbrev pub due_front : Addr → Outgoing → Role → List ℕ → List ℕ
due_front own what role out = of_due (due_emitted what role)
  where
    of_due : Option Emitted → List ℕ
    of_due None = out
    of_due (Some e) = due_octets own what role ++ drop (len_of e) out

-- the entry with its role changed
abbrev pub with_role : (Role → Role) → Entry → Entry
with_role change e = record e { role = change e.role }

-- Steps of the table: what becomes of an entry's place goes with what becomes of its role.

-- the first entry that passes the test takes a step: its role changes, or it is taken out
abbrev pub entries_after_step : Fate → (Entry → Bool) → (Role → Role) → List Entry → List Entry
entries_after_step fate test change entries = if is_kept fate then change_first test (with_role change) entries else remove_first test entries

-- each entry takes a step: those whose connection is gone are taken out, and the others keep their order
abbrev pub entries_after_steps : (Role → Fate) → (Role → Role) → List Entry → List Entry
entries_after_steps fate change entries = retain_mut (λ e. is_kept (fate e.role)) (with_role change) entries
