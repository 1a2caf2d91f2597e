-- What an event of the table is to a connection in it: one event of the connection's own, or none (RFC 9293 section 3.10).
use Rattle.std.specs.Prelude.{◌≡◌, ℕ, ◌==◌, ◌&&◌, not, Bool, true, false, if◌then◌else◌, Option, Some, None, option_map, Ok}
use Rattle.ipv4.specs.declared.addr.Endpoint.{Endpoint}
use Rattle.clock.specs.declared.moment.Moment.{Moment}
use Rattle.tcp_halves.specs.declared.buffers.Buffers.{Buffers}
use Rattle.tcp_state.specs.View.{View, opened_actively}
use Rattle.tcp_state.specs.Edges as edge
use Rattle.sockets.specs.declared.entry.SocketId.{SocketId}
use Rattle.sockets.specs.declared.entry.Entry.{Entry}
use Rattle.sockets.specs.declared.role.Leave.{Leave}
use Rattle.sockets.specs.declared.role.Role.{Role}
use Rattle.sockets.specs.declared.role.Role.TheVariants.{Idle, Listener, Connected, Datagrams}
use Rattle.sockets.specs.Entries.{in_connection, is_socket, is_waiting_at, is_between, is_datagrams_at, is_kept, leaving_event}
use Rattle.sockets.specs.SocketsView.{SocketsView, later_moment}
use Rattle.sockets.specs.Lost.{is_given_up, loses_hop}
use Rattle.sockets.specs.Calls.{is_next_at, port_connected}
use Rattle.sockets.specs.Arrival.{local_end, peer_end}
use Rattle.sockets.specs.Causes.{Event, Binds, Listens, Accepts, Connects, Sends, Receives, Shuts, SetsNoDelay, SetsKeepAlive, Leaves, Ticks, Hears, Emits, GivesUp, GivesWay, Unreachable, SendsTo, ReceivesFrom, HearsDatagram, is_next_out, is_next_away}
use Rattle.sockets.specs.Traffic.{is_stream}

-- Which event of an entry's connection an event of the table is, if any: a call of its socket, but for a read into an empty buffer; the close or the abort of its
-- socket, or of the listener that it waits at, by which it is aborted; any tick; a segment of its two ends; that of all that is due it is what goes out; a hard
-- error about a segment between its two ends; or that what waits for its peer's address is given up. Calls happen at the kept moment, and all else at the later of that and the event's own.
abbrev pub event_of : SocketsView → Event → Entry → Option edge.Event
event_of h (Sends id octets) x = if is_socket id x then Some (edge.Sends octets h.kept) else None
event_of h (Receives id len) x = if len == 0 then None else if is_socket id x then Some (edge.Receives len) else None
event_of h (Shuts id) x = if is_socket id x then Some (edge.Shuts h.kept) else None
event_of h (SetsNoDelay id on) x = if is_socket id x then Some (edge.SetsNoDelay on h.kept) else None
event_of h (SetsKeepAlive id every) x = if is_socket id x then Some (edge.SetsKeepAlive every h.kept) else None
event_of h (Leaves how id) x = if is_socket id x then Some (in_connection (edge.Closes h.kept) (leaving_event how h.kept) x.role) else if is_waiting_at id x then Some (edge.Aborts h.kept) else None
event_of h (Ticks now) x = Some (edge.Ticks (later_moment h now))
event_of h (Hears now isn source s) x = if is_between (local_end h s) (peer_end source s) x then Some (edge.Hears s (later_moment h now)) else None
event_of h (Emits goes now) x = if is_next_out h goes x then Some (edge.Emits (later_moment h now)) else None
event_of h (GivesUp lost now) x = if loses_hop lost x.role then Some (edge.LosesHop (later_moment h now)) else None
event_of h (Unreachable local peer number) x = if is_between local peer x then Some (edge.Unreachable number) else None
event_of h _ x = None

-- what one event of its own leaves of a connection, or none: nothing where the event takes it out
abbrev pub view_left : View → Option edge.Event → Option View
view_left c None = Some c
view_left c (Some event) = if is_kept (edge.fate_by c event) then Some (edge.after_event c event) else None

-- at which listener a connection waits then: at none once it is accepted
abbrev pub listener_left : SocketsView → Event → Entry → Option SocketId → Option SocketId
listener_left h (Accepts id) x listener = if is_next_at h id x then None else listener
listener_left h _ x listener = listener

-- a connection is let go, by no event of its own: the reset of an abort is given up, and its connection with it, or it gives way to another
abbrev pub is_let_go : SocketsView → Event → Entry → Bool
is_let_go h (GivesUp lost now) x = is_given_up lost (later_moment h now) x.role
is_let_go h (GivesWay meant) x = is_next_away h meant x
is_let_go h _ x = false

-- an entry with a connection
abbrev pub connected : SocketId → View → Option SocketId → Entry
connected id c listener = record { id = id; role = Connected c listener }

-- what an event of the table leaves of it
abbrev pub connection_left : SocketsView → Event → SocketId → View → Option SocketId → Option Entry
connection_left h e id c listener =
    if is_let_go h e (connected id c listener) then None
    else option_map (λ d. connected id d (listener_left h e (connected id c listener) listener)) (view_left c (event_of h e (connected id c listener)))

-- the close or the abort of a socket without a connection
abbrev pub closes_socket : Event → Entry → Bool
closes_socket (Leaves how id) x = in_connection true (λ c. false) x.role && is_socket id x
closes_socket _ x = false

-- the events that may change a socket without a connection: a call of it but for its close or abort, a datagram for its port, that of all that is due it is what
-- goes out, and of a UDP socket that datagrams are given up
abbrev pub may_change : SocketsView → Event → Entry → Bool
may_change h (Binds id local) x = is_socket id x
may_change h (Listens id backlog) x = is_socket id x
may_change h (SendsTo id peer octets routed) x = is_socket id x
may_change h (ReceivesFrom id len) x = is_socket id x
may_change h (HearsDatagram source d) x = is_datagrams_at d.destination x
may_change h (Emits goes now) x = is_next_out h goes x
may_change h (GivesUp lost now) x = not (is_stream x.role)
may_change h _ x = false

-- What is left of an entry that has no connection: nothing exactly where it is closed or aborted, and all of it but for those events. It has a connection then only where
-- it is an idle socket and a `connect` opens it, in SYN-SENT, from our address and the port that the call gives it.
pub data IsSocketLeft (h : SocketsView) : Event → Entry → Option Entry → Type 0 where
  remains : {e : Event} {x : Entry} → closes_socket e x ≡ false → IsSocketLeft h e x (Some x)
  changes : {e : Event} {x : Entry} (y : Entry) → y.id ≡ x.id → in_connection None (λ c. Some c) y.role ≡ None → may_change h e x ≡ true → IsSocketLeft h e x (Some y)
  opens : (now : Moment) (isn : ℕ) (named : SocketId) (peer : Endpoint) (routed : Bool) (port : ℕ) (id : SocketId) (buffers : Buffers) (bound : Option Endpoint)
      → is_socket named (record { id = id; role = Idle buffers bound }) ≡ true → port_connected h named peer routed ≡ Ok port
      → IsSocketLeft h (Connects now isn named peer routed) (record { id = id; role = Idle buffers bound }) (Some (connected id (opened_actively buffers (record { addr = h.addr; port = port }) peer isn (later_moment h now)) None))
  closes : (how : Leave) (named : SocketId) (x : Entry) → is_socket named x ≡ true → IsSocketLeft h (Leaves how named) x None

-- what is left of an entry: of a connection exactly what its one event leaves, or all of it where it has none
abbrev pub IsLeft : SocketsView → Event → SocketId → Role → Option Entry → Type 0
IsLeft h e id (Connected c listener) left = left ≡ connection_left h e id c listener
IsLeft h e id (Idle buffers bound) left = IsSocketLeft h e (record { id = id; role = Idle buffers bound }) left
IsLeft h e id (Listener local backlog) left = IsSocketLeft h e (record { id = id; role = Listener local backlog }) left
IsLeft h e id (Datagrams bound socket) left = IsSocketLeft h e (record { id = id; role = Datagrams bound socket }) left

-- the same of an entry by itself
abbrev pub IsOneEvent : SocketsView → Event → Entry → Option Entry → Type 0
IsOneEvent h e x left = IsLeft h e x.id x.role left
