-- What a socket is ready for, each by what its calls would answer now, and the socket that what arrives is for.
use Rattle.std.specs.Prelude.{◌≡◌, ◌⊎◌, ℕ, Bool, true, false, ◌&&◌, ◌||◌, nat_lt, if◌then◌else◌, [], ◌∷◌, Option, Some, None, option_map, is_some, find, Result, Ok, Err, is_ok}
use Rattle.std.specs.Option.{unwrap_or}
use Rattle.ipv4.specs.declared.addr.Addr.{Addr}
use Rattle.ipv4.specs.declared.addr.Endpoint.{Endpoint}
use Rattle.tcp_segment.specs.Segment.{Segment}
use Rattle.tcp_state.specs.declared.calls.Received.{Received}
use Rattle.tcp_state.specs.declared.calls.Received.TheVariants.{Octets, EndOfStream}
use Rattle.tcp_state.specs.declared.calls.Refusal as connection_refusal
use Rattle.tcp_state.specs.Asking.{len_answer, room_answer}
use Rattle.tcp_state.specs.View.{is_opening}
use Rattle.udp_socket.specs.Asking.{first_len, room_out}
use Rattle.sockets.specs.declared.entry.SocketId.{SocketId}
use Rattle.sockets.specs.declared.entry.Entry.{Entry}
use Rattle.sockets.specs.declared.ready.Ready.{Ready}
use Rattle.sockets.specs.declared.role.Role.{Role}
use Rattle.sockets.specs.declared.role.Role.TheVariants.{Idle, Listener, Connected, Datagrams}
use Rattle.sockets.specs.declared.refusal.Refusal.{Refusal}
use Rattle.sockets.specs.declared.refusal.Refusal.TheVariants.{ENOTCONN, EAGAIN, EOPNOTSUPP}
use Rattle.sockets.specs.declared.state.SocketState.{SocketState}
use Rattle.sockets.specs.declared.state.SocketState.TheVariants.{Datagram, Stream}
use Rattle.sockets.specs.Arrival.{local_end, peer_end}
use Rattle.sockets.specs.Arrival as arrival
use Rattle.sockets.specs.Calls.{answer_at, next_offered, of_connection, role_recv_answer, role_send_answer}
use Rattle.sockets.specs.Datagrams.{role_recvfrom_answer, sending_end}
use Rattle.sockets.specs.Entries.{has_room_to_send, has_socket, in_connection, is_between, is_datagrams_at, is_listening_at}
use Rattle.sockets.specs.SocketsView.{SocketsView}

-- a receive answers octets ..
abbrev pub is_octets : Result Received Refusal → Bool
is_octets (Ok (Octets count)) = true
is_octets (Ok EndOfStream) = false
is_octets (Err refusal) = false

-- .. or the end of the stream
abbrev pub is_end : Result Received Refusal → Bool
is_end (Ok (Octets count)) = false
is_end (Ok EndOfStream) = true
is_end (Err refusal) = false

-- a connection waits at the listener that may be accepted
abbrev pub offers : SocketsView → SocketId → Role → Bool
offers h id (Listener local backlog) = is_some (next_offered h id)
offers h id (Idle buffers bound) = false
offers h id (Connected c listener) = false
offers h id (Datagrams bound socket) = false

-- a UDP socket has room for a datagram of one octet, and a port to send it from
abbrev pub takes_datagram : SocketsView → Role → Bool
takes_datagram h (Datagrams bound socket) = has_room_to_send 1 (Datagrams bound socket) && is_some (sending_end h bound)
takes_datagram h (Idle buffers bound) = false
takes_datagram h (Listener local backlog) = false
takes_datagram h (Connected c listener) = false

-- the error that a connection's calls are refused with
abbrev pub error_of : Role → Option connection_refusal.Refusal
error_of role = in_connection None (λ c. c.pending_error) role

-- a connection in SYN-SENT or SYN-RECEIVED
abbrev pub opens : Role → Bool
opens role = in_connection false (λ c. is_opening c.state) role

-- What holds of an entry's role: it would accept, read an octet, take one, answer the end of the stream; its calls are refused with an error; it is being opened.
abbrev pub ready_of : SocketsView → SocketId → Role → Ready
ready_of h id role = record {
  accept = offers h id role;
  read = is_octets (role_recv_answer role 1) || is_ok (role_recvfrom_answer role 1);
  write = is_ok (role_send_answer role (0 ∷ [])) || takes_datagram h role;
  ended = is_end (role_recv_answer role 1);
  failed = is_some (error_of role);
  opening = opens role;
}

abbrev pub readiness : SocketsView → SocketId → Result Ready Refusal
readiness h id = answer_at h id (λ role. Ok (ready_of h id role))

-- one of those that hold is among these
abbrev pub is_any_of : Ready → Ready → Bool
is_any_of ready mask =
    (ready.accept && mask.accept) || (ready.read && mask.read) || (ready.write && mask.write)
    || (ready.ended && mask.ended) || (ready.failed && mask.failed) || (ready.opening && mask.opening)

-- the entry is a socket of a later id, of which one of these holds
abbrev pub is_ready_after : SocketsView → SocketId → Ready → Entry → Bool
is_ready_after h after mask e = nat_lt after.0 e.id.0 && has_socket e.role && is_any_of (ready_of h e.id e.role) mask

-- the first such socket in order of id, and all that holds of it
abbrev pub next_ready : SocketsView → SocketId → Ready → Option (SocketId × Ready)
next_ready h after mask = option_map (λ e. (e.id, ready_of h e.id e.role)) (find (is_ready_after h after mask) h.entries)

-- How many octets could be read at once: of a connection those that are readable, of a UDP socket those of the first datagram.
abbrev pub role_recv_len : Role → Result ℕ Refusal
role_recv_len (Idle buffers bound) = Err ENOTCONN
role_recv_len (Listener local backlog) = Err EOPNOTSUPP
role_recv_len (Connected c listener) = of_connection (len_answer c)
role_recv_len (Datagrams bound socket) = Ok (unwrap_or (first_len socket.inbox) 0)

abbrev pub recv_len : SocketsView → SocketId → Result ℕ Refusal
recv_len h id = answer_at h id role_recv_len

-- How many octets could be given: to a connection, or to a UDP socket in one datagram.
abbrev pub role_send_room : Role → Result ℕ Refusal
role_send_room (Idle buffers bound) = Err ENOTCONN
role_send_room (Listener local backlog) = Err EOPNOTSUPP
role_send_room (Connected c listener) = of_connection (room_answer c)
role_send_room (Datagrams bound socket) = Ok (room_out socket)

abbrev pub send_room : SocketsView → SocketId → Result ℕ Refusal
send_room h id = answer_at h id role_send_room

-- the listener at which a connection waits
abbrev pub listener_of : Role → Option SocketId
listener_of (Connected c listener) = listener
listener_of (Idle buffers bound) = None
listener_of (Listener local backlog) = None
listener_of (Datagrams bound socket) = None

-- the socket that an entry is, or the listener at which it waits; none of a connection that its caller closed
abbrev pub socket_named : Entry → Option SocketId
socket_named e = if has_socket e.role then Some e.id else listener_of e.role

-- the socket that is told of what arrives between two ends: that of the connection between them, or the listener at which that waits
abbrev pub socket_between : SocketsView → Endpoint → Endpoint → Option SocketId
socket_between h local peer = of_entry (find (is_between local peer) h.entries)
  where
    of_entry : Option Entry → Option SocketId
    of_entry None = None
    of_entry (Some e) = socket_named e

-- the listener at the port of a segment that opens a connection
abbrev pub listener_for : SocketsView → Segment → Option SocketId
listener_for h s = if arrival.is_opening s.flags then option_map (λ e. e.id) (find (is_listening_at s.destination) h.entries) else None

-- the socket that a segment from an address is for: that of the connection of its two ends, where there is one, else the listener that it opens a connection at
abbrev pub socket_of_segment : SocketsView → Addr → Segment → Option SocketId
socket_of_segment h source s = of_entry (find (is_between (local_end h s) (peer_end source s)) h.entries)
  where
    of_entry : Option Entry → Option SocketId
    of_entry None = listener_for h s
    of_entry (Some e) = socket_named e

-- the UDP socket at a port
abbrev pub socket_at_port : SocketsView → ℕ → Option SocketId
socket_at_port h port = option_map (λ e. e.id) (find (is_datagrams_at port) h.entries)

-- For the laws: what an answer says.

-- how many octets a receive gives, and one of a datagram
abbrev pub octets_in : Result Received Refusal → ℕ
octets_in (Ok (Octets count)) = count
octets_in (Ok EndOfStream) = 0
octets_in (Err refusal) = 0

abbrev pub octets_from : Result (ℕ × Endpoint) Refusal → ℕ
octets_from (Ok given) = given.0
octets_from (Err refusal) = 0

-- how many a send takes
abbrev pub taken_by : Result ℕ Refusal → ℕ
taken_by (Ok count) = count
taken_by (Err refusal) = 0

-- a state in which a connection is being opened
abbrev pub is_opening_state : Result SocketState Refusal → Bool
is_opening_state (Ok (Stream state)) = is_opening state
is_opening_state (Ok Datagram) = false
is_opening_state (Err refusal) = false

-- a refusal that is no error of a connection
abbrev pub IsNoError : Refusal → Type 0
IsNoError refusal = (refusal ≡ ENOTCONN) ⊎ (refusal ≡ EOPNOTSUPP) ⊎ (refusal ≡ EAGAIN)
