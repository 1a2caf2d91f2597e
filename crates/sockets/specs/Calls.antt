-- The call table: for each socket call its refusal, by the tests in their order, and what it makes of the table.
use Rattle.std.specs.Prelude.{ℕ, ◌+◌, ◌^◌, ◌≡◌, Bool, true, false, ◌==◌, ◌&&◌, ◌||◌, not, nat_lt, nat_le, if◌then◌else◌, List, [], ◌∷◌, ◌++◌, length, take, drop, filter, Option, Some, None, find, Result, Ok, Err, is_some, option_map, option_and_then}
use Rattle.std.specs.List.{list_any}
use Rattle.std.specs.Option.{ok_or, unwrap_or}
use Rattle.std.specs.Result.{result_ok, result_err}
use Rattle.ipv4.specs.declared.addr.Addr.{Addr}
use Rattle.ipv4.specs.declared.addr.Endpoint.{Endpoint}
use Rattle.ipv4.specs.declared.addr.Pair.{Pair}
use Rattle.ipv4.specs.Addresses.{pair_of, same_addr, is_unicast}
use Rattle.clock.specs.declared.moment.Moment.{Moment}
use Rattle.tcp_halves.specs.declared.buffers.Buffers.{Buffers}
use Rattle.tcp_state.specs.declared.state.State.{State}
use Rattle.tcp_state.specs.declared.calls.Received.{Received}
use Rattle.tcp_state.specs.declared.calls.Refusal as connection_refusal
use Rattle.tcp_state.specs.declared.calls.Refusal.TheVariants as connection_variants
use Rattle.tcp_state.specs.Calls as connection_calls
use Rattle.tcp_state.specs.View.{is_opening}
use Rattle.sockets.specs.declared.calls.TheConstants.{MOST_BACKLOG, LEAST_KEEPALIVE}
use Rattle.tcp_state.specs.declared.alive.TheConstants.{MOST_KEEPALIVE}
use Rattle.sockets.specs.declared.entry.SocketId.{SocketId}
use Rattle.sockets.specs.declared.entry.Kind.{Kind}
use Rattle.sockets.specs.declared.entry.Kind.TheVariants.{Tcp, Udp}
use Rattle.sockets.specs.declared.state.SocketState.{SocketState}
use Rattle.sockets.specs.declared.entry.Entry.{Entry}
use Rattle.sockets.specs.declared.role.Leave.{Leave}
use Rattle.sockets.specs.declared.role.Leave.TheVariants.{Close, Abort}
use Rattle.sockets.specs.declared.role.Role.{Role}
use Rattle.sockets.specs.declared.role.Role.TheVariants.{Idle, Listener, Connected, Datagrams}
use Rattle.sockets.specs.declared.refusal.Refusal.{Refusal}
use Rattle.sockets.specs.declared.refusal.Refusal.TheVariants.{EBADF, EINVAL, EADDRINUSE, EADDRNOTAVAIL, EISCONN, ENOTCONN, EALREADY, EAGAIN, ENETUNREACH, EOPNOTSUPP, ECONNREFUSED, ECONNRESET, ETIMEDOUT, EPIPE, EDESTADDRREQ}
use Rattle.sockets.specs.Ports.{first_port, is_free_port, is_unused_port, is_free_datagram_port}
use Rattle.sockets.specs.Entries.{is_socket, is_between, is_waiting_as, is_waiting_id, peer_of, shown_state, new_socket, new_datagram_socket, role_after_bind, role_after_listen, role_after_connect, role_after_accept, role_after_send, role_after_recv, role_after_shutdown, role_after_nodelay, role_after_keepalive, role_after_leaving, leaving_fate_of, role_after_listener_close, listener_close_fate_of, entries_after_step, entries_after_steps, with_role}
use Rattle.sockets.specs.SocketsView.{SocketsView, role_of, with_socket, later_moment, room_of}
use Rattle.sockets.specs.Lists.{change_first, remove_first}

-- what `of` says of a socket's role, and `none` where there is no such socket
abbrev pub of_socket : {T : Type 0} → T → (Role → T) → Option Role → T
of_socket none of None = none
of_socket none of (Some role) = of role

-- what a call answers of the socket that the id names; EBADF where it names none
abbrev pub answer_at : {T : Type 0} → SocketsView → SocketId → (Role → Result T Refusal) → Result T Refusal
answer_at h id answer = of_socket (Err EBADF) answer (role_of h id)

-- what a call is refused for, of the socket that the id names; EBADF where it names none
abbrev pub refusal_at : SocketsView → SocketId → (Role → Option Refusal) → Option Refusal
refusal_at h id refusal = of_socket (Some EBADF) refusal (role_of h id)

-- a refusal, or this value where there is none
abbrev pub unless_refused : {T : Type 0} → Option Refusal → T → Result T Refusal
unless_refused None value = Ok value
unless_refused (Some refusal) value = Err refusal

-- 0.0.0.0, which stands for every address of ours
abbrev pub any_addr : Addr
any_addr = record { 0 = 0 ∷ 0 ∷ 0 ∷ 0 ∷ [] }

-- socket: no place in the table, or the last id is given
abbrev pub is_table_full : SocketsView → Bool
is_table_full h = (length h.entries == h.sizes.entries) || (h.last_id + 1 == 2 ^ 64)

-- a new idle socket at the end of the table
abbrev pub after_socket : SocketsView → Buffers → SocketsView
after_socket h buffers = record h {
  last_id = h.last_id + 1;
  entries = h.entries ++ new_socket (record { 0 = h.last_id + 1 }) buffers ∷ [];
}

-- a new UDP socket at the end of the table
abbrev pub after_datagram_socket : SocketsView → SocketsView
after_datagram_socket h = record h {
  last_id = h.last_id + 1;
  entries = h.entries ++ new_datagram_socket (record { 0 = h.last_id + 1 }) ∷ [];
}

-- the table after a socket of this kind was made; the buffers of one of TCP are made for what the table's connections do
abbrev pub IsMade : Kind → SocketsView → SocketsView → Type 0
IsMade Tcp old new = new ≡ after_socket old (room_of old.sizes.buffer old.manner)
IsMade Udp old new = new ≡ after_datagram_socket old

-- the port asked for where it is free, and in place of port 0 the first dynamic one that is, behind the last one given
abbrev pub free_port : SocketsView → (ℕ → Bool) → ℕ → Option ℕ
free_port h is_free port =
    if port == 0 then first_port is_free h.last_port 0 16384
    else if is_free port then Some port
    else None

-- the port to which a socket that is not bound may be bound at this endpoint, by the test which ports are free for its kind, or why it may not
abbrev pub port_at : SocketsView → (ℕ → Bool) → Endpoint → Result ℕ Refusal
port_at h is_free local =
    if not (same_addr local.addr h.addr) && not (same_addr local.addr any_addr) then Err EADDRNOTAVAIL
    else ok_or (free_port h is_free local.port) EADDRINUSE

-- the port that a bind gives the socket, or why it is refused: by what the socket is, by the address, by the ports
abbrev pub port_bound : SocketsView → SocketId → Endpoint → Result ℕ Refusal
port_bound h id local = answer_at h id of_role
  where
    of_role : Role → Result ℕ Refusal
    of_role (Idle buffers None) = port_at h (is_unused_port h.entries) local
    of_role (Idle buffers (Some bound)) = Err EINVAL
    of_role (Datagrams None socket) = port_at h (is_free_datagram_port h.entries) local
    of_role (Datagrams (Some bound) socket) = Err EINVAL
    of_role (Listener bound backlog) = Err EINVAL
    of_role (Connected c listener) = Err EINVAL

abbrev pub bind_refusal : SocketsView → SocketId → Endpoint → Option Refusal
bind_refusal h id local = result_err (port_bound h id local)

-- the dynamic port given last after a bind: one in place of port 0 counts, a port that was asked for does not
abbrev pub last_port_bound : SocketsView → Endpoint → ℕ → ℕ
last_port_bound h local port = if local.port == 0 then port else h.last_port

-- the socket is bound to the address asked for, at the port that it is given
abbrev pub after_bind : SocketsView → SocketId → Endpoint → SocketsView
after_bind h id local = of_port (port_bound h id local)
  where
    of_port : Result ℕ Refusal → SocketsView
    of_port (Err refusal) = h
    of_port (Ok port) = with_socket (record h { last_port = last_port_bound h local port }) id (role_after_bind (record { addr = local.addr; port = port }))

-- a backlog of 1 to 8
abbrev pub listen_refusal : SocketsView → SocketId → ℕ → Option Refusal
listen_refusal h id backlog = refusal_at h id of_role
  where
    of_backlog : Option Refusal → Option Refusal
    of_backlog refusal = if (backlog == 0) || nat_lt MOST_BACKLOG backlog then Some EINVAL else refusal

    of_role : Role → Option Refusal
    of_role (Idle buffers None) = of_backlog (Some EDESTADDRREQ)
    of_role (Idle buffers (Some bound)) = of_backlog None
    of_role (Listener bound b) = of_backlog (Some EINVAL)
    of_role (Connected c listener) = of_backlog (Some EINVAL)
    of_role (Datagrams bound socket) = Some EOPNOTSUPP

abbrev pub after_listen : SocketsView → SocketId → ℕ → SocketsView
after_listen h id backlog = with_socket h id (role_after_listen backlog)

abbrev pub state_answer : SocketsView → SocketId → Result SocketState Refusal
state_answer h id = answer_at h id (λ role. Ok (shown_state role))

-- where a socket is bound, or the local end of its connection; 0.0.0.0 and port 0 where it is not bound
abbrev pub own_end : Role → Endpoint
own_end (Idle buffers bound) = unwrap_or bound (record { addr = any_addr; port = 0 })
own_end (Listener local backlog) = local
own_end (Connected c listener) = c.local
own_end (Datagrams bound socket) = unwrap_or bound (record { addr = any_addr; port = 0 })

abbrev pub sockname_answer : SocketsView → SocketId → Result Endpoint Refusal
sockname_answer h id = answer_at h id (λ role. Ok (own_end role))

-- the peer of the socket's connection, in any state
abbrev pub peername_answer : SocketsView → SocketId → Result Endpoint Refusal
peername_answer h id = answer_at h id (λ role. ok_or (peer_of role) ENOTCONN)

-- what a listener accepts next: of the connections that are offered, the first that waits at it
abbrev pub next_offered : SocketsView → SocketId → Option SocketId
next_offered h listener = find (is_waiting_id h.entries listener) h.offered

abbrev pub is_next_at : SocketsView → SocketId → Entry → Bool
is_next_at h listener e = of_id (next_offered h listener)
  where
    of_id : Option SocketId → Bool
    of_id None = false
    of_id (Some id) = is_waiting_as listener id e

-- its id and its peer
abbrev pub accept_answer : SocketsView → SocketId → Result (SocketId × Endpoint) Refusal
accept_answer h id = answer_at h id of_role
  where
    of_peer : SocketId → Option Endpoint → Result (SocketId × Endpoint) Refusal
    of_peer accepted_id None = Err EAGAIN
    of_peer accepted_id (Some peer) = Ok (accepted_id, peer)

    of_entry : Option Entry → Result (SocketId × Endpoint) Refusal
    of_entry None = Err EAGAIN
    of_entry (Some e) = of_peer e.id (peer_of e.role)

    of_role : Role → Result (SocketId × Endpoint) Refusal
    of_role (Listener bound backlog) = of_entry (find (is_next_at h id) h.entries)
    of_role (Idle buffers bound) = Err EINVAL
    of_role (Connected c listener) = Err EINVAL
    of_role (Datagrams bound socket) = Err EOPNOTSUPP

-- it waits no longer, and is no longer offered
abbrev pub after_accept : SocketsView → SocketId → SocketsView
after_accept h id = record h {
  entries = change_first (is_next_at h id) (with_role role_after_accept) h.entries;
  offered = remove_first (is_waiting_id h.entries id) h.offered;
}

-- what a connection refuses is refused by the same name
abbrev pub refusal_of : connection_refusal.Refusal → Refusal
refusal_of connection_variants.ENOTCONN = ENOTCONN
refusal_of connection_variants.EAGAIN = EAGAIN
refusal_of connection_variants.ECONNREFUSED = ECONNREFUSED
refusal_of connection_variants.ECONNRESET = ECONNRESET
refusal_of connection_variants.EPIPE = EPIPE
refusal_of connection_variants.ETIMEDOUT = ETIMEDOUT

abbrev pub of_connection : {T : Type 0} → Result T connection_refusal.Refusal → Result T Refusal
of_connection (Ok value) = Ok value
of_connection (Err refusal) = Err (refusal_of refusal)

-- what a send of octets answers
abbrev pub role_send_answer : Role → List ℕ → Result ℕ Refusal
role_send_answer (Idle buffers bound) octets = Err ENOTCONN
role_send_answer (Listener bound backlog) octets = Err EOPNOTSUPP
role_send_answer (Connected c listener) octets = of_connection (connection_calls.send_answer c octets)
role_send_answer (Datagrams bound socket) octets = Err EDESTADDRREQ

-- what a receive into a buffer of this length answers
abbrev pub role_recv_answer : Role → ℕ → Result Received Refusal
role_recv_answer (Listener bound backlog) len = Err EOPNOTSUPP
role_recv_answer (Idle buffers bound) len = if len == 0 then Err EINVAL else Err ENOTCONN
role_recv_answer (Connected c listener) len = if len == 0 then Err EINVAL else of_connection (connection_calls.recv_answer c len)
role_recv_answer (Datagrams bound socket) len = Err EOPNOTSUPP

-- what a receive leaves in a buffer: the first octets that are readable stand at its front, where it answers octets
abbrev pub read_front : Role → List ℕ → List ℕ
read_front (Connected c listener) buffer =
    if (length buffer == 0) || (is_some c.pending_error || is_opening c.state || (length c.receiving.readable == 0)) then buffer
    else take (connection_calls.recv_count c (length buffer)) c.receiving.readable ++ drop (connection_calls.recv_count c (length buffer)) buffer
read_front (Listener bound backlog) buffer = buffer
read_front (Idle buffers bound) buffer = buffer
read_front (Datagrams bound socket) buffer = buffer

abbrev pub recv_front : SocketsView → SocketId → List ℕ → List ℕ
recv_front h id buffer = of_socket buffer (λ role. read_front role buffer) (role_of h id)

abbrev pub send_answer : SocketsView → SocketId → List ℕ → Result ℕ Refusal
send_answer h id octets = answer_at h id (λ role. role_send_answer role octets)

abbrev pub after_send : SocketsView → SocketId → List ℕ → SocketsView
after_send h id octets = with_socket h id (role_after_send h.kept octets)

abbrev pub recv_answer : SocketsView → SocketId → ℕ → Result Received Refusal
recv_answer h id len = answer_at h id (λ role. role_recv_answer role len)

abbrev pub after_recv : SocketsView → SocketId → ℕ → SocketsView
after_recv h id len = with_socket h id (role_after_recv len)

-- what closing our side is refused for: no connection, one that is told an error, or one that is not opened yet
abbrev pub role_shutdown_refusal : Role → Option Refusal
role_shutdown_refusal (Idle buffers bound) = Some ENOTCONN
role_shutdown_refusal (Listener bound backlog) = Some EOPNOTSUPP
role_shutdown_refusal (Connected c listener) = option_map refusal_of (connection_calls.shutdown_refusal c)
role_shutdown_refusal (Datagrams bound socket) = Some EOPNOTSUPP

abbrev pub shutdown_refusal : SocketsView → SocketId → Option Refusal
shutdown_refusal h id = refusal_at h id role_shutdown_refusal

abbrev pub after_shutdown : SocketsView → SocketId → SocketsView
after_shutdown h id = with_socket h id (role_after_shutdown h.kept)

-- what the wish for no delay is refused for: no connection, in any state
abbrev pub role_nodelay_refusal : Role → Option Refusal
role_nodelay_refusal (Idle buffers bound) = Some ENOTCONN
role_nodelay_refusal (Listener bound backlog) = Some EOPNOTSUPP
role_nodelay_refusal (Connected c listener) = None
role_nodelay_refusal (Datagrams bound socket) = Some EOPNOTSUPP

abbrev pub nodelay_refusal : SocketsView → SocketId → Option Refusal
nodelay_refusal h id = refusal_at h id role_nodelay_refusal

abbrev pub after_nodelay : SocketsView → SocketId → Bool → SocketsView
after_nodelay h id on = with_socket h id (role_after_nodelay on h.kept)

-- a peer may be asked whether it is there after so long: ten seconds at least, a day at most
abbrev pub may_ask_after : Option ℕ → Bool
may_ask_after None = true
may_ask_after (Some every) = nat_le LEAST_KEEPALIVE every && nat_le every MOST_KEEPALIVE

-- what the wish that a silent peer is asked is refused for: another time than may be, and then what that for no delay is
abbrev pub keepalive_refusal : SocketsView → SocketId → Option ℕ → Option Refusal
keepalive_refusal h id every = refusal_at h id (λ role. if may_ask_after every then role_nodelay_refusal role else Some EINVAL)

abbrev pub after_keepalive : SocketsView → SocketId → Option ℕ → SocketsView
after_keepalive h id every = with_socket h id (role_after_keepalive every h.kept)

-- close and abort are refused only where the id names no socket
abbrev pub close_refusal : SocketsView → SocketId → Option Refusal
close_refusal h id = refusal_at h id (λ role. None)

-- Its caller has left the socket, which is gone. Nothing is left of one without a connection; a connection goes on without a socket, or is aborted, or is gone,
-- as its own rules say (RFC 9293 sections 3.10.4 and 3.10.5; 3.6.1 where octets are unread; own in SYN-RECEIVED and at a listener).
abbrev pub after_socket_left : SocketsView → Leave → SocketId → SocketsView
after_socket_left h how id = of_socket h (λ role. record h { entries = entries_after_step (leaving_fate_of how h.kept role) (is_socket id) (role_after_leaving how h.kept) h.entries }) (role_of h id)

-- and each connection that waits at it, where it listens, is aborted, and offered no longer
abbrev pub after_leaving : SocketsView → Leave → SocketId → SocketsView
after_leaving h how id =
    let left_socket = after_socket_left h how id in
    record left_socket {
      entries = entries_after_steps (listener_close_fate_of id) (role_after_listener_close h.kept id) left_socket.entries;
      offered = filter (λ x. not (is_waiting_id left_socket.entries id x)) left_socket.offered;
    }

abbrev pub after_close : SocketsView → SocketId → SocketsView
after_close h id = after_leaving h Close id

abbrev pub after_abort : SocketsView → SocketId → SocketsView
after_abort h id = after_leaving h Abort id

-- a connection from our port to the peer is in the table, in any state but CLOSED
abbrev pub is_pair_held : SocketsView → ℕ → Endpoint → Bool
is_pair_held h port peer = list_any (is_between (record { addr = h.addr; port = port }) peer) h.entries

-- the local port of a new connection: that of a bound socket where the pair is not held, else the first dynamic port
-- that is free, after the last one given
abbrev pub port_for : SocketsView → Option Endpoint → Endpoint → Option ℕ
port_for h (Some bound) peer = if is_pair_held h bound.port peer then None else Some bound.port
port_for h None peer = first_port (is_free_port h.entries h.addr peer) h.last_port 0 16384

-- an address that isn't unicast, our own, or port 0; then no route that leads to it
abbrev pub reach_refusal : SocketsView → Endpoint → Bool → Option Refusal
reach_refusal h peer routed =
    if (peer.port == 0) || not (is_unicast peer.addr) || same_addr peer.addr h.addr then Some EADDRNOTAVAIL
    else if routed then None
    else Some ENETUNREACH

-- why a socket that has had a connection opens none: the error that it is told, or by its state
abbrev pub had_connection : State → Option connection_refusal.Refusal → Result (Option Endpoint) Refusal
had_connection state (Some error) = Err (refusal_of error)
had_connection state None = if is_opening state then Err EALREADY else Err EISCONN

-- where a socket is bound that may open a connection, or why it may not
abbrev pub open_answer : Role → Result (Option Endpoint) Refusal
open_answer (Idle buffers bound) = Ok bound
open_answer (Listener local backlog) = Err EOPNOTSUPP
open_answer (Connected c listener) = had_connection c.state c.pending_error
open_answer (Datagrams bound socket) = Err EOPNOTSUPP

-- the port that a connect gives the socket's connection, or why it is refused: by what the socket is, by its peer, to whose address a route
-- leads or none, by the ports
abbrev pub port_connected : SocketsView → SocketId → Endpoint → Bool → Result ℕ Refusal
port_connected h id peer routed = answer_at h id (λ role. of_open (open_answer role))
  where
    of_reach : Option Endpoint → Option Refusal → Result ℕ Refusal
    of_reach bound (Some refusal) = Err refusal
    of_reach bound None = ok_or (port_for h bound peer) EADDRINUSE

    of_open : Result (Option Endpoint) Refusal → Result ℕ Refusal
    of_open (Err refusal) = Err refusal
    of_open (Ok bound) = of_reach bound (reach_refusal h peer routed)

abbrev pub connect_refusal : SocketsView → SocketId → Endpoint → Bool → Option Refusal
connect_refusal h id peer routed = result_err (port_connected h id peer routed)

-- the pair that a connect would open, where it is not refused
abbrev pub pair_connected : SocketsView → SocketId → Endpoint → Bool → Option Pair
pair_connected h id peer routed = option_map (λ port. pair_of (record { addr = h.addr; port = port }) peer) (result_ok (port_connected h id peer routed))

-- the last port given: a dynamic one counts, that of a bound socket does not
abbrev pub last_port_after : SocketsView → Option Endpoint → ℕ → ℕ
last_port_after h (Some bound) port = h.last_port
last_port_after h None port = port

-- where a socket that opens a connection or sends a datagram is bound
abbrev pub bound_of : Role → Option Endpoint
bound_of (Idle buffers bound) = bound
bound_of (Listener local backlog) = None
bound_of (Connected c listener) = None
bound_of (Datagrams bound socket) = bound

-- the socket is a connection in SYN-SENT from our address and the port that it is given, opened at the later of the call's moment and the kept one
abbrev pub after_connect : SocketsView → Moment → ℕ → SocketId → Endpoint → Bool → SocketsView
after_connect h now isn id peer routed = of_port (port_connected h id peer routed)
  where
    of_port : Result ℕ Refusal → SocketsView
    of_port (Err refusal) = h
    of_port (Ok port) = with_socket (record h { last_port = last_port_after h (option_and_then bound_of (role_of h id)) port }) id (role_after_connect (record { addr = h.addr; port = port }) peer isn (later_moment h now))
