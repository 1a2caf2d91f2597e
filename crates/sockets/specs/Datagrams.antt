-- The calls of UDP sockets, each with its refusals in the order in which they are tested, and what comes for them (RFC 768).
use Rattle.std.specs.Prelude.{ℕ, ◌+◌, ◌%◌, ◌^◌, Bool, ◌==◌, nat_lt, if◌then◌else◌, List, length, Option, Some, None, Result, Ok, Err, option_map, option_and_then, find}
use Rattle.std.specs.Option.{ok_or}
use Rattle.ipv4.specs.declared.addr.Addr.{Addr}
use Rattle.ipv4.specs.declared.addr.Endpoint.{Endpoint}
use Rattle.udp.specs.Datagram.{UserDatagram}
use Rattle.udp_socket.specs.declared.socket.TheConstants.{MOST_OCTETS}
use Rattle.udp_socket.specs.SocketView.{read_answer, read_buffer}
use Rattle.sockets.specs.declared.entry.SocketId.{SocketId}
use Rattle.sockets.specs.declared.entry.Entry.{Entry}
use Rattle.sockets.specs.declared.role.Role.{Role}
use Rattle.sockets.specs.declared.role.Role.TheVariants.{Idle, Listener, Connected, Datagrams}
use Rattle.sockets.specs.declared.refusal.Refusal.{Refusal}
use Rattle.sockets.specs.declared.refusal.Refusal.TheVariants.{EINVAL, EADDRINUSE, EAGAIN, EMSGSIZE, EOPNOTSUPP}
use Rattle.sockets.specs.declared.datagrams.Reception.{Reception}
use Rattle.sockets.specs.declared.datagrams.Reception.TheVariants.{Queued, NoRoom, NoSocket}
use Rattle.sockets.specs.Ports.{first_port, is_free_datagram_port}
use Rattle.sockets.specs.Entries.{is_datagrams_at, has_room_to_receive, has_room_to_send, role_after_sendto, role_after_recvfrom, role_after_reception, with_role}
use Rattle.sockets.specs.SocketsView.{SocketsView, role_of, with_socket}
use Rattle.sockets.specs.Calls.{of_socket, answer_at, reach_refusal, bound_of, last_port_after}
use Rattle.sockets.specs.Lists.{change_first}

-- where a UDP socket is bound; refused of any other
abbrev pub datagrams_bound : Role → Result (Option Endpoint) Refusal
datagrams_bound (Datagrams bound socket) = Ok bound
datagrams_bound (Idle buffers bound) = Err EOPNOTSUPP
datagrams_bound (Listener local backlog) = Err EOPNOTSUPP
datagrams_bound (Connected c listener) = Err EOPNOTSUPP

-- where a socket sends from: where it is bound, else our address and the first dynamic port behind the last one given to which no UDP
-- socket is bound
abbrev pub sending_end : SocketsView → Option Endpoint → Option Endpoint
sending_end h (Some bound) = Some bound
sending_end h None = option_map (λ port. record { addr = h.addr; port = port }) (first_port (is_free_datagram_port h.entries) h.last_port 0 16384)

-- where the socket sends a datagram of these octets from, or why it is refused: by what the socket is, by its length, by its peer, to whose
-- address a route leads or none, by the ports, by the room
abbrev pub end_sent_from : SocketsView → SocketId → Endpoint → List ℕ → Bool → Result Endpoint Refusal
end_sent_from h id peer octets routed = answer_at h id of_role
  where
    of_end : Role → Option Endpoint → Result Endpoint Refusal
    of_end role None = Err EADDRINUSE
    of_end role (Some local) = if has_room_to_send (length octets) role then Ok local else Err EAGAIN

    of_reach : Role → Option Endpoint → Option Refusal → Result Endpoint Refusal
    of_reach role bound (Some refusal) = Err refusal
    of_reach role bound None = of_end role (sending_end h bound)

    of_bound : Role → Result (Option Endpoint) Refusal → Result Endpoint Refusal
    of_bound role (Err refusal) = Err refusal
    of_bound role (Ok bound) = if nat_lt MOST_OCTETS (length octets) then Err EMSGSIZE else of_reach role bound (reach_refusal h peer routed)

    of_role : Role → Result Endpoint Refusal
    of_role role = of_bound role (datagrams_bound role)

-- all its octets are taken, or none
abbrev pub sendto_answer : SocketsView → SocketId → Endpoint → List ℕ → Bool → Result ℕ Refusal
sendto_answer h id peer octets routed = of_end (end_sent_from h id peer octets routed)
  where
    of_end : Result Endpoint Refusal → Result ℕ Refusal
    of_end (Err refusal) = Err refusal
    of_end (Ok local) = Ok (length octets)

-- the identification of the datagram behind one with this identification, modulo 2^16 (RFC 791 section 3.1)
abbrev pub next_identification : ℕ → ℕ
next_identification identification = (identification + 1) % 2 ^ 16

-- The datagram stands behind the others that the socket sends, with the next identification, and waits since the kept moment. The socket is
-- bound where it sends from.
abbrev pub after_sendto : SocketsView → SocketId → Endpoint → List ℕ → Bool → SocketsView
after_sendto h id peer octets routed = of_end (end_sent_from h id peer octets routed)
  where
    of_end : Result Endpoint Refusal → SocketsView
    of_end (Err refusal) = h
    of_end (Ok local) = with_socket (record h { last_port = last_port_after h (option_and_then bound_of (role_of h id)) local.port; identification = next_identification h.identification }) id (role_after_sendto local h.kept peer h.identification octets)

-- what a receive into a buffer of this length answers: how many octets of the first datagram it is given, and where that is from
abbrev pub role_recvfrom_answer : Role → ℕ → Result (ℕ × Endpoint) Refusal
role_recvfrom_answer (Datagrams bound socket) len = if len == 0 then Err EINVAL else ok_or (read_answer socket.inbox len) EAGAIN
role_recvfrom_answer (Idle buffers bound) len = Err EOPNOTSUPP
role_recvfrom_answer (Listener local backlog) len = Err EOPNOTSUPP
role_recvfrom_answer (Connected c listener) len = Err EOPNOTSUPP

abbrev pub recvfrom_answer : SocketsView → SocketId → ℕ → Result (ℕ × Endpoint) Refusal
recvfrom_answer h id len = answer_at h id (λ role. role_recvfrom_answer role len)

-- what it leaves in a buffer: the octets of the first datagram as far as it goes, and what stood behind them
abbrev pub datagram_front : Role → List ℕ → List ℕ
datagram_front (Datagrams bound socket) buffer = if length buffer == 0 then buffer else read_buffer socket.inbox buffer
datagram_front (Idle buffers bound) buffer = buffer
datagram_front (Listener local backlog) buffer = buffer
datagram_front (Connected c listener) buffer = buffer

abbrev pub recvfrom_front : SocketsView → SocketId → List ℕ → List ℕ
recvfrom_front h id buffer = of_socket buffer (λ role. datagram_front role buffer) (role_of h id)

-- the datagram is gone, also the octets of it that the buffer had no room for
abbrev pub after_recvfrom : SocketsView → SocketId → SocketsView
after_recvfrom h id = with_socket h id role_after_recvfrom

-- What becomes of a datagram that comes: it goes to the UDP socket at its destination port, where there is one, and that one has room.
abbrev pub reception : SocketsView → UserDatagram → Reception
reception h d = of_entry (find (is_datagrams_at d.destination) h.entries)
  where
    of_entry : Option Entry → Reception
    of_entry None = NoSocket
    of_entry (Some e) = if has_room_to_receive (length d.payload) e.role then Queued else NoRoom

-- it stands behind the others that came for the socket, with the endpoint that it is from
abbrev pub after_reception : SocketsView → Addr → UserDatagram → SocketsView
after_reception h source d = of_reception (reception h d)
  where
    of_reception : Reception → SocketsView
    of_reception Queued = record h { entries = change_first (is_datagrams_at d.destination) (with_role (role_after_reception (record { addr = source; port = d.source }) d.payload)) h.entries }
    of_reception NoRoom = h
    of_reception NoSocket = h
