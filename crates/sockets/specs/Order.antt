-- The order of the table: its ids, its ports, and the ends of its connections (RFC 9293 section 3.4.1: a connection is defined by a pair of sockets).
use Rattle.std.specs.Prelude.{◌≡◌, ◌≤◌, ◌==◌, ℕ, Bool, true, false, count_by, is_ok, Some, None}
use Rattle.std.specs.List.{AllByRecursion}
use Rattle.ipv4.specs.declared.addr.Addr.{Addr}
use Rattle.ipv4.specs.declared.addr.Endpoint.{Endpoint}
use Rattle.ipv4.specs.Addresses.{same_addr}
use Rattle.sockets.specs.declared.entry.Entry.{Entry}
use Rattle.sockets.specs.declared.role.Role.{Role}
use Rattle.sockets.specs.declared.role.Role.TheVariants.{Idle, Listener, Connected, Datagrams}
use Rattle.sockets.specs.Entries.{is_between, is_datagrams_at}
use Rattle.sockets.specs.Ids.{AreAscending}
use Rattle.sockets.specs.SocketsView.{SocketsView, room_of}
use Rattle.sockets.specs.Ports.{IsDynamic}
use Rattle.sockets.specs.Calls.{is_table_full, bind_refusal, listen_refusal, accept_answer, connect_refusal, send_answer, recv_answer, shutdown_refusal, nodelay_refusal, keepalive_refusal, close_refusal}
use Rattle.sockets.specs.Datagrams.{sendto_answer, recvfrom_answer}
use Rattle.sockets.specs.Causes.{Event, Makes, MakesDatagrams, Binds, Listens, Accepts, Connects, Sends, Receives, Shuts, SetsNoDelay, SetsKeepAlive, Leaves, Ticks, Hears, Emits, GivesUp, GivesWay, Unreachable, SendsTo, ReceivesFrom, HearsDatagram}

-- bound to the port over TCP without a connection, or a listener at it
abbrev pub has_for_itself : ℕ → Role → Bool
has_for_itself port (Idle buffers (Some local)) = local.port == port
has_for_itself port (Idle buffers None) = false
has_for_itself port (Listener local backlog) = local.port == port
has_for_itself port (Connected c listener) = false
has_for_itself port (Datagrams bound socket) = false

abbrev pub is_alone_at : ℕ → Entry → Bool
is_alone_at port e = has_for_itself port e.role

-- a connection lies between this address and another one
abbrev pub LiesAt : Addr → Role → Type 0
LiesAt own (Connected c listener) = (c.local.addr ≡ own) × (same_addr c.peer.addr own ≡ false)
LiesAt own (Listener local backlog) = Unit {0}
LiesAt own (Idle buffers bound) = Unit {0}
LiesAt own (Datagrams bound socket) = Unit {0}

-- Ids ascend from 1 to the last one given. At most one connection that is not CLOSED lies between any two ends, and at most one TCP
-- socket without a connection is bound to a port or listens at it, and at most one UDP socket is bound to it. Each connection lies between the table's address and another one,
-- and the port given last is dynamic.
pub record IsOrdered (h : SocketsView) : Type 0 where
  pub ids : AreAscending 0 h.last_id h.entries
  pub ends : (local peer : Endpoint) → count_by (is_between local peer) h.entries ≤ 1
  pub ports : (port : ℕ) → count_by (is_alone_at port) h.entries ≤ 1
  pub datagram_ports : (port : ℕ) → count_by (is_datagrams_at port) h.entries ≤ 1
  pub own : AllByRecursion (λ (e : Entry). LiesAt h.addr e.role) h.entries
  pub last_port : IsDynamic h.last_port

-- a call is not refused, and makes buffers of the table's own size, and a segment doesn't come from our own address
abbrev pub IsAllowed : SocketsView → Event → Type 0
IsAllowed h (Makes buffers) = (is_table_full h ≡ false) × (buffers ≡ room_of h.sizes.buffer h.manner)
IsAllowed h MakesDatagrams = is_table_full h ≡ false
IsAllowed h (Binds id local) = bind_refusal h id local ≡ None
IsAllowed h (Listens id backlog) = listen_refusal h id backlog ≡ None
IsAllowed h (Accepts id) = is_ok (accept_answer h id) ≡ true
IsAllowed h (Connects now isn id peer routed) = connect_refusal h id peer routed ≡ None
IsAllowed h (Sends id octets) = is_ok (send_answer h id octets) ≡ true
IsAllowed h (Receives id len) = is_ok (recv_answer h id len) ≡ true
IsAllowed h (Shuts id) = shutdown_refusal h id ≡ None
IsAllowed h (SetsNoDelay id on) = nodelay_refusal h id ≡ None
IsAllowed h (SetsKeepAlive id every) = keepalive_refusal h id every ≡ None
IsAllowed h (Leaves how id) = close_refusal h id ≡ None
IsAllowed h (Ticks now) = Unit {0}
IsAllowed h (Hears now isn source s) = same_addr source h.addr ≡ false
IsAllowed h (Emits goes now) = Unit {0}
IsAllowed h (GivesUp lost now) = Unit {0}
IsAllowed h (GivesWay meant) = Unit {0}
IsAllowed h (Unreachable local peer number) = Unit {0}
IsAllowed h (SendsTo id peer octets routed) = is_ok (sendto_answer h id peer octets routed) ≡ true
IsAllowed h (ReceivesFrom id len) = is_ok (recvfrom_answer h id len) ≡ true
IsAllowed h (HearsDatagram source d) = Unit {0}
