-- What a socket's call comes to where nothing stands against it, in the words of POSIX.
use Rattle.std.specs.Prelude.{◌≡◌, ◌≢◌, ◌⊎◌, ◌≤◌, ℕ, Bool, true, false, List, length, Option, Some, None, is_some}
use Rattle.ipv4.specs.declared.addr.Endpoint.{Endpoint}
use Rattle.ipv4.specs.Addresses.{is_unicast, same_addr}
use Rattle.tcp_halves.specs.declared.buffers.Buffers.{Buffers}
use Rattle.tcp_state.specs.declared.state.State.TheVariants.{SynReceived, TimeWait}
use Rattle.tcp_state.specs.View.{View}
use Rattle.udp_socket.specs.SocketView.{SocketView}
use Rattle.sockets.specs.declared.entry.SocketId.{SocketId}
use Rattle.sockets.specs.declared.role.Role.{Role}
use Rattle.sockets.specs.declared.role.Role.TheVariants.{Idle, Connected, Datagrams}
use Rattle.sockets.specs.Calls.{any_addr, is_pair_held}
use Rattle.sockets.specs.Entries.{has_room_to_send}
use Rattle.sockets.specs.Ports.{IsDynamic, is_free_port, is_unused_port, is_free_datagram_port}
use Rattle.sockets.specs.SocketsView.{SocketsView, role_of}

-- From the port of a bound socket no connection goes to the peer; or one that isn't bound finds a dynamic port that is free.
abbrev pub HasPort : SocketsView → Option Endpoint → Endpoint → Type 0
HasPort h (Some local) peer = is_pair_held h local.port peer ≡ false
HasPort h None peer = (port : ℕ) × IsDynamic port × (is_free_port h.entries h.addr peer port ≡ true)

-- A `connect` opens a connection: the id names a TCP socket that has none and doesn't listen, the peer is a port of a single host that isn't this one, a route leads there, and there is a port to go from.
pub record MayConnect (h : SocketsView) (id : SocketId) (peer : Endpoint) (routed : Bool) : Type 0 where
  pub buffers : Buffers
  pub bound : Option Endpoint
  pub idle : role_of h id ≡ Some (Idle buffers bound)
  pub port : peer.port ≢ 0
  pub single : is_unicast peer.addr ≡ true
  pub another : same_addr peer.addr h.addr ≡ false
  pub way : routed ≡ true
  pub free : HasPort h bound peer

-- The address may be bound: it is our own, or 0.0.0.0, which stands for it; and the port is free, or in place of port 0 some dynamic one is.
pub record MayBeAt (h : SocketsView) (is_free : ℕ → Bool) (local : Endpoint) : Type 0 where
  pub addr : (same_addr local.addr h.addr ≡ true) ⊎ (same_addr local.addr any_addr ≡ true)
  pub free : ((local.port ≢ 0) × (is_free local.port ≡ true)) ⊎ ((local.port ≡ 0) × ((port : ℕ) × IsDynamic port × (is_free port ≡ true)))

-- A `bind` binds: the id names a socket that isn't bound, of TCP without a connection or of UDP, and it may be at that address and port. Each of both has ports of its own.
abbrev pub MayBind : SocketsView → SocketId → Endpoint → Type 0
MayBind h id local =
    ((buffers : Buffers) × (role_of h id ≡ Some (Idle buffers None)) × MayBeAt h (is_unused_port h.entries) local)
    ⊎ ((socket : SocketView) × (role_of h id ≡ Some (Datagrams None socket)) × MayBeAt h (is_free_datagram_port h.entries) local)

-- A `listen` is taken: the id names a TCP socket that is bound, without a connection, and the backlog is 1 to 8.
pub record MayListen (h : SocketsView) (id : SocketId) (backlog : ℕ) : Type 0 where
  pub buffers : Buffers
  pub bound : Endpoint
  pub idle : role_of h id ≡ Some (Idle buffers (Some bound))
  pub some : 1 ≤ backlog
  pub few : backlog ≤ 8

-- A `sendto` takes its octets: the id names a UDP socket, they are 65,507 at most, which is all that a datagram has room for (RFC 768, RFC 791), the peer is as that of a `connect`, the socket is bound or some dynamic port is free, and it has room for them.
pub record MaySendTo (h : SocketsView) (id : SocketId) (peer : Endpoint) (octets : List ℕ) (routed : Bool) : Type 0 where
  pub bound : Option Endpoint
  pub socket : SocketView
  pub is : role_of h id ≡ Some (Datagrams bound socket)
  pub few : length octets ≤ 65507
  pub port : peer.port ≢ 0
  pub single : is_unicast peer.addr ≡ true
  pub another : same_addr peer.addr h.addr ≡ false
  pub way : routed ≡ true
  pub from : (is_some bound ≡ true) ⊎ ((port : ℕ) × IsDynamic port × (is_free_datagram_port h.entries port ≡ true))
  pub room : has_room_to_send (length octets) (Datagrams bound socket) ≡ true

-- a connection that is half open, which a listener opened, or in TIME-WAIT, which its caller closed
pub record MayBeGiven (role : Role) : Type 0 where
  pub c : View
  pub listener : Option SocketId
  pub is : role ≡ Connected c listener
  pub stands : ((c.state ≡ SynReceived) × (c.passive ≡ true)) ⊎ ((c.state ≡ TimeWait) × (c.released ≡ true))
