-- What a host owes to what it hears, in words of its own.
use Rattle.std.specs.Prelude.{◌≡◌, ◌⊎◌, ℕ, ◌<◌, Bool, List, [], ◌∷◌, ◌++◌, find, Option, Some, Err}
use Rattle.ipv4.specs.declared.addr.Addr.{Addr}
use Rattle.ipv4.specs.declared.addr.Endpoint.{Endpoint}
use Rattle.icmp.specs.Message.{Message}
use Rattle.udp.specs.Datagram.{UserDatagram}
use Rattle.udp_socket.specs.SocketView.{SocketView}
use Rattle.sockets.specs.declared.entry.SocketId.{SocketId}
use Rattle.sockets.specs.declared.role.Role.TheVariants.{Datagrams}
use Rattle.sockets.specs.declared.refusal.Refusal.{Refusal}
use Rattle.sockets.specs.Calls.{connect_refusal, send_answer, recv_answer, shutdown_refusal}
use Rattle.sockets.specs.Entries.{is_datagrams_at}
use Rattle.sockets.specs.SocketsView.{SocketsView}
use Rattle.host.specs.HostView.{HostView}

-- a UDP socket has the datagram behind the others that came for it, with the address and the port that it is from, and is as it was otherwise (RFC 768)
abbrev pub HasBehindOthers : SocketId → Option Endpoint → SocketView → Addr → UserDatagram → HostView → Type 0
HasBehindOthers id bound socket source d new =
    find (is_datagrams_at d.destination) new.sockets.entries
    ≡ Some (record { id = id; role = Datagrams bound (record socket { inbox = socket.inbox ++ record { endpoint = record { addr = source; port = d.source }; octets = d.payload } ∷ [] }) })

-- a destination that can't be reached (type 3), for want of the protocol (2) or of the port (3), or since a datagram that isn't to be cut had to be
-- (4): such an error won't pass by itself (RFC 792, RFC 1122 section 4.2.3.9)
pub record IsHardError (m : Message) : Type 0 where
  pub kind : m.kind ≡ 3
  pub code : (m.code ≡ 2) ⊎ ((m.code ≡ 3) ⊎ (m.code ≡ 4))

-- each call of the socket is refused with this: a connect, a send, the receipt of one octet or more, a shutdown
pub record IsToldByEachCall (h : SocketsView) (id : SocketId) (refusal : Refusal) : Type 0 where
  pub connect : (peer : Endpoint) (routed : Bool) → connect_refusal h id peer routed ≡ Some refusal
  pub send : (octets : List ℕ) → send_answer h id octets ≡ Err refusal
  pub recv : (len : ℕ) → 0 < len → recv_answer h id len ≡ Err refusal
  pub shutdown : shutdown_refusal h id ≡ Some refusal
