-- The UDP datagrams that a host accepted from its callers, the first one first (RFC 768).
use Rattle.std.specs.Prelude.{◌≡◌, ℕ, ◌%◌, ◌<◌, ◌≤◌, ◌^◌, List, length, slice_get, All, Some}
use Rattle.std.specs.List.{Any}
use Rattle.ipv4.specs.declared.addr.Endpoint.{Endpoint}
use Rattle.udp.specs.declared.head.Head.{Head}
use Rattle.udp.specs.Datagram.{UserDatagram}
use Rattle.udp.specs.Sent.{sent}

-- one of them: from this endpoint of the host for that peer, the identification of its fragments, and its octets
pub record Accepted : Type 0 where
  pub source : Endpoint
  pub peer : Endpoint
  pub identification : ℕ
  pub octets : List ℕ

-- its header
abbrev pub head_of : Accepted → Head
head_of a = record { source = a.source.port; destination = a.peer.port }

-- the UDP datagram as it goes out
abbrev pub datagram_of : Accepted → UserDatagram
datagram_of a = sent a.source.addr a.peer.addr (head_of a) a.octets

-- addresses of four octets, ports of sixteen bits, and no more octets than a datagram of IPv4 can carry
pub record IsInWidths (a : Accepted) : Type 0 where
  pub source_addr : length a.source.addr.0 ≡ 4
  pub source_port : a.source.port < 2 ^ 16
  pub peer_addr : length a.peer.addr.0 ≡ 4
  pub peer_port : a.peer.port < 2 ^ 16
  pub len : length a.octets ≤ 65507

-- The identifications are drawn in turn, one for each: the n-th, from 0 on, has n, and after 65,535 comes 0 again (RFC 791 section 3.2).
pub record AreInTurn (accepted : List Accepted) : Type 0 where
  pub numbered : (n : ℕ) (a : Accepted) → slice_get accepted n ≡ Some a → a.identification ≡ n % 65536
  pub widths : All IsInWidths accepted

-- as many may be accepted before an identification is used again
abbrev pub AreFew : List Accepted → Type 0
AreFew accepted = length accepted ≤ 65536

-- one of them is from this source for this endpoint, and has these octets
abbrev pub CameFrom : List Accepted → Endpoint → Endpoint → List ℕ → Type 0
CameFrom accepted source local octets = Any (λ a. (a.source ≡ source) × (a.peer ≡ local) × (a.octets ≡ octets)) accepted
