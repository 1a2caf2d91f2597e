-- What of an accepted datagram a datagram of IPv4 carries: the whole, or a fragment (RFC 791 section 3.2).
use Rattle.std.specs.Prelude.{◌≡◌, ℕ, List}
use Rattle.std.specs.List.{Any}
use Rattle.ipv4.specs.declared.addr.Addr.{Addr}
use Rattle.ipv4.specs.declared.addr.Endpoint.{Endpoint}
use Rattle.ipv4.specs.Datagram.{Datagram}
use Rattle.udp.specs.Datagram.{spelling}
use Rattle.udp.specs.declared.cutting.Part.{Part}
use Rattle.udp_socket.specs.SocketView.{Outgoing}
use Rattle.reassembly.specs.Parts.{IsPartOf}
use Rattle.datagram_law.specs.Accepted.{Accepted, datagram_of}

-- it is the whole of this one, or a fragment of it: between its addresses, with its identification, and with octets of its spelling
pub record IsOf (a : Accepted) (d : Datagram) : Type 0 where
  pub source : d.source ≡ a.source.addr
  pub destination : d.destination ≡ a.peer.addr
  pub protocol : d.protocol ≡ 17
  pub identification : d.identification ≡ a.identification
  pub part : IsPartOf (spelling (datagram_of a)) d

-- it is of one of them
abbrev pub IsOfOne : List Accepted → Datagram → Type 0
IsOfOne accepted d = Any (λ a. IsOf a d) accepted

-- it is of one of them whose whole spelling is this payload
abbrev pub IsWholeOfOne : List Accepted → Datagram → List ℕ → Type 0
IsWholeOfOne accepted d payload = Any (λ a. IsOf a d × (payload ≡ spelling (datagram_of a))) accepted

-- what waits in a socket that is bound to this endpoint, as it was accepted
abbrev pub accepted_of : Endpoint → Outgoing → Accepted
accepted_of source o = record { source = source; peer = o.peer; identification = o.identification; octets = o.octets }

-- the datagram of IPv4 that carries these octets of a UDP datagram between these addresses, as is told of this part
pub record Carries (from to : Addr) (part : Part) (octets : List ℕ) (d : Datagram) : Type 0 where
  pub source : d.source ≡ from
  pub destination : d.destination ≡ to
  pub protocol : d.protocol ≡ 17
  pub identification : d.identification ≡ part.identification
  pub more_fragments : d.more_fragments ≡ part.fragment.more_fragments
  pub offset : d.offset ≡ part.fragment.offset
  pub payload : d.payload ≡ octets
