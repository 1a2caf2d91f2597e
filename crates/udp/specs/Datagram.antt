-- A UDP datagram, and the octets that spell it (RFC 768).
use Rattle.std.specs.Prelude.{◌≡◌, ℕ, ◌+◌, ◌<◌, ◌^◌, ◌⊎◌, List, ◌++◌, length, Result, Ok, Err}
use Rattle.byteorder.specs.Endian.{big_bytes}
use Rattle.inet_sum.specs.Sum.{sum_of}
use Rattle.ipv4.specs.declared.addr.Addr.{Addr}
use Rattle.ipv4.specs.Sums.{summed_for}
use Rattle.udp.specs.declared.fault.UdpFault.{UdpFault}
use Rattle.udp.specs.declared.fault.UdpFault.TheVariants.{UpperHeader, UpperSum}

-- what a UDP datagram says: the ports, the checksum, where 0 says that there is none, and the payload
pub record UserDatagram : Type 0 where
  pub source : ℕ
  pub destination : ℕ
  pub checksum : ℕ
  pub payload : List ℕ

-- its length in octets: the header of eight and the payload
abbrev pub datagram_len : UserDatagram → ℕ
datagram_len d = 8 + length d.payload

-- the octets of a header: source port, destination port, length, checksum
abbrev pub header_octets : UserDatagram → List ℕ
header_octets d = big_bytes 2 d.source ++ big_bytes 2 d.destination ++ big_bytes 2 (datagram_len d) ++ big_bytes 2 d.checksum

-- the octets of a UDP datagram
abbrev pub spelling : UserDatagram → List ℕ
spelling d = header_octets d ++ d.payload

-- each field is a number of 16 bits
pub record IsDatagram (d : UserDatagram) : Type 0 where
  pub source : d.source < 2 ^ 16
  pub destination : d.destination < 2 ^ 16
  pub len : datagram_len d < 2 ^ 16
  pub checksum : d.checksum < 2 ^ 16

-- The octets have the form of this UDP datagram, whatever its checksum. Behind its length anything may stand: padding.
pub record HasForm (d : UserDatagram) (octets : List ℕ) : Type 0 where
  pub padding : List ℕ
  pub fields : IsDatagram d
  pub spelled : octets ≡ spelling d ++ padding

-- what the checksum covers: the pseudo header of a UDP datagram of this length, and its octets
abbrev pub summed : Addr → Addr → List ℕ → List ℕ
summed src dst octets = summed_for 17 src dst octets

-- there is no checksum, or it is right: all that it covers has the sum 0xFFFF
abbrev pub SumIsRight : Addr → Addr → UserDatagram → Type 0
SumIsRight src dst d = (d.checksum ≡ 0) ⊎ (sum_of (summed src dst (spelling d)) ≡ 65535)

-- the octets that came from src for dst spell this UDP datagram
pub record Spells (src dst : Addr) (d : UserDatagram) (octets : List ℕ) : Type 0 where
  pub form : HasForm d octets
  pub sum : SumIsRight src dst d

-- What is made of octets: the UDP datagram that they spell, or the first fault. A fault of the form comes first, whatever
-- the checksum is.
abbrev pub IsParsed : Addr → Addr → List ℕ → Result UserDatagram UdpFault → Type 0
IsParsed src dst octets (Ok d) = Spells src dst d octets
IsParsed src dst octets (Err UpperHeader) = (d : UserDatagram) → HasForm d octets → ⊥
IsParsed src dst octets (Err UpperSum) = (d : UserDatagram) × HasForm d octets × (SumIsRight src dst d → ⊥)
