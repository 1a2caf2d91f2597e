-- An IPv4 datagram, and the octets that spell it (RFC 791 section 3.1).
use Rattle.std.specs.Prelude.{◌≡◌, ℕ, ◌+◌, ◌*◌, ◌/◌, ◌%◌, ◌<◌, ◌≤◌, ◌^◌, List, [], ◌∷◌, ◌++◌, length, Bool, IsTrue, if◌then◌else◌, Result, Ok, Err}
use Rattle.byteorder.specs.Endian.{big_bytes}
use Rattle.inet_sum.specs.Sum.{sum_of}
use Rattle.ipv4.specs.declared.addr.Addr.{Addr}
use Rattle.ipv4.specs.declared.limits.TheConstants.{MAX_PAYLOAD}
use Rattle.ipv4.specs.declared.fault.Ipv4Fault.{Ipv4Fault}
use Rattle.ipv4.specs.declared.fault.Ipv4Fault.TheVariants.{IpHeader, IpSum}

-- What a datagram says. The offset counts units of eight octets; the options are octets, which this stack skips.
pub record Datagram : Type 0 where
  pub service : ℕ
  pub identification : ℕ
  pub reserved : Bool
  pub dont_fragment : Bool
  pub more_fragments : Bool
  pub offset : ℕ
  pub ttl : ℕ
  pub protocol : ℕ
  pub checksum : ℕ
  pub source : Addr
  pub destination : Addr
  pub options : List ℕ
  pub payload : List ℕ

-- the length of its header, in octets
abbrev pub header_len : Datagram → ℕ
header_len d = 20 + length d.options

-- its total length, in octets: header and payload
abbrev pub total_len : Datagram → ℕ
total_len d = header_len d + length d.payload

-- what a bit is worth where it is set
abbrev pub flag : Bool → ℕ → ℕ
flag set worth = if set then worth else 0

-- the flags and the fragment offset, as one number of sixteen bits
abbrev pub fragment_field : Datagram → ℕ
fragment_field d = flag d.reserved 32768 + flag d.dont_fragment 16384 + flag d.more_fragments 8192 + d.offset

-- The octets of a header: version 4 and the header's length in words of four octets, type of service, total length,
-- identification, flags and offset, time to live, protocol, checksum, source, destination, options.
abbrev pub header_octets : Datagram → List ℕ
header_octets d =
    (16 * 4 + header_len d / 4) ∷ d.service ∷ [] ++ big_bytes 2 (total_len d)
    ++ big_bytes 2 d.identification ++ big_bytes 2 (fragment_field d)
    ++ d.ttl ∷ d.protocol ∷ [] ++ big_bytes 2 d.checksum
    ++ d.source.0 ++ d.destination.0 ++ d.options

-- the octets of a datagram
abbrev pub spelling : Datagram → List ℕ
spelling d = header_octets d ++ d.payload

-- A payload of this length has a place at this offset (in units of eight octets): where more fragments follow, it is some
-- whole units (RFC 791 section 3.2), and it ends where the payload of the longest datagram ends at the latest. That bound,
-- 65,515 octets, is this stack's own.
pub record HasPlace (more_fragments : Bool) (offset len : ℕ) : Type 0 where
  pub units : IsTrue more_fragments → (0 < len) × (len % 8 ≡ 0)
  pub reach : 8 * offset + len ≤ MAX_PAYLOAD

-- each field is a number of its width, the options fill up words, and the payload has its place
pub record IsDatagram (d : Datagram) : Type 0 where
  pub service : d.service < 2 ^ 8
  pub identification : d.identification < 2 ^ 16
  pub offset : d.offset < 2 ^ 13
  pub ttl : d.ttl < 2 ^ 8
  pub protocol : d.protocol < 2 ^ 8
  pub checksum : d.checksum < 2 ^ 16
  pub source : length d.source.0 ≡ 4
  pub destination : length d.destination.0 ≡ 4
  pub words : length d.options % 4 ≡ 0
  pub header : header_len d ≤ 60
  pub total : total_len d < 2 ^ 16
  pub place : HasPlace d.more_fragments d.offset (length d.payload)

-- The octets have the form of this datagram, whatever its checksum. Behind the total length anything may stand: the padding
-- of a short frame.
pub record HasForm (d : Datagram) (octets : List ℕ) : Type 0 where
  pub padding : List ℕ
  pub fields : IsDatagram d
  pub spelled : octets ≡ spelling d ++ padding

-- the checksum is right: the header, with its options, has the sum 0xFFFF
abbrev pub SumIsRight : Datagram → Type 0
SumIsRight d = sum_of (header_octets d) ≡ 65535

-- the octets spell this datagram
pub record Spells (d : Datagram) (octets : List ℕ) : Type 0 where
  pub form : HasForm d octets
  pub sum : SumIsRight d

-- What is made of octets: the datagram that they spell, or the first fault. A fault of the form comes first, whatever the
-- checksum is.
abbrev pub IsParsed : List ℕ → Result Datagram Ipv4Fault → Type 0
IsParsed octets (Ok d) = Spells d octets
IsParsed octets (Err IpHeader) = (d : Datagram) → HasForm d octets → ⊥
IsParsed octets (Err IpSum) = (d : Datagram) × HasForm d octets × (SumIsRight d → ⊥)
