-- The sums of what comes: what comes as IPv4 has a right sum in its header, and so has what it carries (RFC 791 section 3.1, RFC 9293 section 3.1, RFC 768, RFC 792). A checksum is right where all that it covers has the sum 0xFFFF:
-- that of its words of 16 bits, in one's complement (RFC 1071).
use Rattle.std.specs.Prelude.{◌≡◌, ◌⊎◌, ℕ, ◌+◌, List, [], ◌∷◌, ◌++◌, length}
use Rattle.byteorder.specs.Endian.{big_bytes}
use Rattle.inet_sum.specs.Sum.{sum_of}
use Rattle.ipv4.specs.declared.addr.Addr.{Addr}
use Rattle.ipv4.specs.Datagram.{Datagram, header_octets}
use Rattle.icmp.specs.Message.{spelling as message_octets}
use Rattle.udp.specs.Datagram.{HasForm, spelling}
use Rattle.tcp_segment.specs.Segment.{HasForm as HasFormOfSegment}
use Rattle.frames.specs.declared.meaning.Meaning.{Meaning}
use Rattle.frames.specs.declared.meaning.Meaning.TheVariants.{Arp, Tcp, Icmp, Udp}
use Rattle.frames.specs.Heard.{BringsDatagram}
use Rattle.host.specs.ConfigView.{ConfigView}
use Rattle.host_law.specs.Frames.{Comes}
use Rattle.host_law.specs.History.{Step}

-- the pseudo header of so many octets of a protocol between two addresses: source, destination, zero, protocol, length
abbrev pub pseudo_header : Addr → Addr → ℕ → ℕ → List ℕ
pseudo_header source destination protocol len = source.0 ++ destination.0 ++ 0 ∷ protocol ∷ [] ++ big_bytes 2 len

-- What a datagram of IPv4 carries is what is heard, and has a right sum: a segment behind its pseudo header, a message alone, and a UDP datagram that tells a checksum behind its pseudo header. A fragment has none of its own, and that of another protocol isn't known.
abbrev pub CarriesRightSum : Datagram → Meaning → Type 0
CarriesRightSum d (Tcp r) = HasFormOfSegment r.segment d.payload × (sum_of (pseudo_header d.source d.destination 6 (length d.payload) ++ d.payload) ≡ 65535)
CarriesRightSum d (Icmp m) = (d.payload ≡ message_octets m.message) × (sum_of d.payload ≡ 65535)
CarriesRightSum d (Udp r) = HasForm r.datagram d.payload × ((r.datagram.checksum ≡ 0) ⊎ (sum_of (pseudo_header d.source d.destination 17 (8 + length r.datagram.payload) ++ spelling r.datagram) ≡ 65535))
CarriesRightSum d _ = Unit {0}

-- the datagram of IPv4 in these octets, which is from another host for this one, has a right sum in its header, and so has what it carries
pub record HasRightSums (c : ConfigView) (octets : List ℕ) (meaning : Meaning) : Type 0 where
  pub d : Datagram
  pub brings : BringsDatagram c.mac c.addr octets d
  pub header : sum_of (header_octets d) ≡ 65535
  pub carried : CarriesRightSum d meaning

-- so it is with all but an ARP packet, which has no sum
abbrev pub AreRight : ConfigView → List ℕ → Meaning → Type 0
AreRight c octets (Arp packet) = Unit {0}
AreRight c octets meaning = HasRightSums c octets meaning

-- whatever comes has right sums
abbrev pub ComesWithRightSums : ConfigView → Step → List Step → Type 0
ComesWithRightSums c step earlier = (meaning : Meaning) (comes : Comes c meaning step) → AreRight c comes.octets meaning
