-- The datagram that octets spell, as the plain reading of them from left to right (RFC 791 section 3.1). The contract of
-- `Ipv4View::parse` does not rest on this page: it says what is read by the spelling alone.
use Rattle.std.specs.Prelude.{◌≡◌, ℕ, ◌+◌, ◌-◌, ◌*◌, ◌/◌, ◌%◌, ◌<◌, ◌≤◌, ◌^◌, ◌==◌, nat_lt, nat_le, Bool, not, ◌&&◌, ◌||◌, if◌then◌else◌, List, length, take, drop, slice_index, Option, Some, None, Result, Ok, Err}
use Rattle.byteorder.specs.Endian.{big_number}
use Rattle.inet_sum.specs.Sum.{sum_of}
use Rattle.ipv4.specs.declared.fault.Ipv4Fault.{Ipv4Fault}
use Rattle.ipv4.specs.declared.limits.TheConstants.{MAX_PAYLOAD}
use Rattle.ipv4.specs.declared.fault.Ipv4Fault.TheVariants.{IpHeader, IpSum}
use Rattle.ipv4.specs.Datagram.{Datagram, IsDatagram, header_octets}

-- the number of sixteen bits at a place
abbrev pub word_at : List ℕ → ℕ → ℕ
word_at octets at = big_number 2 (drop at octets)

-- the datagram of this header and this payload
abbrev pub datagram_of : List ℕ → List ℕ → Datagram
datagram_of header payload = record {
  service = slice_index header 1;
  identification = word_at header 4;
  reserved = word_at header 6 / 2 ^ 15 % 2 == 1;
  dont_fragment = word_at header 6 / 2 ^ 14 % 2 == 1;
  more_fragments = word_at header 6 / 2 ^ 13 % 2 == 1;
  offset = word_at header 6 % 2 ^ 13;
  ttl = slice_index header 8;
  protocol = slice_index header 9;
  checksum = word_at header 10;
  source = record { 0 = take 4 (drop 12 header) };
  destination = record { 0 = take 4 (drop 16 header) };
  options = drop 20 header;
  payload = payload;
}

-- this header and this payload are those of a datagram
pub record AreParts (header payload : List ℕ) : Type 0 where
  pub fields : IsDatagram (datagram_of header payload)
  pub spelled : header ≡ header_octets (datagram_of header payload)
  pub least : 20 ≤ length header
  pub total : length header + length payload < 2 ^ 16

-- the length of the header that octets tell, in octets
abbrev pub header_length_field : List ℕ → ℕ
header_length_field octets = 4 * (slice_index octets 0 % 16)

-- the lengths of the header and of the whole that octets tell, where they have room for these and each for what it holds
abbrev pub lengths_in : List ℕ → Option (ℕ × ℕ)
lengths_in octets =
    if nat_lt (length octets) 20 then None
    else if nat_lt (header_length_field octets) 20 || nat_lt (word_at octets 2) (header_length_field octets) || nat_lt (length octets) (word_at octets 2) then None
    else if slice_index octets 0 / 16 == 4 then Some (header_length_field octets, word_at octets 2)
    else None

-- whether a payload of this length has a place at this offset, in units of eight octets
abbrev pub has_place : Bool → ℕ → ℕ → Bool
has_place more_fragments offset len = (not more_fragments || (nat_lt 0 len && len % 8 == 0)) && nat_le (8 * offset + len) MAX_PAYLOAD

-- the datagram, if its payload has its place
abbrev pub placed : Datagram → Option Datagram
placed d = if has_place d.more_fragments d.offset (length d.payload) then Some d else None

-- the datagram of these lengths of header and whole, if there are such
abbrev pub datagram_with : List ℕ → Option (ℕ × ℕ) → Option Datagram
datagram_with octets None = None
datagram_with octets (Some (header, total)) = placed (datagram_of (take header octets) (take (total - header) (drop header octets)))

-- a datagram whose checksum is right, or the first fault
abbrev pub checked : Option Datagram → Result Datagram Ipv4Fault
checked None = Err IpHeader
checked (Some d) = if sum_of (header_octets d) == 65535 then Ok d else Err IpSum

-- the datagram that octets spell, or the first fault: one of the form comes before the checksum
abbrev pub datagram_in : List ℕ → Result Datagram Ipv4Fault
datagram_in octets = checked (datagram_with octets (lengths_in octets))
