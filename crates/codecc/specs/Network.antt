-- Datagrams of IPv4 as they are told and written (RFC 791 section 3.1).
use Rattle.std.specs.Prelude.{ℕ, ◌+◌, ◌*◌, ◌/◌, ◌%◌, ◌==◌, ◌&&◌, nat_lt, nat_le, Bool, List, [], ◌∷◌, ◌++◌, length, slice_range}
use Rattle.byteorder.specs.Endian.{big_bytes}
use Rattle.inet_sum.specs.Sum.{checksum_of}
use Rattle.ipv4.specs.Datagram.{Datagram, header_len, flag}
use Rattle.ipv4.specs.Reading.{has_place}
use Rattle.codecc.specs.declared.types.CodecIpv4.{CodecIpv4}
use Rattle.codecc.specs.Calls.{addr_of, number_of}

-- a datagram as it is told: its payload begins behind the header
abbrev pub told_datagram : Datagram → CodecIpv4
told_datagram d = record {
  source = number_of d.source;
  destination = number_of d.destination;
  header_len = header_len d;
  payload_len = length d.payload;
  identification = d.identification;
  offset = d.offset;
  checksum = d.checksum;
  flags = flag d.reserved 4 + flag d.dont_fragment 2 + flag d.more_fragments 1;
  service = d.service;
  ttl = d.ttl;
  protocol = d.protocol;
}

-- whether a flag is set, by what it is worth
abbrev pub is_set : ℕ → ℕ → Bool
is_set flags worth = flags / worth % 2 == 1

-- the lengths that a header may have: five to fifteen words
abbrev pub is_header_len : ℕ → Bool
is_header_len len = nat_le 20 len && nat_le len 60 && len % 4 == 0

abbrev pub datagram_len : CodecIpv4 → ℕ
datagram_len c = c.header_len + c.payload_len

-- the fields that a header has room for, of a payload that has its place
abbrev pub datagram_fits : CodecIpv4 → Bool
datagram_fits c =
    is_header_len c.header_len && nat_lt c.flags 8 && nat_lt (datagram_len c) 65536
    && has_place (is_set c.flags 1) c.offset c.payload_len

-- The octets of a header before its options: version 4 and its length in words, type of service, total length, identification, flags and
-- offset, time to live, protocol, checksum, source, destination.
abbrev pub fixed_header : CodecIpv4 → ℕ → List ℕ
fixed_header c checksum =
    (64 + c.header_len / 4) ∷ c.service ∷ [] ++ big_bytes 2 (datagram_len c)
    ++ big_bytes 2 c.identification ++ big_bytes 2 (8192 * c.flags + c.offset)
    ++ c.ttl ∷ c.protocol ∷ [] ++ big_bytes 2 checksum
    ++ (addr_of c.source).0 ++ (addr_of c.destination).0

-- the checksum before these options: that of the whole header with a checksum of zero
abbrev pub header_checksum : CodecIpv4 → List ℕ → ℕ
header_checksum c options = checksum_of (fixed_header c 0 ++ options)

-- the same before the options that stand in a buffer
abbrev pub written_header : CodecIpv4 → List ℕ → List ℕ
written_header c old = fixed_header c (header_checksum c (slice_range old 20 c.header_len))

-- the datagram that a struct says, with these options and this payload
abbrev pub datagram_of : CodecIpv4 → List ℕ → List ℕ → Datagram
datagram_of c options payload = record {
  service = c.service;
  identification = c.identification;
  reserved = is_set c.flags 4;
  dont_fragment = is_set c.flags 2;
  more_fragments = is_set c.flags 1;
  offset = c.offset;
  ttl = c.ttl;
  protocol = c.protocol;
  checksum = c.checksum;
  source = addr_of c.source;
  destination = addr_of c.destination;
  options = options;
  payload = payload;
}
