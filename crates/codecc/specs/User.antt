-- UDP datagrams as they are told and written (RFC 768).
use Rattle.std.specs.Prelude.{ℕ, ◌+◌, ◌==◌, nat_lt, Bool, if◌then◌else◌, List, ◌++◌, length, slice_range}
use Rattle.byteorder.specs.Endian.{big_bytes}
use Rattle.inet_sum.specs.Sum.{checksum_of}
use Rattle.ipv4.specs.declared.addr.Addr.{Addr}
use Rattle.udp.specs.Datagram.{UserDatagram, summed}
use Rattle.udp.specs.Sent.{checksum_field}
use Rattle.codecc.specs.declared.types.CodecUdp.{CodecUdp}

-- a UDP datagram as it is told: its payload begins behind 8 octets
abbrev pub told_user_datagram : UserDatagram → CodecUdp
told_user_datagram d = record {
  source = d.source;
  destination = d.destination;
  payload_len = length d.payload;
  checksum = d.checksum;
  unsummed = if d.checksum == 0 then 1 else 0;
}

abbrev pub user_datagram_len : CodecUdp → ℕ
user_datagram_len c = 8 + c.payload_len

-- a length that the header can say
abbrev pub user_datagram_fits : CodecUdp → Bool
user_datagram_fits c = nat_lt (user_datagram_len c) 65536

-- the octets of its header, with this checksum: source port, destination port, length, checksum
abbrev pub user_header : CodecUdp → ℕ → List ℕ
user_header c checksum = big_bytes 2 c.source ++ big_bytes 2 c.destination ++ big_bytes 2 (user_datagram_len c) ++ big_bytes 2 checksum

-- The checksum before this payload: that of the pseudo header and the datagram with a checksum of zero, 0xFFFF where it is 0. It is 0 where there
-- is to be none.
abbrev pub user_checksum : Addr → Addr → CodecUdp → List ℕ → ℕ
user_checksum src dst c payload =
    if c.unsummed == 0 then checksum_field (checksum_of (summed src dst (user_header c 0 ++ payload))) else 0

-- its header before the payload that stands in a buffer
abbrev pub written_user_header : Addr → Addr → CodecUdp → List ℕ → List ℕ
written_user_header src dst c old = user_header c (user_checksum src dst c (slice_range old 8 (user_datagram_len c)))
