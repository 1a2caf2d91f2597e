-- A UDP datagram as this stack sends it (RFC 768).
use Rattle.std.specs.Prelude.{◌≡◌, ℕ, ◌==◌, List, length, if◌then◌else◌}
use Rattle.inet_sum.specs.Sum.{checksum_of}
use Rattle.ipv4.specs.declared.addr.Addr.{Addr}
use Rattle.udp.specs.declared.head.Head.{Head}
use Rattle.udp.specs.Datagram.{UserDatagram, IsDatagram, spelling, summed}

-- with this checksum
abbrev pub sent_with : Head → List ℕ → ℕ → UserDatagram
sent_with head payload checksum = record {
  source = head.source;
  destination = head.destination;
  checksum = checksum;
  payload = payload;
}

-- a checksum in the place of none: its other spelling in one's complement, 0xFFFF, where it is 0
abbrev pub checksum_field : ℕ → ℕ
checksum_field checksum = if checksum == 0 then 65535 else checksum

-- as it is sent: the checksum is that of the pseudo header and the datagram with a checksum of zero
abbrev pub sent : Addr → Addr → Head → List ℕ → UserDatagram
sent src dst head payload =
    sent_with head payload (checksum_field (checksum_of (summed src dst (spelling (sent_with head payload 0)))))

-- a UDP datagram that can be sent: its fields are of their width, and the addresses have four octets
pub record CanBeSent (src dst : Addr) (head : Head) (payload : List ℕ) : Type 0 where
  pub src_octets : length src.0 ≡ 4
  pub dst_octets : length dst.0 ≡ 4
  pub fields : IsDatagram (sent src dst head payload)
