-- A datagram as this stack sends it (RFC 791 section 3.1).
use Rattle.std.specs.Prelude.{ℕ, List, [], false}
use Rattle.inet_sum.specs.Sum.{checksum_of}
use Rattle.ipv4.specs.declared.head.Head.{Head}
use Rattle.ipv4.specs.Datagram.{Datagram, header_octets}

-- with this checksum: type of service 0, time to live 64 (RFC 1122 section 3.2.1.7), no options
abbrev pub sent_with : Head → List ℕ → ℕ → Datagram
sent_with head payload checksum = record {
  service = 0;
  identification = head.identification;
  reserved = false;
  dont_fragment = head.dont_fragment;
  more_fragments = head.more_fragments;
  offset = head.offset;
  ttl = 64;
  protocol = head.protocol.0;
  checksum = checksum;
  source = head.source;
  destination = head.destination;
  options = [];
  payload = payload;
}

-- as it is sent: the checksum is that of the header with a checksum of zero
abbrev pub sent : Head → List ℕ → Datagram
sent head payload = sent_with head payload (checksum_of (header_octets (sent_with head payload 0)))
