-- The frames that go out (RFC 894): a segment or an ICMP message in a datagram that is no fragment (RFC 791 section 3.1), a part of
-- a UDP datagram (RFC 791 section 3.2), and an ARP packet (RFC 826).
use Rattle.std.specs.Prelude.{ℕ, ◌<◌, ◌≤◌, ◌^◌, List, length, false, true}
use Rattle.ether.specs.declared.mac.Mac.{Mac}
use Rattle.ether.specs.declared.head.Head.{Head as EtherHead}
use Rattle.ether.specs.Frame.{sent as frame_sent, spelling as frame_octets}
use Rattle.arp.specs.declared.packet.ArpPacket.{ArpPacket}
use Rattle.arp.specs.declared.packet.Operation.{Operation}
use Rattle.arp.specs.declared.packet.Operation.TheVariants.{Request, Reply}
use Rattle.arp.specs.Packet.{spelling as packet_octets}
use Rattle.ipv4.specs.declared.head.Head.{Head as Ipv4Head}
use Rattle.ipv4.specs.declared.limits.TheConstants.{PAYLOAD_IN_FRAME}
use Rattle.ipv4.specs.Datagram.{Datagram, HasPlace, spelling as datagram_octets}
use Rattle.ipv4.specs.Sent.{sent as datagram_sent}
use Rattle.udp.specs.declared.cutting.Part.{Part}
use Rattle.frames.specs.declared.emission.FrameHead.{FrameHead}
use Rattle.frames.specs.Meaning.{ipv4_type, arp_type, broadcast}

-- the octets of the frame of a datagram with this header, with the padding of a short one
abbrev pub framed : FrameHead → Ipv4Head → List ℕ → List ℕ
framed h head payload =
    let frame_head : EtherHead = record { destination = h.destination; source = h.source; kind = ipv4_type } in
    frame_octets (frame_sent frame_head (datagram_octets (datagram_sent head payload)))

-- the header of a datagram that carries this protocol: it isn't to be cut into fragments, so its identification is 0 (RFC 6864
-- section 4.1)
abbrev pub ipv4_head : FrameHead → ℕ → Ipv4Head
ipv4_head h protocol = record {
  source = h.from;
  destination = h.to;
  protocol = record { 0 = protocol };
  identification = 0;
  dont_fragment = true;
  more_fragments = false;
  offset = 0;
}

-- the datagram with these octets
abbrev pub datagram_of : FrameHead → ℕ → List ℕ → Datagram
datagram_of h protocol payload = datagram_sent (ipv4_head h protocol) payload

-- the octets of its frame
abbrev pub datagram_frame : FrameHead → ℕ → List ℕ → List ℕ
datagram_frame h protocol payload = framed h (ipv4_head h protocol) payload

-- the frame of a segment: TCP is protocol 6
abbrev pub segment_frame : FrameHead → List ℕ → List ℕ
segment_frame h segment = datagram_frame h 6 segment

-- the frame of an ICMP message: ICMP is protocol 1
abbrev pub message_frame : FrameHead → List ℕ → List ℕ
message_frame h message = datagram_frame h 1 message

-- the header of a part of a UDP datagram: UDP is protocol 17, and a part may be cut further on its way
abbrev pub part_head : FrameHead → Part → Ipv4Head
part_head h part = record {
  source = h.from;
  destination = h.to;
  protocol = record { 0 = 17 };
  identification = part.identification;
  dont_fragment = false;
  more_fragments = part.fragment.more_fragments;
  offset = part.fragment.offset;
}

-- the datagram of IPv4 with this part
abbrev pub part_datagram : FrameHead → Part → List ℕ → Datagram
part_datagram h part payload = datagram_sent (part_head h part) payload

-- the frame of a part
abbrev pub part_frame : FrameHead → Part → List ℕ → List ℕ
part_frame h part payload = framed h (part_head h part) payload

-- octets that a part can have: IPv4 has a place for so many where the part stands, and a frame has room for them
pub record IsPart (part : Part) (octets : List ℕ) : Type 0 where
  pub identification : part.identification < 2 ^ 16
  pub place : HasPlace part.fragment.more_fragments part.fragment.offset (length octets)
  pub most : length octets ≤ PAYLOAD_IN_FRAME

-- a request is for all of the link, a reply for its target
abbrev pub packet_destination : Operation → Mac → Mac
packet_destination Request target = broadcast
packet_destination Reply target = target

-- the octets of the frame of a packet, from its sender's interface
abbrev pub packet_frame : ArpPacket → List ℕ
packet_frame p =
    let head : EtherHead = record { destination = packet_destination p.operation p.target_mac; source = p.sender_mac; kind = arp_type } in
    frame_octets (frame_sent head (packet_octets p))
