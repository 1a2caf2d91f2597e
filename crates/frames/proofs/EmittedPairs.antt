-- The pair of what goes out.
use Rattle.std.proofs.Common.{◌≡◌, ℕ, ◌+◌, ◌*◌, ◌≤◌, ◌==◌, ◌&&◌, not, Bool, true, false, cond, List, ◌++◌, length, Some, None, Result, Ok, Err, arith, refl, ◌∙◌, ap}
use Rattle.ether.specs.declared.head.Head.{Head as EtherHead}
use Rattle.ether.specs.Frame.{Frame, padding, sent as frame_sent}
use Rattle.ether.specs.Reading.{frame_in}
use Rattle.ether.proofs.Answering.{sent_spelled as frame_spelled}
use Rattle.ether.proofs.Reading.{read_ok as frame_found}
use Rattle.arp.specs.declared.packet.ArpPacket.{ArpPacket}
use Rattle.arp.specs.Packet.{spelling as packet_octets}
use Rattle.ipv4.specs.Datagram.{Datagram, IsDatagram, spelling as datagram_octets}
use Rattle.ipv4.specs.declared.fault.Ipv4Fault.{Ipv4Fault}
use Rattle.ipv4.specs.declared.head.Head.{Head as Ipv4Head}
use Rattle.ipv4.specs.Sent.{sent as datagram_sent}
use Rattle.ipv4.specs.Reading.{datagram_in}
use Rattle.ipv4.proofs.Answering.{sent_spelled as datagram_spelled}
use Rattle.ipv4.proofs.Reading.{read_ok as datagram_found}
use Rattle.udp.specs.declared.cutting.Part.{Part}
use Rattle.tcp_segment.specs.declared.head.Head.{Head}
use Rattle.tcp_segment.specs.Reading.{segment_in}
use Rattle.tcp_segment.specs.Sent.{CanBeSent, sent_segment, sent_octets, sent_offset}
use Rattle.tcp_segment.proofs.Checksum.{sent_octets_len, sent_spelled as segment_spelled}
use Rattle.frames.specs.declared.emission.FrameHead.{FrameHead}
use Rattle.frames.specs.Meaning.{arp_type, ipv4_type, is_fragment}
use Rattle.frames.specs.Pairs.{datagram_pair, frame_pair, pair_between, pair_in, segment_pair}
use Rattle.frames.specs.Sent.{datagram_of, framed, ipv4_head, message_frame, packet_destination, packet_frame, part_datagram, part_frame, part_head, segment_frame}
use Rattle.frames.proofs.Carried.{destination_len, fields}
use Rattle.frames.proofs.CarriedPairs.{carried_read}
use Rattle.frames.proofs.PairReading.{as_frame, of_ipv4}
use Rattle.frames.proofs.Protocols.{frame_of, frame_read, protocol_sent}

pub segment_pairs : (h : FrameHead) (head : Head) (octets : List ℕ) → CanBeSent h.from h.to head octets → length h.destination.0 ≡ 6 → length h.source.0 ≡ 6
    → 4 * sent_offset head + length octets ≤ 1480
    → pair_in (segment_frame h (sent_octets h.from h.to head octets)) ≡ Some (pair_between h.from h.to (sent_segment head octets))
segment_pairs h head octets can destination source most =
    let segment : List ℕ = sent_octets h.from h.to head octets in
    let d : Datagram = datagram_of h 6 segment in
    let are : IsDatagram d = fields h 6 segment (omega arith) can.src_octets can.dst_octets (omega (arith, sent_octets_len h.from h.to head octets, most)) in
    let frame_head : EtherHead = record { destination = h.destination; source = h.source; kind = ipv4_type } in
    carried_read (segment_frame h segment) (pair_between h.from h.to (sent_segment head octets)) (record {
      frame = frame_sent frame_head (datagram_octets d);
      datagram = d;
      segment = sent_segment head octets;
      framed = frame_spelled frame_head (datagram_octets d) destination source (omega arith);
      type = refl;
      carried = datagram_spelled (ipv4_head h 6) segment (padding (datagram_octets d)) are;
      whole = (refl, refl);
      protocol = refl;
      spelled = segment_spelled h.from h.to head octets can;
      ends = refl;
    })

-- the frame that goes out, and the datagram in it, as they are read
pub record Reads (h : FrameHead) (head : Ipv4Head) (payload : List ℕ) : Type 0 where
  pub frame : Frame
  pub framed : frame_in (framed h head payload) ≡ Some frame
  pub type : frame.kind ≡ ipv4_type
  pub found : datagram_in frame.payload ≡ Ok (datagram_sent head payload)

pub reads : (h : FrameHead) (head : Ipv4Head) (payload : List ℕ) → IsDatagram (datagram_sent head payload)
    → length h.destination.0 ≡ 6 → length h.source.0 ≡ 6 → Reads h head payload
reads h head payload are destination source =
    let d : Datagram = datagram_sent head payload in
    let frame_head : EtherHead = record { destination = h.destination; source = h.source; kind = ipv4_type } in
    let frame : Frame = frame_sent frame_head (datagram_octets d) in
    record {
      frame = frame;
      framed = frame_found (framed h head payload) frame (frame_spelled frame_head (datagram_octets d) destination source (omega arith));
      type = refl;
      found = datagram_found frame.payload d (datagram_spelled head payload (padding (datagram_octets d)) are);
    }

-- an ICMP message has no pair
pub message_pairs : (h : FrameHead) (octets : List ℕ) → length h.from.0 ≡ 4 → length h.to.0 ≡ 4 → length h.destination.0 ≡ 6 → length h.source.0 ≡ 6
    → length octets ≤ 1480 → pair_in (message_frame h octets) ≡ None
message_pairs h octets from to destination source most =
    let r = reads h (ipv4_head h 1) octets (fields h 1 octets (omega arith) from to most) destination source in
    as_frame (message_frame h octets) (Some r.frame) r.framed ∙ of_ipv4 r.frame r.type ∙ ap datagram_pair r.found

-- nor has a part of a UDP datagram, whether it is the whole or not
no_pair : (b : Bool) (d : Datagram) → d.protocol ≡ 17
    → cond (b && d.protocol == 6) (segment_pair d.source d.destination (segment_in d.source d.destination d.payload)) None ≡ None
no_pair false d is = refl
no_pair true d is = ap (λ tcp. cond tcp (segment_pair d.source d.destination (segment_in d.source d.destination d.payload)) None) (ap (λ n. n == 6) is)

pub part_pairs : (h : FrameHead) (part : Part) (octets : List ℕ) → length h.destination.0 ≡ 6 → length h.source.0 ≡ 6 → pair_in (part_frame h part octets) ≡ None
part_pairs h part octets destination source =
    let frame : Frame = frame_of h (part_head h part) octets in
    as_frame (part_frame h part octets) (Some frame) (frame_read h (part_head h part) octets destination source)
    ∙ of_ipv4 frame refl
    ∙ by_read (datagram_in frame.payload) refl
  where
    own : List ℕ
    own = datagram_octets (part_datagram h part octets)

    by_read : (read : Result Datagram Ipv4Fault) → datagram_in (own ++ padding own) ≡ read → datagram_pair read ≡ None
    by_read (Err fault) is = refl
    by_read (Ok d) is = no_pair (not (is_fragment d)) d (protocol_sent (part_head h part) octets (padding own) d is)

pub packet_pairs : (p : ArpPacket) → length p.sender_mac.0 ≡ 6 → length p.target_mac.0 ≡ 6 → pair_in (packet_frame p) ≡ None
unfolding pair_in
packet_pairs p sender target =
    let head : EtherHead = record { destination = packet_destination p.operation p.target_mac; source = p.sender_mac; kind = arp_type } in
    let spells = frame_spelled head (packet_octets p) (destination_len p.operation p.target_mac target) sender (omega arith) in
    ap frame_pair (frame_found (packet_frame p) (frame_sent head (packet_octets p)) spells)
