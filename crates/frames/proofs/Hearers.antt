-- Who hears a segment or an ICMP message, of octets and of what goes out, and what is known of the datagrams that are heard.
use Rattle.std.proofs.Common.{◌≡◌, ◌≢◌, ℕ, ◌+◌, ◌*◌, ◌^◌, ◌<◌, ◌≤◌, true, false, List, length, Option, Some, Result, Ok, arith, sym, ◌∙◌, ap, subst}
use Rattle.ether.specs.declared.mac.Mac.{Mac}
use Rattle.ether.specs.declared.head.Head.{Head as EtherHead}
use Rattle.ether.specs.Frame.{Frame, sent as frame_sent}
use Rattle.ether.proofs.Answering.{sent_spelled as frame_spelled}
use Rattle.ether.proofs.Reading.{read_ok as frame_found}
use Rattle.arp.specs.declared.packet.ArpPacket.{ArpPacket}
use Rattle.arp.specs.Packet.{spelling as packet_octets}
use Rattle.ipv4.specs.declared.addr.Addr.{Addr}
use Rattle.ipv4.specs.declared.fault.Ipv4Fault.{Ipv4Fault}
use Rattle.ipv4.specs.declared.head.Head.{Head as Ipv4Head}
use Rattle.ipv4.specs.Datagram.{Datagram, IsDatagram, header_octets}
use Rattle.ipv4.specs.Sent.{sent as datagram_sent}
use Rattle.ipv4.specs.Reading.{datagram_in}
use Rattle.icmp.specs.declared.fault.IcmpFault.{IcmpFault}
use Rattle.icmp.specs.Message.{Message, Spells, spelling}
use Rattle.icmp.specs.Reading.{message_or_fault}
use Rattle.icmp.proofs.Answering.{read_ok as message_found}
use Rattle.udp.specs.declared.cutting.Part.{Part}
use Rattle.udp.specs.Reading.{datagram_or_fault}
use Rattle.tcp_segment.specs.declared.fault.SegmentFault.{SegmentFault}
use Rattle.tcp_segment.specs.declared.head.Head.{Head}
use Rattle.tcp_segment.specs.Segment.{Segment}
use Rattle.tcp_segment.specs.Reading.{segment_or_fault}
use Rattle.tcp_segment.specs.Sent.{CanBeSent, sent_segment, sent_octets, sent_offset}
use Rattle.tcp_segment.proofs.Answering.{fault_ok}
use Rattle.tcp_segment.proofs.Checksum.{sent_octets_len, sent_spelled as segment_spelled}
use Rattle.frames.specs.declared.emission.FrameHead.{FrameHead}
use Rattle.frames.specs.declared.meaning.Control.{Control}
use Rattle.frames.specs.declared.meaning.Meaning.TheVariants.{Icmp, Other, Tcp, Udp, UdpFragment}
use Rattle.frames.specs.declared.meaning.ReceivedSegment.{ReceivedSegment}
use Rattle.frames.specs.declared.meaning.ReceivedDatagram.{ReceivedDatagram}
use Rattle.frames.specs.Heard.{IsWhole, MaySend}
use Rattle.frames.specs.Meaning.{arp_type, heard, may_send}
use Rattle.frames.specs.Sent.{datagram_frame, datagram_of, framed, ipv4_head, message_frame, packet_destination, packet_frame, part_frame, segment_frame}
use Rattle.frames.proofs.Carried.{destination_len, fields}
use Rattle.frames.proofs.Deciding.{send-Decides, unfragmented, whole}
use Rattle.frames.proofs.EmittedPairs.{message_pairs, packet_pairs, part_pairs, reads}
use Rattle.frames.proofs.Fitting.{fits, header_fits, message_fits}
use Rattle.frames.proofs.Origins.{Brought, from_datagram}
use Rattle.frames.proofs.PairLemmas.{heard_pairs}

-- What is heard comes from another host.

pub from_others : (mac : Mac) (ours : Addr) (octets : List ℕ) (received : ReceivedSegment) → heard mac ours octets ≡ Ok (Tcp received) → may_send ours received.source ≡ true
from_others mac ours octets r answer =
    let from = from_datagram mac ours octets (Tcp r) answer (λ p no. cc) in
    ap (may_send ours) from.2.2 ∙ from.1.may

pub messages_from_others : (mac : Mac) (ours : Addr) (octets : List ℕ) (c : Control) → heard mac ours octets ≡ Ok (Icmp c) → may_send ours c.source ≡ true
messages_from_others mac ours octets c answer =
    let from = from_datagram mac ours octets (Icmp c) answer (λ p no. cc) in
    ap (may_send ours) from.2.2 ∙ from.1.may

ends_of : (ours : Addr) (octets : List ℕ) (d own : Datagram) → Brought ours octets own → d ≡ own → (may_send ours d.source ≡ true) × (d.destination ≡ ours)
ends_of ours octets d own brought same =
    (ap (λ (e : Datagram). may_send ours e.source) same ∙ brought.may, ap (λ (e : Datagram). e.destination) same ∙ brought.destination)

pub others_from_others : (mac : Mac) (ours : Addr) (octets : List ℕ) (d : Datagram) → heard mac ours octets ≡ Ok (Other d)
    → (may_send ours d.source ≡ true) × (d.destination ≡ ours)
others_from_others mac ours octets d answer =
    let from = from_datagram mac ours octets (Other d) answer (λ p no. cc) in
    ends_of ours octets d from.0 from.1 from.2.4

pub users_from_others : (mac : Mac) (ours : Addr) (octets : List ℕ) (r : ReceivedDatagram) → heard mac ours octets ≡ Ok (Udp r)
    → (may_send ours r.carrier.source ≡ true) × (r.carrier.destination ≡ ours)
users_from_others mac ours octets r answer =
    let from = from_datagram mac ours octets (Udp r) answer (λ p no. cc) in
    ends_of ours octets r.carrier from.0 from.1 from.2.2

pub fragments_from_others : (mac : Mac) (ours : Addr) (octets : List ℕ) (d : Datagram) → heard mac ours octets ≡ Ok (UdpFragment d)
    → (may_send ours d.source ≡ true) × (d.destination ≡ ours)
fragments_from_others mac ours octets d answer =
    let from = from_datagram mac ours octets (UdpFragment d) answer (λ p no. cc) in
    ends_of ours octets d from.0 from.1 from.2.2

-- it fits into a frame

pub messages_fit : (mac : Mac) (ours : Addr) (octets : List ℕ) (c : Control) → heard mac ours octets ≡ Ok (Icmp c) → length c.message.payload ≤ 1472
messages_fit mac ours octets c answer =
    let from = from_datagram mac ours octets (Icmp c) answer (λ p no. cc) in
    let own = fits ours octets from.0 from.1 in
    omega (arith, message_fits from.0.payload c.message from.2.3, own.payload)

datagram_fits : (ours : Addr) (octets : List ℕ) (d own : Datagram) → Brought ours octets own → d ≡ own → (length (header_octets d) ≤ 60) × (length d.payload ≤ 1480)
datagram_fits ours octets d own brought same =
    let lens = fits ours octets own brought in
    let facts : (length (header_octets own) ≤ 60) × (length own.payload ≤ 1480) = (header_fits own 1500 lens, omega (arith, lens.payload)) in
    subst (λ (e : Datagram). (length (header_octets e) ≤ 60) × (length e.payload ≤ 1480)) (sym same) facts

pub headers_fit : (mac : Mac) (ours : Addr) (octets : List ℕ) (d : Datagram) → heard mac ours octets ≡ Ok (Other d) → length (header_octets d) ≤ 60
headers_fit mac ours octets d answer =
    let from = from_datagram mac ours octets (Other d) answer (λ p no. cc) in
    (datagram_fits ours octets d from.0 from.1 from.2.4).0

pub users_fit : (mac : Mac) (ours : Addr) (octets : List ℕ) (r : ReceivedDatagram) → heard mac ours octets ≡ Ok (Udp r)
    → (length (header_octets r.carrier) ≤ 60) × (length r.carrier.payload ≤ 1480)
users_fit mac ours octets r answer =
    let from = from_datagram mac ours octets (Udp r) answer (λ p no. cc) in
    datagram_fits ours octets r.carrier from.0 from.1 from.2.2

pub fragments_fit : (mac : Mac) (ours : Addr) (octets : List ℕ) (d : Datagram) → heard mac ours octets ≡ Ok (UdpFragment d)
    → (length (header_octets d) ≤ 60) × (length d.payload ≤ 1480)
fragments_fit mac ours octets d answer =
    let from = from_datagram mac ours octets (UdpFragment d) answer (λ p no. cc) in
    datagram_fits ours octets d from.0 from.1 from.2.2

-- another datagram is whole
pub others_are_whole : (mac : Mac) (ours : Addr) (octets : List ℕ) (d : Datagram) → heard mac ours octets ≡ Ok (Other d)
    → MaySend ours d.source × IsWhole d × (d.protocol ≢ 6) × (d.protocol ≢ 1) × (d.protocol ≢ 17)
others_are_whole mac ours octets d answer =
    let from = from_datagram mac ours octets (Other d) answer (λ p no. cc) in
    let own = fits ours octets from.0 from.1 in
    let facts : MaySend ours from.0.source × IsWhole from.0 × (from.0.protocol ≢ 6) × (from.0.protocol ≢ 1) × (from.0.protocol ≢ 17) =
    ((send-Decides ours from.0.source own.source).0 from.1.may, whole from.0 from.2.0, from.2.1, from.2.2, from.2.3) in
    subst (λ (e : Datagram). MaySend ours e.source × IsWhole e × (e.protocol ≢ 6) × (e.protocol ≢ 1) × (e.protocol ≢ 17)) (sym from.2.4) facts

-- what carries a UDP datagram is, and a fragment isn't
pub users_are_carried : (mac : Mac) (ours : Addr) (octets : List ℕ) (r : ReceivedDatagram) → heard mac ours octets ≡ Ok (Udp r)
    → MaySend ours r.carrier.source × IsWhole r.carrier × (r.carrier.protocol ≡ 17)
    × (datagram_or_fault r.carrier.source r.carrier.destination r.carrier.payload ≡ Ok r.datagram)
users_are_carried mac ours octets r answer =
    let from = from_datagram mac ours octets (Udp r) answer (λ p no. cc) in
    let own = fits ours octets from.0 from.1 in
    let facts : MaySend ours from.0.source × IsWhole from.0 × (from.0.protocol ≡ 17) × (datagram_or_fault from.0.source from.0.destination from.0.payload ≡ Ok r.datagram) =
    ((send-Decides ours from.0.source own.source).0 from.1.may, whole from.0 from.2.0, from.2.1, from.2.3) in
    subst (λ (e : Datagram). MaySend ours e.source × IsWhole e × (e.protocol ≡ 17) × (datagram_or_fault e.source e.destination e.payload ≡ Ok r.datagram)) (sym from.2.2) facts

pub fragments_are_parts : (mac : Mac) (ours : Addr) (octets : List ℕ) (d : Datagram) → heard mac ours octets ≡ Ok (UdpFragment d)
    → MaySend ours d.source × (IsWhole d → ⊥) × (d.protocol ≡ 17)
fragments_are_parts mac ours octets d answer =
    let from = from_datagram mac ours octets (UdpFragment d) answer (λ p no. cc) in
    let own = fits ours octets from.0 from.1 in
    let cut : IsWhole from.0 → ⊥ = λ is. let no : false ≡ true = sym (unfragmented from.0 is) ∙ from.2.0 in cc in
    let facts : MaySend ours from.0.source × (IsWhole from.0 → ⊥) × (from.0.protocol ≡ 17) = ((send-Decides ours from.0.source own.source).0 from.1.may, cut, from.2.1) in
    subst (λ (e : Datagram). MaySend ours e.source × (IsWhole e → ⊥) × (e.protocol ≡ 17)) (sym from.2.2) facts

-- Whoever hears the segment or the message of a frame that goes out is the host that it is for.

same_ok : {A E : Type 0} (x y : A) → ◌≡◌ {A = Result A E} (Ok x) (Ok y) → x ≡ y
same_ok x y e = cc

same_some : {A : Type 0} (x y : A) → ◌≡◌ {A = Option A} (Some x) (Some y) → x ≡ y
same_some x y e = cc

same_received : (r : ReceivedSegment) (source : Addr) (s : Segment) → r.source ≡ source → r.segment ≡ s → r ≡ record { source = source; segment = s }
same_received r source s is_source is_segment =
    let with_source : Addr → ReceivedSegment = λ a. record { source = a; segment = r.segment } in
    let with_segment : Segment → ReceivedSegment = λ t. record { source = source; segment = t } in
    ap with_source is_source ∙ ap with_segment is_segment

same_control : (c : Control) (source : Addr) (m : Message) → c.source ≡ source → c.message ≡ m → c ≡ record { source = source; message = m }
same_control c source m is_source is_message =
    let with_source : Addr → Control = λ a. record { source = a; message = c.message } in
    let with_message : Message → Control = λ n. record { source = source; message = n } in
    ap with_source is_source ∙ ap with_message is_message

-- the datagram that is read of it
pub only_datagram : (h : FrameHead) (head : Ipv4Head) (payload : List ℕ) (ours : Addr) (d : Datagram) → IsDatagram (datagram_sent head payload)
    → length h.destination.0 ≡ 6 → length h.source.0 ≡ 6 → Brought ours (framed h head payload) d → datagram_sent head payload ≡ d
only_datagram h head payload ours d are destination source brought =
    let r = reads h head payload are destination source in
    let frames : ◌≡◌ {A = Option Frame} (Some r.frame) (Some brought.frame) = sym r.framed ∙ brought.framed in
    let frame : r.frame ≡ brought.frame = same_some r.frame brought.frame frames in
    let datagrams : ◌≡◌ {A = Result Datagram Ipv4Fault} (Ok (datagram_sent head payload)) (Ok d) =
    sym r.found ∙ ap (λ (f : Frame). datagram_in f.payload) frame ∙ brought.found in
    same_ok {E = Ipv4Fault} (datagram_sent head payload) d datagrams

-- .. and that of a payload that isn't cut
only_whole : (h : FrameHead) (protocol : ℕ) (payload : List ℕ) (ours : Addr) (d : Datagram) → protocol < 2 ^ 8 → length h.from.0 ≡ 4 → length h.to.0 ≡ 4
    → length h.destination.0 ≡ 6 → length h.source.0 ≡ 6 → length payload ≤ 1480 → Brought ours (datagram_frame h protocol payload) d → datagram_of h protocol payload ≡ d
only_whole h protocol payload ours d octet from to destination source most brought =
    only_datagram h (ipv4_head h protocol) payload ours d (fields h protocol payload octet from to most) destination source brought

pub as_sent : (h : FrameHead) (head : Head) (octets : List ℕ) (mac : Mac) (ours : Addr) (received : ReceivedSegment) → CanBeSent h.from h.to head octets
    → length h.destination.0 ≡ 6 → length h.source.0 ≡ 6 → 4 * sent_offset head + length octets ≤ 1480
    → heard mac ours (segment_frame h (sent_octets h.from h.to head octets)) ≡ Ok (Tcp received)
    → (ours ≡ h.to) × (received ≡ record { source = h.from; segment = sent_segment head octets })
as_sent h head octets mac ours r can destination source most answer =
    let segment : List ℕ = sent_octets h.from h.to head octets in
    let segment_most : length segment ≤ 1480 = omega (arith, sent_octets_len h.from h.to head octets, most) in
    let from = from_datagram mac ours (segment_frame h segment) (Tcp r) answer (λ p no. cc) in
    let same : datagram_of h 6 segment ≡ from.0 =
    only_whole h 6 segment ours from.0 (omega arith) can.src_octets can.dst_octets destination source segment_most from.1 in
    let parsed : ◌≡◌ {A = Result Segment SegmentFault} (Ok (sent_segment head octets)) (Ok r.segment) =
    sym (fault_ok h.from h.to segment (sent_segment head octets) (segment_spelled h.from h.to head octets can))
    ∙ ap (λ (d : Datagram). segment_or_fault d.source d.destination d.payload) same ∙ from.2.3 in
    let source_is : r.source ≡ h.from = from.2.2 ∙ ap (λ (d : Datagram). d.source) (sym same) in (
      sym from.1.destination ∙ ap (λ (d : Datagram). d.destination) (sym same),
      same_received r h.from (sent_segment head octets) source_is (sym (same_ok {E = SegmentFault} (sent_segment head octets) r.segment parsed)),
    )

pub messages_as_sent : (h : FrameHead) (m : Message) (mac : Mac) (ours : Addr) (c : Control) → Spells m (spelling m) → length h.from.0 ≡ 4 → length h.to.0 ≡ 4
    → length h.destination.0 ≡ 6 → length h.source.0 ≡ 6 → length m.payload ≤ 1472
    → heard mac ours (message_frame h (spelling m)) ≡ Ok (Icmp c) → (ours ≡ h.to) × (c ≡ record { source = h.from; message = m })
messages_as_sent h m mac ours c spells from_len to_len destination source most answer =
    let from = from_datagram mac ours (message_frame h (spelling m)) (Icmp c) answer (λ p no. cc) in
    let same : datagram_of h 1 (spelling m) ≡ from.0 =
    only_whole h 1 (spelling m) ours from.0 (omega arith) from_len to_len destination source (omega (arith, most)) from.1 in
    let parsed : ◌≡◌ {A = Result Message IcmpFault} (Ok m) (Ok c.message) =
    sym (message_found (spelling m) m spells) ∙ ap (λ (d : Datagram). message_or_fault d.payload) same ∙ from.2.3 in
    let source_is : c.source ≡ h.from = from.2.2 ∙ ap (λ (d : Datagram). d.source) (sym same) in (
      sym from.1.destination ∙ ap (λ (d : Datagram). d.destination) (sym same),
      same_control c h.from m source_is (sym (same_ok {E = IcmpFault} m c.message parsed)),
    )

-- a packet, a message and a part carry no pair, and what is heard as a segment does
pub no_packet : (p : ArpPacket) (mac : Mac) (ours : Addr) (received : ReceivedSegment) → length p.sender_mac.0 ≡ 6 → length p.target_mac.0 ≡ 6 → heard mac ours (packet_frame p) ≢ Ok (Tcp received)
no_packet p mac ours received sender target is =
    let some = heard_pairs mac ours (packet_frame p) received is in
    let none = packet_pairs p sender target in
    cc

pub no_segment_in_message : (h : FrameHead) (octets : List ℕ) (mac : Mac) (ours : Addr) (received : ReceivedSegment) → length h.from.0 ≡ 4 → length h.to.0 ≡ 4
    → length h.destination.0 ≡ 6 → length h.source.0 ≡ 6 → length octets ≤ 1480 → heard mac ours (message_frame h octets) ≢ Ok (Tcp received)
no_segment_in_message h octets mac ours received from to destination source most is =
    let some = heard_pairs mac ours (message_frame h octets) received is in
    let none = message_pairs h octets from to destination source most in
    cc

pub no_segment_in_part : (h : FrameHead) (part : Part) (octets : List ℕ) (mac : Mac) (ours : Addr) (received : ReceivedSegment) → length h.destination.0 ≡ 6
    → length h.source.0 ≡ 6 → heard mac ours (part_frame h part octets) ≢ Ok (Tcp received)
no_segment_in_part h part octets mac ours received destination source is =
    let some = heard_pairs mac ours (part_frame h part octets) received is in
    let none = part_pairs h part octets destination source in
    cc

-- a segment's datagram is of another protocol, and a packet's frame of another type
pub no_message_in_segment : (h : FrameHead) (octets : List ℕ) (mac : Mac) (ours : Addr) (c : Control) → length h.from.0 ≡ 4 → length h.to.0 ≡ 4
    → length h.destination.0 ≡ 6 → length h.source.0 ≡ 6 → length octets ≤ 1480 → heard mac ours (segment_frame h octets) ≢ Ok (Icmp c)
no_message_in_segment h octets mac ours c from_len to_len destination source most answer =
    let from = from_datagram mac ours (segment_frame h octets) (Icmp c) answer (λ p no. cc) in
    let same : datagram_of h 6 octets ≡ from.0 = only_whole h 6 octets ours from.0 (omega arith) from_len to_len destination source most from.1 in
    let protocol : 6 ≡ 1 = ap (λ (d : Datagram). d.protocol) same ∙ from.2.1 in
    omega (arith, protocol)

pub nothing_in_packet : (p : ArpPacket) (ours : Addr) (d : Datagram) → length p.sender_mac.0 ≡ 6 → length p.target_mac.0 ≡ 6 → Brought ours (packet_frame p) d → ⊥
nothing_in_packet p ours d sender target brought =
    let head : EtherHead = record { destination = packet_destination p.operation p.target_mac; source = p.sender_mac; kind = arp_type } in
    let spells = frame_spelled head (packet_octets p) (destination_len p.operation p.target_mac target) sender (omega arith) in
    let frames : ◌≡◌ {A = Option Frame} (Some (frame_sent head (packet_octets p))) (Some brought.frame) =
    sym (frame_found (packet_frame p) (frame_sent head (packet_octets p)) spells) ∙ brought.framed in
    let frame : frame_sent head (packet_octets p) ≡ brought.frame = same_some (frame_sent head (packet_octets p)) brought.frame frames in
    let type : 0x0806 ≡ 0x0800 = ap (λ (f : Frame). f.kind) frame ∙ brought.type in
    omega (arith, type)

pub no_message_in_packet : (p : ArpPacket) (mac : Mac) (ours : Addr) (c : Control) → length p.sender_mac.0 ≡ 6 → length p.target_mac.0 ≡ 6
    → heard mac ours (packet_frame p) ≢ Ok (Icmp c)
no_message_in_packet p mac ours c sender target answer =
    let from = from_datagram mac ours (packet_frame p) (Icmp c) answer (λ q no. cc) in
    nothing_in_packet p ours from.0 sender target from.1
