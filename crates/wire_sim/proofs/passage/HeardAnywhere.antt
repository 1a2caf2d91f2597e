-- What whoever receives a frame that goes out hears in it: what it says, where it is for, and else that it is for another interface or another
-- address. So no layer finds a fault in it.
use Rattle.std.proofs.Common.{◌≡◌, ℕ, ◌+◌, ◌*◌, ◌<◌, ◌≤◌, ◌^◌, ◌&&◌, ◌||◌, Bool, true, false, cond, List, length, Option, Some, Result, Ok, Err, arith, refl, ◌∙◌, ap}
use Rattle.ether.specs.declared.head.Head.{Head as EtherHead}
use Rattle.ether.specs.declared.mac.Mac.{Mac}
use Rattle.ether.specs.Frame.{Frame, padding, sent as frame_sent}
use Rattle.ether.proofs.Answering.{sent_spelled as frame_spelled, length-sent}
use Rattle.ether.proofs.Reading.{read_ok as frame_found}
use Rattle.arp.specs.declared.packet.ArpPacket.{ArpPacket}
use Rattle.arp.specs.Packet.{HasWidths, Spells as SpellsPacket, spelling as packet_octets}
use Rattle.arp.specs.Reading.{packet_in}
use Rattle.arp.proofs.OnePacket.{length-spelling}
use Rattle.arp.proofs.PlainReading.{read_ok as packet_found}
use Rattle.ipv4.specs.declared.addr.Addr.{Addr}
use Rattle.ipv4.specs.declared.head.Head.{Head as Ipv4Head}
use Rattle.ipv4.specs.Addresses.{same_addr}
use Rattle.ipv4.specs.Datagram.{Datagram, IsDatagram, spelling as datagram_octets}
use Rattle.ipv4.specs.Reading.{datagram_in}
use Rattle.ipv4.specs.Sent.{sent as datagram_sent}
use Rattle.ipv4.proofs.Answering.{sent_len, sent_spelled as datagram_spelled}
use Rattle.ipv4.proofs.Reading.{read_ok as datagram_found}
use Rattle.icmp.specs.Message.{Message, Spells as SpellsMessage, spelling as message_octets}
use Rattle.icmp.proofs.Answering.{read_ok as message_found}
use Rattle.udp.specs.declared.cutting.Part.{Part}
use Rattle.udp.specs.Datagram.{UserDatagram, Spells as SpellsUser}
use Rattle.udp.proofs.Plain.{fault_ok as user_found}
use Rattle.tcp_segment.specs.declared.head.Head.{Head}
use Rattle.tcp_segment.specs.Sent.{CanBeSent, sent_segment, sent_octets, sent_offset}
use Rattle.tcp_segment.proofs.Answering.{fault_ok as segment_found}
use Rattle.tcp_segment.proofs.Checksum.{sent_octets_len, sent_spelled as segment_spelled}
use Rattle.frames.specs.declared.drop.DropCause.{DropCause}
use Rattle.frames.specs.declared.drop.DropCause.TheVariants.{OtherMac, OtherAddress}
use Rattle.frames.specs.declared.emission.FrameHead.{FrameHead}
use Rattle.frames.specs.declared.meaning.Meaning.{Meaning}
use Rattle.frames.specs.declared.meaning.Meaning.TheVariants.{Arp, Tcp, Icmp, Udp, UdpFragment}
use Rattle.frames.specs.Meaning.{arp_type, broadcast, datagram_heard, fragment_heard, heard, ipv4_type, is_fragment, may_send, message_heard, packet_heard, same_mac, segment_heard, upper_heard, user_heard, whole_heard}
use Rattle.frames.specs.Sent.{IsPart, datagram_of, framed, ipv4_head, message_frame, packet_destination, packet_frame, part_datagram, part_frame, part_head, segment_frame}
use Rattle.frames.proofs.Carried.{IsBetween, destination_len, fields, part_fields}
use Rattle.frames.proofs.Layers.{as_frame}

-- what is heard of a frame to this interface, between these addresses, that says this: of ARP alone a frame may be for all of the link
abbrev pub told_at : Mac → Addr → Addr → Meaning → Mac → Addr → Result Meaning DropCause
told_at destination from to says mac ours = cond (same_mac destination mac || (same_mac destination broadcast && false)) (cond (same_addr to ours && may_send ours from) (Ok says) (Err OtherAddress)) (Err OtherMac)

-- A datagram.

datagram-told : (h : FrameHead) (head : Ipv4Head) (payload : List ℕ) (says : Meaning) (mac : Mac) (ours : Addr) → IsBetween h head → IsDatagram (datagram_sent head payload) → length h.destination.0 ≡ 6 → length h.source.0 ≡ 6
    → length payload ≤ 1480 → upper_heard (datagram_sent head payload) ≡ Ok says → heard mac ours (framed h head payload) ≡ told_at h.destination h.from h.to says mac ours
datagram-told h head payload says mac ours between are destination source most upper =
    let len : length (datagram_octets d) ≡ 20 + length payload = sent_len head payload are in
    as_frame mac ours (framed h head payload) (Some frame) (omega (arith, length-sent frame_head (datagram_octets d) destination source, len, most))
    (frame_found (framed h head payload) frame (frame_spelled frame_head (datagram_octets d) destination source (omega arith)))
    ∙ ap (λ (r : Result Meaning DropCause). cond (same_mac h.destination mac || (same_mac h.destination broadcast && false)) r (Err OtherMac)) (ap (datagram_heard ours) found ∙ at)
  where
    d : Datagram
    d = datagram_sent head payload

    frame_head : EtherHead
    frame_head = record { destination = h.destination; source = h.source; kind = ipv4_type }

    frame : Frame
    frame = frame_sent frame_head (datagram_octets d)

    found : datagram_in frame.payload ≡ Ok d
    found = datagram_found frame.payload d (datagram_spelled head payload (padding (datagram_octets d)) are)

    at : datagram_heard ours (Ok d) ≡ cond (same_addr h.to ours && may_send ours h.from) (Ok says) (Err OtherAddress)
    at =
        ap (λ (r : Result Meaning DropCause). cond (same_addr d.destination ours && may_send ours d.source) r (Err OtherAddress)) upper
        ∙ ap (λ (a : Addr). cond (same_addr a ours && may_send ours d.source) (Ok says) (Err OtherAddress)) between.destination
        ∙ ap (λ (a : Addr). cond (same_addr h.to ours && may_send ours a) (Ok says) (Err OtherAddress)) between.source

-- that isn't cut
whole-told : (h : FrameHead) (protocol : ℕ) (payload : List ℕ) (says : Meaning) (mac : Mac) (ours : Addr) → protocol < 2 ^ 8 → length h.from.0 ≡ 4 → length h.to.0 ≡ 4 → length h.destination.0 ≡ 6 → length h.source.0 ≡ 6
    → length payload ≤ 1480 → upper_heard (datagram_of h protocol payload) ≡ Ok says → heard mac ours (framed h (ipv4_head h protocol) payload) ≡ told_at h.destination h.from h.to says mac ours
whole-told h protocol payload says mac ours octet from to destination source most upper =
    datagram-told h (ipv4_head h protocol) payload says mac ours (record { source = refl; destination = refl }) (fields h protocol payload octet from to most) destination source most upper

-- A segment, a message, a part of a UDP datagram.

pub segment-told : (h : FrameHead) (head : Head) (octets : List ℕ) (mac : Mac) (ours : Addr) → CanBeSent h.from h.to head octets → length h.destination.0 ≡ 6 → length h.source.0 ≡ 6 → 4 * sent_offset head + length octets ≤ 1480
    → heard mac ours (segment_frame h (sent_octets h.from h.to head octets)) ≡ told_at h.destination h.from h.to (Tcp (record { source = h.from; segment = sent_segment head octets })) mac ours
segment-told h head octets mac ours can destination source most =
    let segment : List ℕ = sent_octets h.from h.to head octets in
    whole-told h 6 segment (Tcp (record { source = h.from; segment = sent_segment head octets })) mac ours (omega arith) can.src_octets can.dst_octets destination source
    (omega (arith, sent_octets_len h.from h.to head octets, most))
    (ap (segment_heard h.from) (segment_found h.from h.to segment (sent_segment head octets) (segment_spelled h.from h.to head octets can)))

pub message-told : (h : FrameHead) (m : Message) (mac : Mac) (ours : Addr) → SpellsMessage m (message_octets m) → length h.from.0 ≡ 4 → length h.to.0 ≡ 4 → length h.destination.0 ≡ 6 → length h.source.0 ≡ 6 → length m.payload ≤ 1472
    → heard mac ours (message_frame h (message_octets m)) ≡ told_at h.destination h.from h.to (Icmp (record { source = h.from; message = m })) mac ours
message-told h m mac ours spells from to destination source most =
    whole-told h 1 (message_octets m) (Icmp (record { source = h.from; message = m })) mac ours (omega arith) from to destination source (omega (arith, most))
    (ap (message_heard h.from) (message_found (message_octets m) m spells))

-- a part is the whole, or a fragment
pub part-told : (h : FrameHead) (part : Part) (octets : List ℕ) (d : UserDatagram) (mac : Mac) (ours : Addr) → IsPart part octets → length h.from.0 ≡ 4 → length h.to.0 ≡ 4 → length h.destination.0 ≡ 6 → length h.source.0 ≡ 6
    → (is_fragment (part_datagram h part octets) ≡ false → SpellsUser h.from h.to d octets)
    → heard mac ours (part_frame h part octets)
    ≡ told_at h.destination h.from h.to (cond (is_fragment (part_datagram h part octets)) (UdpFragment (part_datagram h part octets)) (Udp (record { carrier = part_datagram h part octets; datagram = d }))) mac ours
part-told h part octets d mac ours is from to destination source spells =
    datagram-told h (part_head h part) octets (cond (is_fragment carrier) (UdpFragment carrier) (Udp (record { carrier = carrier; datagram = d }))) mac ours (record { source = refl; destination = refl })
    (part_fields h part octets is from to) destination source is.most (by_test (is_fragment carrier) refl)
  where
    carrier : Datagram
    carrier = part_datagram h part octets

    by_test : (b : Bool) → is_fragment carrier ≡ b → cond b (fragment_heard carrier) (whole_heard carrier) ≡ Ok (cond b (UdpFragment carrier) (Udp (record { carrier = carrier; datagram = d })))
    by_test true cut = refl
    by_test false whole = ap (user_heard carrier) (user_found h.from h.to octets d (spells whole))

-- An ARP packet: a request is heard by every interface.

pub packet-told : (p : ArpPacket) (mac : Mac) (ours : Addr) → HasWidths p
    → heard mac ours (packet_frame p)
    ≡ cond (same_mac (packet_destination p.operation p.target_mac) mac || (same_mac (packet_destination p.operation p.target_mac) broadcast && true)) (cond (may_send ours p.sender_addr) (Ok (Arp p)) (Err OtherAddress)) (Err OtherMac)
packet-told p mac ours widths =
    as_frame mac ours (packet_frame p) (Some frame) (omega (arith, length-sent frame_head (packet_octets p) destination widths.sender_mac, length-spelling p widths))
    (frame_found (packet_frame p) frame (frame_spelled frame_head (packet_octets p) destination widths.sender_mac (omega arith)))
    ∙ ap (λ (o : Option ArpPacket). cond (same_mac to mac || (same_mac to broadcast && true)) (packet_heard ours o) (Err OtherMac)) found
  where
    to : Mac
    to = packet_destination p.operation p.target_mac

    frame_head : EtherHead
    frame_head = record { destination = to; source = p.sender_mac; kind = arp_type }

    frame : Frame
    frame = frame_sent frame_head (packet_octets p)

    destination : length to.0 ≡ 6
    destination = destination_len p.operation p.target_mac widths.target_mac

    spells : SpellsPacket p frame.payload
    spells = record { padding = padding (packet_octets p); widths = widths; spelled = refl }

    found : packet_in frame.payload ≡ Some p
    found = packet_found frame.payload p spells
