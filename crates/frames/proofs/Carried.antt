-- What goes out is heard as what was meant.
use Rattle.std.proofs.Common.{◌≡◌, ◌⊎◌, inl, inr, ℕ, ◌+◌, ◌*◌, ◌^◌, ◌<◌, ◌≤◌, List, ◌++◌, length, false, true, Ok, arith, refl, sym, ap, subst}
use Rattle.ether.specs.declared.mac.Mac.{Mac}
use Rattle.ether.specs.declared.head.Head.{Head as EtherHead}
use Rattle.ether.specs.Frame.{padding, sent as frame_sent}
use Rattle.ether.proofs.Answering.{sent_spelled as frame_spelled, length-sent}
use Rattle.arp.specs.declared.packet.ArpPacket.{ArpPacket}
use Rattle.arp.specs.declared.packet.Operation.{Operation}
use Rattle.arp.specs.declared.packet.Operation.TheVariants.{Request, Reply}
use Rattle.arp.specs.Packet.{HasWidths, spelling as packet_octets}
use Rattle.arp.proofs.OnePacket.{length-spelling}
use Rattle.ipv4.specs.declared.addr.Addr.{Addr}
use Rattle.ipv4.specs.declared.head.Head.{Head as Ipv4Head}
use Rattle.ipv4.specs.Datagram.{Datagram, IsDatagram, spelling as datagram_octets}
use Rattle.ipv4.specs.Sent.{sent as datagram_sent}
use Rattle.ipv4.proofs.Answering.{sent_len, sent_spelled as datagram_spelled}
use Rattle.icmp.specs.Message.{Message, Spells as SpellsMessage, spelling as message_octets}
use Rattle.udp.specs.declared.cutting.Part.{Part}
use Rattle.udp.specs.Datagram.{UserDatagram, Spells as SpellsUser}
use Rattle.tcp_segment.specs.declared.head.Head.{Head}
use Rattle.tcp_segment.specs.Sent.{CanBeSent, sent_segment, sent_octets, sent_offset}
use Rattle.tcp_segment.proofs.Checksum.{sent_octets_len, sent_spelled as segment_spelled}
use Rattle.frames.specs.declared.emission.FrameHead.{FrameHead}
use Rattle.frames.specs.declared.meaning.Meaning.TheVariants.{Arp, Tcp, Icmp, Udp, UdpFragment}
use Rattle.frames.specs.Heard.{Brings, BringsDatagram, MaySend}
use Rattle.frames.specs.Meaning.{arp_type, broadcast, heard, ipv4_type}
use Rattle.frames.specs.Sent.{IsPart, datagram_of, framed, ipv4_head, message_frame, packet_destination, packet_frame, part_datagram, part_frame, part_head, segment_frame}
use Rattle.frames.proofs.Meanings.{heard_message, heard_packet, heard_part, heard_segment, heard_user}

-- the fields of a datagram that goes out whole
pub fields : (h : FrameHead) (protocol : ℕ) (payload : List ℕ) → protocol < 2 ^ 8 → length h.from.0 ≡ 4 → length h.to.0 ≡ 4 → length payload ≤ 1480
    → IsDatagram (datagram_of h protocol payload)
fields h protocol payload octet from to most = record {
  service = omega arith;
  identification = omega arith;
  offset = omega arith;
  ttl = omega arith;
  protocol = octet;
  checksum = omega arith;
  source = from;
  destination = to;
  words = omega arith;
  header = omega arith;
  total = omega (arith, most);
  place = record { units = λ more. let no : false ≡ true = more in cc; reach = omega (arith, most) };
}

-- .. and in a part
pub part_fields : (h : FrameHead) (part : Part) (payload : List ℕ) → IsPart part payload → length h.from.0 ≡ 4 → length h.to.0 ≡ 4
    → IsDatagram (part_datagram h part payload)
part_fields h part payload is from to = record {
  service = omega arith;
  identification = is.identification;
  offset = omega (arith, is.place.reach);
  ttl = omega arith;
  protocol = omega arith;
  checksum = omega arith;
  source = from;
  destination = to;
  words = omega arith;
  header = omega arith;
  total = omega (arith, is.most);
  place = is.place;
}

-- the header is of a datagram between the two ends of a frame
pub record IsBetween (h : FrameHead) (head : Ipv4Head) : Type 0 where
  pub source : head.source ≡ h.from
  pub destination : head.destination ≡ h.to

-- the frame brings the datagram to the host that it is for
brings : (h : FrameHead) (head : Ipv4Head) (payload : List ℕ) → IsBetween h head → IsDatagram (datagram_sent head payload)
    → length h.destination.0 ≡ 6 → length h.source.0 ≡ 6 → MaySend h.to h.from → length payload ≤ 1480
    → BringsDatagram h.destination h.to (framed h head payload) (datagram_sent head payload)
brings h head payload between are destination source may most =
    let d : Datagram = datagram_sent head payload in
    let frame_head : EtherHead = record { destination = h.destination; source = h.source; kind = ipv4_type } in
    let len : length (datagram_octets d) ≡ 20 + length payload = sent_len head payload are in
    let whole : Brings h.destination (framed h head payload) ipv4_type (datagram_octets d ++ padding (datagram_octets d)) = record {
      frame = frame_sent frame_head (datagram_octets d);
      spelled = frame_spelled frame_head (datagram_octets d) destination source (omega arith);
      most = omega (arith, length-sent frame_head (datagram_octets d) destination source, len, most);
      ours = inl refl;
      type = refl;
      carried = refl;
    } in
    record {
      payload = datagram_octets d ++ padding (datagram_octets d);
      brought = whole;
      spelled = datagram_spelled head payload (padding (datagram_octets d)) are;
      destination = between.destination;
      source = subst (MaySend h.to) (sym between.source) may;
    }

pub segments_heard : (h : FrameHead) (head : Head) (octets : List ℕ) → CanBeSent h.from h.to head octets → length h.destination.0 ≡ 6 → length h.source.0 ≡ 6
    → MaySend h.to h.from → 4 * sent_offset head + length octets ≤ 1480
    → heard h.destination h.to (segment_frame h (sent_octets h.from h.to head octets)) ≡ Ok (Tcp (record { source = h.from; segment = sent_segment head octets }))
segments_heard h head octets can destination source may most =
    let segment : List ℕ = sent_octets h.from h.to head octets in
    let segment_most : length segment ≤ 1480 = omega (arith, sent_octets_len h.from h.to head octets, most) in
    heard_segment h.destination h.to (segment_frame h segment) (datagram_of h 6 segment) (sent_segment head octets) (
      brings h (ipv4_head h 6) segment (record { source = refl; destination = refl }) (fields h 6 segment (omega arith) can.src_octets can.dst_octets segment_most) destination source may segment_most,
      (refl, refl),
      refl,
    )
    (segment_spelled h.from h.to head octets can)

pub messages_heard : (h : FrameHead) (m : Message) → SpellsMessage m (message_octets m) → length h.from.0 ≡ 4 → length h.to.0 ≡ 4
    → length h.destination.0 ≡ 6 → length h.source.0 ≡ 6 → MaySend h.to h.from → length m.payload ≤ 1472
    → heard h.destination h.to (message_frame h (message_octets m)) ≡ Ok (Icmp (record { source = h.from; message = m }))
messages_heard h m spells from to destination source may most =
    heard_message h.destination h.to (message_frame h (message_octets m)) (datagram_of h 1 (message_octets m)) m (
      brings h (ipv4_head h 1) (message_octets m) (record { source = refl; destination = refl })
          (fields h 1 (message_octets m) (omega arith) from to (omega (arith, most))) destination source may (omega (arith, most)),
      (refl, refl),
      refl,
    )
    spells

-- a part
part_brings : (h : FrameHead) (part : Part) (octets : List ℕ) → IsPart part octets → length h.from.0 ≡ 4 → length h.to.0 ≡ 4
    → length h.destination.0 ≡ 6 → length h.source.0 ≡ 6 → MaySend h.to h.from
    → BringsDatagram h.destination h.to (part_frame h part octets) (part_datagram h part octets)
part_brings h part octets is from to destination source may =
    brings h (part_head h part) octets (record { source = refl; destination = refl }) (part_fields h part octets is from to) destination source may is.most

pub parts_heard : (h : FrameHead) (part : Part) (octets : List ℕ) (d : UserDatagram) → IsPart part octets → length h.from.0 ≡ 4 → length h.to.0 ≡ 4
    → length h.destination.0 ≡ 6 → length h.source.0 ≡ 6 → MaySend h.to h.from
    → part.fragment.more_fragments ≡ false → part.fragment.offset ≡ 0 → SpellsUser h.from h.to d octets
    → heard h.destination h.to (part_frame h part octets) ≡ Ok (Udp (record { carrier = part_datagram h part octets; datagram = d }))
parts_heard h part octets d is from to destination source may last first spells =
    heard_user h.destination h.to (part_frame h part octets) (record { carrier = part_datagram h part octets; datagram = d })
    ((part_brings h part octets is from to destination source may, (last, first), refl), spells)

pub fragments_heard : (h : FrameHead) (part : Part) (octets : List ℕ) → IsPart part octets → length h.from.0 ≡ 4 → length h.to.0 ≡ 4
    → length h.destination.0 ≡ 6 → length h.source.0 ≡ 6 → MaySend h.to h.from
    → (part.fragment.more_fragments ≡ false → part.fragment.offset ≡ 0 → ⊥)
    → heard h.destination h.to (part_frame h part octets) ≡ Ok (UdpFragment (part_datagram h part octets))
fragments_heard h part octets is from to destination source may cut =
    heard_part h.destination h.to (part_frame h part octets) (part_datagram h part octets)
    (part_brings h part octets is from to destination source may, λ whole. cut whole.0 whole.1, refl)

-- where a packet goes
pub destination_len : (o : Operation) (target : Mac) → length target.0 ≡ 6 → length (packet_destination o target).0 ≡ 6
destination_len Request target six = refl
destination_len Reply target six = six

-- a packet that is for us
packet_heard : (p : ArpPacket) (mac : Mac) (ours : Addr) → HasWidths p → MaySend ours p.sender_addr
    → (packet_destination p.operation p.target_mac ≡ mac) ⊎ ((packet_destination p.operation p.target_mac ≡ broadcast) × (arp_type ≡ arp_type))
    → heard mac ours (packet_frame p) ≡ Ok (Arp p)
packet_heard p mac ours widths may for =
    let head : EtherHead = record { destination = packet_destination p.operation p.target_mac; source = p.sender_mac; kind = arp_type } in
    let destination = destination_len p.operation p.target_mac widths.target_mac in
    let brings : Brings mac (packet_frame p) arp_type (packet_octets p ++ padding (packet_octets p)) = record {
      frame = frame_sent head (packet_octets p);
      spelled = frame_spelled head (packet_octets p) destination widths.sender_mac (omega arith);
      most = omega (arith, length-sent head (packet_octets p) destination widths.sender_mac, length-spelling p widths);
      ours = for;
      type = refl;
      carried = refl;
    } in
    heard_packet mac ours (packet_frame p) p (
      packet_octets p ++ padding (packet_octets p),
      brings,
      record { padding = padding (packet_octets p); widths = widths; spelled = refl },
      may,
    )

-- a request is heard by every interface, a reply by that of its target
pub requests_heard : (p : ArpPacket) (mac : Mac) (ours : Addr) → HasWidths p → MaySend ours p.sender_addr → p.operation ≡ Request → heard mac ours (packet_frame p) ≡ Ok (Arp p)
requests_heard p mac ours widths may is = packet_heard p mac ours widths may (inr (ap (λ (o : Operation). packet_destination o p.target_mac) is, refl))

pub replies_heard : (p : ArpPacket) (ours : Addr) → HasWidths p → MaySend ours p.sender_addr → p.operation ≡ Reply → heard p.target_mac ours (packet_frame p) ≡ Ok (Arp p)
replies_heard p ours widths may is = packet_heard p p.target_mac ours widths may (inl (ap (λ (o : Operation). packet_destination o p.target_mac) is))
