-- What is heard is what octets spell.
use Rattle.std.proofs.Common.{◌≡◌, inl, inr, ◌↔◌, ℕ, ◌<◌, ◌≤◌, ◌==◌, ◌&&◌, Bool, true, false, cond, List, length, Option, Some, None, Result, Ok, Err, refl, sym, ◌∙◌, subst, ⊎_elim}
use Rattle.std.proofs.lemmas.Bool.{cases_lt, eqb-true}
use Rattle.ether.specs.declared.mac.Mac.{Mac}
use Rattle.ether.specs.Frame.{Frame, Spells as SpellsFrame}
use Rattle.ether.specs.Reading.{frame_in}
use Rattle.ether.proofs.Reading.{is_spelled as frame_spelled, too_few}
use Rattle.arp.specs.declared.packet.ArpPacket.{ArpPacket}
use Rattle.arp.specs.Packet.{Spells as SpellsPacket}
use Rattle.arp.specs.Reading.{packet_in}
use Rattle.arp.proofs.PlainReading.{is_spelled as packet_spelled, unread as packet_unread}
use Rattle.ipv4.specs.declared.addr.Addr.{Addr}
use Rattle.ipv4.specs.declared.fault.Ipv4Fault.{Ipv4Fault}
use Rattle.ipv4.specs.declared.fault.Ipv4Fault.TheVariants as datagram
use Rattle.ipv4.specs.Datagram.{Datagram, IsParsed as IsDatagram}
use Rattle.ipv4.specs.Reading.{datagram_in}
use Rattle.ipv4.proofs.Octets.{each_octet}
use Rattle.ipv4.proofs.Reading.{is_parsed as datagram_parsed}
use Rattle.tcp_segment.specs.declared.fault.SegmentFault.{SegmentFault}
use Rattle.tcp_segment.specs.declared.fault.SegmentFault.TheVariants as segment
use Rattle.tcp_segment.specs.Segment.{Segment, IsParsed as IsSegment}
use Rattle.tcp_segment.specs.Reading.{segment_or_fault}
use Rattle.tcp_segment.proofs.Answering.{fault_parsed}
use Rattle.icmp.specs.declared.fault.IcmpFault.{IcmpFault}
use Rattle.icmp.specs.declared.fault.IcmpFault.TheVariants as message
use Rattle.icmp.specs.Message.{Message, IsParsed as IsMessage}
use Rattle.icmp.specs.Reading.{message_or_fault}
use Rattle.icmp.proofs.Answering.{read_parsed as message_parsed}
use Rattle.udp.specs.declared.fault.UdpFault.{UdpFault}
use Rattle.udp.specs.declared.fault.UdpFault.TheVariants as user
use Rattle.udp.specs.Datagram.{UserDatagram, IsParsed as IsUser}
use Rattle.udp.specs.Reading.{datagram_or_fault}
use Rattle.udp.proofs.Plain.{fault_parsed as user_parsed}
use Rattle.frames.specs.declared.drop.DropCause.{DropCause}
use Rattle.frames.specs.declared.drop.DropCause.TheVariants.{OtherMac, OtherType, OtherAddress, Fragment}
use Rattle.frames.specs.declared.meaning.Meaning.{Meaning}
use Rattle.frames.specs.declared.meaning.Meaning.TheVariants.{Arp, Other, UdpFragment}
use Rattle.frames.specs.Heard.{Brings, BringsDatagram, BringsIcmp, BringsTcp, BringsUdp, IsHeard, IsWhole}
use Rattle.frames.specs.Meaning.{arp_type, datagram_heard, fragment_heard, frame_heard, heard, ipv4_type, is_for, is_fragment, may_send, message_heard, packet_heard, payload_heard, segment_heard, upper_heard, user_heard, whole_heard}
use Rattle.ipv4.specs.Addresses.{same_addr}
use Rattle.frames.proofs.Layers.{as_frame, too_many}
use Rattle.frames.proofs.Meanings.{AreOctets, brought_octets, source_len, spelled_heard, upper_octets}
use Rattle.frames.proofs.Deciding.{ends-Decides, for-Decides, never, number-Decides, send-Decides, unfragmented, whole}

-- a segment
of_segment : (mac : Mac) (ours : Addr) (octets : List ℕ) (d : Datagram) (read : Result Segment SegmentFault) → BringsTcp mac ours octets d
    → IsSegment d.source d.destination d.payload read → IsHeard mac ours octets (segment_heard d.source read)
of_segment mac ours octets d (Ok s) brings is = (d, brings, is, refl)
of_segment mac ours octets d (Err segment.UpperHeader) brings is = inr (inl (d, brings, is))
of_segment mac ours octets d (Err segment.UpperSum) brings is = inl (d, brings, is)

-- an ICMP message
of_message : (mac : Mac) (ours : Addr) (octets : List ℕ) (d : Datagram) (read : Result Message IcmpFault) → BringsIcmp mac ours octets d
    → IsMessage d.payload read → IsHeard mac ours octets (message_heard d.source read)
of_message mac ours octets d (Ok m) brings is = (d, brings, is, refl)
of_message mac ours octets d (Err message.UpperHeader) brings is = inr (inr (inl (d, brings, is)))
of_message mac ours octets d (Err message.UpperSum) brings is = inr (inl (d, brings, is))

-- a UDP datagram
of_user : (mac : Mac) (ours : Addr) (octets : List ℕ) (d : Datagram) (read : Result UserDatagram UdpFault) → BringsUdp mac ours octets d
    → IsUser d.source d.destination d.payload read → IsHeard mac ours octets (user_heard d read)
of_user mac ours octets d (Ok u) brings is = (brings, is)
of_user mac ours octets d (Err user.UpperHeader) brings is = inr (inr (inr (d, brings, is)))
of_user mac ours octets d (Err user.UpperSum) brings is = inr (inr (d, brings, is))

-- a fragment for us
of_fragment : (mac : Mac) (ours : Addr) (octets : List ℕ) (d : Datagram) → BringsDatagram mac ours octets d → (IsWhole d → ⊥) → IsHeard mac ours octets (fragment_heard d)
of_fragment mac ours octets d brings part = by_user (d.protocol == 17) refl
  where
    by_user : (user : Bool) → (d.protocol == 17) ≡ user → IsHeard mac ours octets (cond user (Ok (UdpFragment d)) (Err Fragment))
    by_user true is = (brings, part, eqb-true d.protocol 17 is)
    by_user false is = (d, brings, part, never (d.protocol == 17) (number-Decides d.protocol 17) is)

-- a whole datagram for us
of_whole : (mac : Mac) (ours : Addr) (octets : List ℕ) (d : Datagram) → AreOctets octets → BringsDatagram mac ours octets d → IsWhole d → IsHeard mac ours octets (whole_heard d)
of_whole mac ours octets d each brings is_whole = by_protocol (d.protocol == 6) (d.protocol == 1) (d.protocol == 17) refl refl refl
  where
    own : AreOctets d.payload
    own = upper_octets mac ours octets d brings each

    by_protocol : (tcp icmp udp : Bool) → (d.protocol == 6) ≡ tcp → (d.protocol == 1) ≡ icmp → (d.protocol == 17) ≡ udp
        → IsHeard mac ours octets (
        cond tcp (segment_heard d.source (segment_or_fault d.source d.destination d.payload))
        (cond icmp (message_heard d.source (message_or_fault d.payload)) (cond udp (user_heard d (datagram_or_fault d.source d.destination d.payload)) (Ok (Other d))))
        )
    by_protocol true icmp udp is_tcp is_icmp is_udp =
        of_segment mac ours octets d (segment_or_fault d.source d.destination d.payload) (brings, is_whole, eqb-true d.protocol 6 is_tcp)
        (fault_parsed d.source d.destination d.payload (each_octet d.payload own))
    by_protocol false true udp is_tcp is_icmp is_udp =
        of_message mac ours octets d (message_or_fault d.payload) (brings, is_whole, eqb-true d.protocol 1 is_icmp) (message_parsed d.payload own)
    by_protocol false false true is_tcp is_icmp is_udp =
        of_user mac ours octets d (datagram_or_fault d.source d.destination d.payload) (brings, is_whole, eqb-true d.protocol 17 is_udp)
        (user_parsed d.source d.destination d.payload (each_octet d.payload own))
    by_protocol false false false is_tcp is_icmp is_udp = (
      brings,
      is_whole,
      never (d.protocol == 6) (number-Decides d.protocol 6) is_tcp,
      never (d.protocol == 1) (number-Decides d.protocol 1) is_icmp,
      never (d.protocol == 17) (number-Decides d.protocol 17) is_udp,
    )

-- a datagram for us
of_upper : (mac : Mac) (ours : Addr) (octets : List ℕ) (d : Datagram) → AreOctets octets → BringsDatagram mac ours octets d → IsHeard mac ours octets (upper_heard d)
of_upper mac ours octets d each brings = by_part (is_fragment d) refl
  where
    by_part : (part : Bool) → is_fragment d ≡ part → IsHeard mac ours octets (cond part (fragment_heard d) (whole_heard d))
    by_part true is = of_fragment mac ours octets d brings (λ all. let no : false ≡ true = sym (unfragmented d all) ∙ is in cc)
    by_part false is = of_whole mac ours octets d each brings (whole d is)

-- a datagram
of_datagram : (mac : Mac) (ours : Addr) (octets payload : List ℕ) (read : Result Datagram Ipv4Fault) → AreOctets octets → Brings mac octets ipv4_type payload
    → IsDatagram payload read → IsHeard mac ours octets (datagram_heard ours read)
of_datagram mac ours octets payload (Err datagram.IpHeader) each brings is = (payload, brings, is)
of_datagram mac ours octets payload (Err datagram.IpSum) each brings is = (payload, brings, is)
of_datagram mac ours octets payload (Ok d) each brings is = by_ends (same_addr d.destination ours && may_send ours d.source) refl
  where
    by_ends : (b : Bool) → (same_addr d.destination ours && may_send ours d.source) ≡ b → IsHeard mac ours octets (cond b (upper_heard d) (Err OtherAddress))
    by_ends true e =
        let ends = (ends-Decides ours d (source_len d payload is)).0 e in
        of_upper mac ours octets d each (record { payload = payload; brought = brings; spelled = is; destination = ends.0; source = ends.1 })
    by_ends false e = inr (payload, d, brings, is, never (same_addr d.destination ours && may_send ours d.source) (ends-Decides ours d (source_len d payload is)) e)

-- a packet
of_packet : (mac : Mac) (ours : Addr) (octets payload : List ℕ) (read : Option ArpPacket) → AreOctets payload → Brings mac octets arp_type payload
    → packet_in payload ≡ read → IsHeard mac ours octets (packet_heard ours read)
of_packet mac ours octets payload None each brings found = inl (payload, brings, packet_unread payload found)
of_packet mac ours octets payload (Some p) each brings found = by_sender (may_send ours p.sender_addr) refl
  where
    by_sender : (b : Bool) → may_send ours p.sender_addr ≡ b → IsHeard mac ours octets (cond b (Ok (Arp p)) (Err OtherAddress))
    by_sender true e =
        let spells : SpellsPacket p payload = packet_spelled payload p each found in
        (payload, brings, spells, (send-Decides ours p.sender_addr spells.widths.sender_addr).0 e)
    by_sender false e =
        let spells : SpellsPacket p payload = packet_spelled payload p each found in
        inl (payload, p, brings, spells, never (may_send ours p.sender_addr) (send-Decides ours p.sender_addr spells.widths.sender_addr) e)

-- the payload of a frame for us
of_payload : (mac : Mac) (ours : Addr) (octets : List ℕ) (kind : ℕ) (payload : List ℕ) → AreOctets octets → Brings mac octets kind payload
    → IsHeard mac ours octets (payload_heard ours kind payload)
of_payload mac ours octets kind payload each brings = by_kind (kind == arp_type) (kind == ipv4_type) refl refl
  where
    by_kind : (arp ipv4 : Bool) → (kind == arp_type) ≡ arp → (kind == ipv4_type) ≡ ipv4
        → IsHeard mac ours octets (cond arp (packet_heard ours (packet_in payload)) (cond ipv4 (datagram_heard ours (datagram_in payload)) (Err OtherType)))
    by_kind true ipv4 is_arp is_ipv4 =
        let own : Brings mac octets arp_type payload = subst (λ (n : ℕ). Brings mac octets n payload) (eqb-true kind arp_type is_arp) brings in
        of_packet mac ours octets payload (packet_in payload) (brought_octets mac octets arp_type payload own each) own refl
    by_kind false true is_arp is_ipv4 =
        let own : Brings mac octets ipv4_type payload = subst (λ (n : ℕ). Brings mac octets n payload) (eqb-true kind ipv4_type is_ipv4) brings in
        of_datagram mac ours octets payload (datagram_in payload) each own (datagram_parsed payload (brought_octets mac octets ipv4_type payload own each))
    by_kind false false is_arp is_ipv4 =
        (kind, payload, brings, never (kind == ipv4_type) (number-Decides kind ipv4_type) is_ipv4, never (kind == arp_type) (number-Decides kind arp_type) is_arp)

-- a frame
of_frame : (mac : Mac) (ours : Addr) (octets : List ℕ) (read : Option Frame) → AreOctets octets → length octets ≤ 1514 → frame_in octets ≡ read
    → IsHeard mac ours octets (frame_heard mac ours read)
of_frame mac ours octets None each most found = inl (too_few octets found)
of_frame mac ours octets (Some f) each most found = by_mac (is_for mac f) refl
  where
    spells : SpellsFrame f octets
    spells = frame_spelled octets f each found

    by_mac : (b : Bool) → is_for mac f ≡ b → IsHeard mac ours octets (cond b (payload_heard ours f.kind f.payload) (Err OtherMac))
    by_mac true e =
        of_payload mac ours octets f.kind f.payload each
        (record { frame = f; spelled = spells; most = most; ours = (for-Decides mac f).0 e; type = refl; carried = refl })
    by_mac false e = (f, spells, most, never (is_for mac f) (for-Decides mac f) e)

-- octets spell what they are to a host
all_spelled : (mac : Mac) (ours : Addr) (octets : List ℕ) → AreOctets octets → IsHeard mac ours octets (heard mac ours octets)
all_spelled mac ours octets each = ⊎_elim more no_more (cases_lt 1514 (length octets))
  where
    more : 1514 < length octets → IsHeard mac ours octets (heard mac ours octets)
    more many = subst (IsHeard mac ours octets) (sym (too_many mac ours octets many)) (inr many)

    no_more : length octets ≤ 1514 → IsHeard mac ours octets (heard mac ours octets)
    no_more most =
        subst (IsHeard mac ours octets) (sym (as_frame mac ours octets (frame_in octets) most refl)) (of_frame mac ours octets (frame_in octets) each most refl)

pub one_meaning : (mac : Mac) (ours : Addr) (octets : List ℕ) (answer : Result Meaning DropCause) → AreOctets octets → (IsHeard mac ours octets answer ↔ (heard mac ours octets ≡ answer))
one_meaning mac ours octets answer each = (
  spelled_heard mac ours octets answer each,
  λ is. subst (IsHeard mac ours octets) is (all_spelled mac ours octets each),
)
