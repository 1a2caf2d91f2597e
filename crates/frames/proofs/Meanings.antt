-- What octets are to a host is what they spell.
use Rattle.std.proofs.Common.{◌≡◌, ◌≢◌, ◌⊎◌, ℕ, ◌<◌, ◌==◌, ◌&&◌, false, cond, List, ◌++◌, length, All, Option, Some, None, Result, Ok, Err, arith, refl, sym, ◌∙◌, ap, subst, ⊎_elim}
use Rattle.std.proofs.lemmas.Bool.{eq-eqb}
use Rattle.std.proofs.lemmas.List.{drop_at, take_at}
use Rattle.std.proofs.lemmas.List.Elements.{All-drop, All-take}
use Rattle.ether.specs.declared.mac.Mac.{Mac}
use Rattle.ether.specs.Frame.{Frame, head_octets, Spells as SpellsFrame}
use Rattle.ether.proofs.Reading.{read_ok as frame_found, unread as frame_unread}
use Rattle.arp.specs.declared.packet.ArpFault.TheVariants as packet
use Rattle.arp.specs.declared.packet.ArpPacket.{ArpPacket}
use Rattle.arp.specs.Packet.{Spells as SpellsPacket, IsParsed as IsPacket}
use Rattle.arp.specs.Reading.{packet_in}
use Rattle.arp.proofs.PlainReading.{read_ok as packet_found, read_err as packet_malformed}
use Rattle.ipv4.specs.declared.addr.Addr.{Addr}
use Rattle.ipv4.specs.declared.fault.Ipv4Fault.{Ipv4Fault}
use Rattle.ipv4.specs.declared.fault.Ipv4Fault.TheVariants as datagram
use Rattle.ipv4.specs.Datagram.{Datagram, header_octets, spelling, Spells as SpellsDatagram}
use Rattle.ipv4.specs.Reading.{datagram_in}
use Rattle.ipv4.proofs.Octets.{each_octet}
use Rattle.ipv4.proofs.Reading.{read_ok as datagram_found, read_err as datagram_fault}
use Rattle.tcp_segment.specs.declared.fault.SegmentFault.{SegmentFault}
use Rattle.tcp_segment.specs.declared.fault.SegmentFault.TheVariants as segment
use Rattle.tcp_segment.specs.Segment.{Segment, Spells as SpellsSegment, IsParsed as IsSegment}
use Rattle.tcp_segment.specs.Reading.{segment_or_fault}
use Rattle.tcp_segment.proofs.Answering.{fault_ok, fault_err}
use Rattle.icmp.specs.declared.fault.IcmpFault.{IcmpFault}
use Rattle.icmp.specs.declared.fault.IcmpFault.TheVariants as message
use Rattle.icmp.specs.Message.{Message, IsParsed as IsMessage, Spells as SpellsMessage}
use Rattle.icmp.specs.Reading.{message_or_fault}
use Rattle.icmp.proofs.Answering.{read_ok as message_found, read_err as message_malformed}
use Rattle.udp.specs.declared.fault.UdpFault.{UdpFault}
use Rattle.udp.specs.declared.fault.UdpFault.TheVariants as user
use Rattle.udp.specs.Datagram.{UserDatagram, IsParsed as IsUser}
use Rattle.udp.specs.Reading.{datagram_or_fault}
use Rattle.udp.proofs.Plain.{fault_ok as user_found, fault_err as user_malformed}
use Rattle.frames.specs.declared.drop.DropCause.{DropCause}
use Rattle.frames.specs.declared.drop.DropCause.TheVariants.{Short, OtherMac, OtherType, IpHeader, IpSum, OtherAddress, UpperHeader, UpperSum, NoRoom, Fragment}
use Rattle.frames.specs.declared.meaning.Meaning.{Meaning}
use Rattle.frames.specs.declared.meaning.ReceivedDatagram.{ReceivedDatagram}
use Rattle.frames.specs.declared.meaning.Meaning.TheVariants.{Arp, Tcp, Icmp, Udp, Other, UdpFragment}
use Rattle.frames.specs.Heard.{Brings, BringsDatagram, BringsIcmp, BringsTcp, BringsUdp, IsHeard, IsWhole, MaySend}
use Rattle.frames.specs.Meaning.{arp_type, datagram_heard, fragment_heard, heard, ipv4_type, is_for, may_send, message_heard, packet_heard, payload_heard, segment_heard, upper_heard, user_heard, whole_heard}
use Rattle.ipv4.specs.Addresses.{same_addr}
use Rattle.frames.proofs.Layers.{as_frame, for_another, for_us, from_none, from_other, too_many}
use Rattle.frames.proofs.Deciding.{ends-Decides, for-Decides, fragmented, number-Decides, refuted, send-Decides, unfragmented}

-- each is an octet
abbrev pub AreOctets : List ℕ → Type 0
AreOctets octets = All (λ octet. octet < 256) octets

-- what stands behind a front
tail_octets : (front rest : List ℕ) → AreOctets (front ++ rest) → AreOctets rest
tail_octets front rest each = subst AreOctets (drop_at front rest (length front) refl) (All-drop (λ octet. octet < 256) (length front) (front ++ rest) each)

front_octets : (front rest : List ℕ) → AreOctets (front ++ rest) → AreOctets front
front_octets front rest each = subst AreOctets (take_at front rest (length front) refl) (All-take (λ octet. octet < 256) (length front) (front ++ rest) each)

pub payload_octets : (f : Frame) (octets : List ℕ) → SpellsFrame f octets → AreOctets octets → AreOctets f.payload
payload_octets f octets spells each = tail_octets (head_octets f.destination f.source f.kind) f.payload (subst AreOctets spells.spelled each)

pub brought_octets : (mac : Mac) (octets : List ℕ) (kind : ℕ) (payload : List ℕ) → Brings mac octets kind payload → AreOctets octets → AreOctets payload
brought_octets mac octets kind payload brings each = subst AreOctets brings.carried (payload_octets brings.frame octets brings.spelled each)

pub datagram_octets : (d : Datagram) (payload : List ℕ) → SpellsDatagram d payload → AreOctets payload → AreOctets d.payload
datagram_octets d payload spells each =
    let form = spells.form in
    tail_octets (header_octets d) d.payload (front_octets (spelling d) form.padding (subst AreOctets form.spelled each))

pub upper_octets : (mac : Mac) (ours : Addr) (octets : List ℕ) (d : Datagram) → BringsDatagram mac ours octets d → AreOctets octets → AreOctets d.payload
upper_octets mac ours octets d brings each =
    datagram_octets d brings.payload brings.spelled (brought_octets mac octets ipv4_type brings.payload brings.brought each)

-- what is heard of a frame for us
brought : (mac : Mac) (ours : Addr) (octets : List ℕ) (kind : ℕ) (payload : List ℕ) → Brings mac octets kind payload → heard mac ours octets ≡ payload_heard ours kind payload
brought mac ours octets kind payload brings =
    let f : Frame = brings.frame in
    as_frame mac ours octets (Some f) brings.most (frame_found octets f brings.spelled)
    ∙ for_us mac ours f ((for-Decides mac f).1 brings.ours)
    ∙ ap (λ n. payload_heard ours n f.payload) brings.type
    ∙ ap (payload_heard ours kind) brings.carried

-- of a packet, and of a datagram
brought_packet : (mac : Mac) (ours : Addr) (octets payload : List ℕ) (read : Option ArpPacket) → Brings mac octets arp_type payload → packet_in payload ≡ read
    → heard mac ours octets ≡ packet_heard ours read
brought_packet mac ours octets payload read brings found = brought mac ours octets arp_type payload brings ∙ ap (packet_heard ours) found

brought_datagram : (mac : Mac) (ours : Addr) (octets payload : List ℕ) (read : Result Datagram Ipv4Fault) → Brings mac octets ipv4_type payload → datagram_in payload ≡ read
    → heard mac ours octets ≡ datagram_heard ours read
brought_datagram mac ours octets payload read brings found = brought mac ours octets ipv4_type payload brings ∙ ap (datagram_heard ours) found

pub source_len : (d : Datagram) (payload : List ℕ) → SpellsDatagram d payload → length d.source.0 ≡ 4
source_len d payload spells = spells.form.fields.source

-- of a datagram for us
for_host : (mac : Mac) (ours : Addr) (octets : List ℕ) (d : Datagram) → BringsDatagram mac ours octets d → heard mac ours octets ≡ upper_heard d
for_host mac ours octets d brings =
    let may = (ends-Decides ours d (source_len d brings.payload brings.spelled)).1 (brings.destination, brings.source) in
    brought_datagram mac ours octets brings.payload (Ok d) brings.brought (datagram_found brings.payload d brings.spelled)
    ∙ ap (λ b. cond b (upper_heard d) (Err OtherAddress)) may

-- of a whole datagram for us, and of a fragment
for_whole : (mac : Mac) (ours : Addr) (octets : List ℕ) (d : Datagram) → BringsDatagram mac ours octets d → IsWhole d → heard mac ours octets ≡ whole_heard d
for_whole mac ours octets d brings is = for_host mac ours octets d brings ∙ ap (λ b. cond b (fragment_heard d) (whole_heard d)) (unfragmented d is)

for_part : (mac : Mac) (ours : Addr) (octets : List ℕ) (d : Datagram) → BringsDatagram mac ours octets d → (IsWhole d → ⊥) → heard mac ours octets ≡ fragment_heard d
for_part mac ours octets d brings none = for_host mac ours octets d brings ∙ ap (λ b. cond b (fragment_heard d) (whole_heard d)) (fragmented d none)

-- what is heard of a whole datagram for us that doesn't carry TCP, and of one that carries neither TCP nor ICMP
abbrev beside_icmp : Datagram → Result Meaning DropCause
beside_icmp d = cond (d.protocol == 17) (user_heard d (datagram_or_fault d.source d.destination d.payload)) (Ok (Other d))

abbrev beside_tcp : Datagram → Result Meaning DropCause
beside_tcp d = cond (d.protocol == 1) (message_heard d.source (message_or_fault d.payload)) (beside_icmp d)

-- of a segment for us
for_socket : (mac : Mac) (ours : Addr) (octets : List ℕ) (d : Datagram) (read : Result Segment SegmentFault) → BringsTcp mac ours octets d
    → segment_or_fault d.source d.destination d.payload ≡ read → heard mac ours octets ≡ segment_heard d.source read
for_socket mac ours octets d read brings found =
    let one : Result Meaning DropCause = segment_heard d.source (segment_or_fault d.source d.destination d.payload) in
    for_whole mac ours octets d brings.0 brings.1 ∙ ap (λ b. cond b one (beside_tcp d)) (eq-eqb d.protocol 6 brings.2) ∙ ap (segment_heard d.source) found

-- of a whole datagram for us of another protocol
no_socket : (mac : Mac) (ours : Addr) (octets : List ℕ) (d : Datagram) → BringsDatagram mac ours octets d → IsWhole d → d.protocol ≢ 6
    → heard mac ours octets ≡ beside_tcp d
no_socket mac ours octets d brings is other =
    let segments : Result Meaning DropCause = segment_heard d.source (segment_or_fault d.source d.destination d.payload) in
    for_whole mac ours octets d brings is ∙ ap (λ b. cond b segments (beside_tcp d)) (refuted (d.protocol == 6) (number-Decides d.protocol 6) other)

-- of an ICMP message for us
for_control : (mac : Mac) (ours : Addr) (octets : List ℕ) (d : Datagram) (read : Result Message IcmpFault) → BringsIcmp mac ours octets d
    → message_or_fault d.payload ≡ read → heard mac ours octets ≡ message_heard d.source read
for_control mac ours octets d read brings found =
    let one : Result Meaning DropCause = message_heard d.source (message_or_fault d.payload) in
    no_socket mac ours octets d brings.0 brings.1 (λ e. omega (arith, brings.2, e))
    ∙ ap (λ b. cond b one (beside_icmp d)) (eq-eqb d.protocol 1 brings.2)
    ∙ ap (message_heard d.source) found

-- of a whole datagram for us that carries neither TCP nor ICMP
no_control : (mac : Mac) (ours : Addr) (octets : List ℕ) (d : Datagram) → BringsDatagram mac ours octets d → IsWhole d → d.protocol ≢ 6 → d.protocol ≢ 1
    → heard mac ours octets ≡ beside_icmp d
no_control mac ours octets d brings is no_tcp no_icmp =
    no_socket mac ours octets d brings is no_tcp
    ∙ ap (λ b. cond b (message_heard d.source (message_or_fault d.payload)) (beside_icmp d)) (refuted (d.protocol == 1) (number-Decides d.protocol 1) no_icmp)

-- of a UDP datagram for us
for_user : (mac : Mac) (ours : Addr) (octets : List ℕ) (d : Datagram) (read : Result UserDatagram UdpFault) → BringsUdp mac ours octets d
    → datagram_or_fault d.source d.destination d.payload ≡ read → heard mac ours octets ≡ user_heard d read
for_user mac ours octets d read brings found =
    let one : Result Meaning DropCause = user_heard d (datagram_or_fault d.source d.destination d.payload) in
    no_control mac ours octets d brings.0 brings.1 (λ e. omega (arith, brings.2, e)) (λ e. omega (arith, brings.2, e))
    ∙ ap (λ b. cond b one (Ok (Other d))) (eq-eqb d.protocol 17 brings.2)
    ∙ ap (user_heard d) found

-- what octets spell is heard: a packet, a segment, an ICMP message, another datagram
pub heard_packet : (mac : Mac) (ours : Addr) (octets : List ℕ) (p : ArpPacket) → IsHeard mac ours octets (Ok (Arp p)) → heard mac ours octets ≡ Ok (Arp p)
heard_packet mac ours octets p is =
    brought_packet mac ours octets is.0 (Some p) is.1 (packet_found is.0 p is.2) ∙ from_other ours p ((send-Decides ours p.sender_addr is.2.widths.sender_addr).1 is.3)

pub heard_segment : (mac : Mac) (ours : Addr) (octets : List ℕ) (d : Datagram) (s : Segment) → BringsTcp mac ours octets d → SpellsSegment d.source d.destination s d.payload
    → heard mac ours octets ≡ Ok (Tcp (record { source = d.source; segment = s }))
heard_segment mac ours octets d s brings spells = for_socket mac ours octets d (Ok s) brings (fault_ok d.source d.destination d.payload s spells)

pub heard_message : (mac : Mac) (ours : Addr) (octets : List ℕ) (d : Datagram) (m : Message) → BringsIcmp mac ours octets d → SpellsMessage m d.payload
    → heard mac ours octets ≡ Ok (Icmp (record { source = d.source; message = m }))
heard_message mac ours octets d m brings spells = for_control mac ours octets d (Ok m) brings (message_found d.payload m spells)

heard_other : (mac : Mac) (ours : Addr) (octets : List ℕ) (d : Datagram) → IsHeard mac ours octets (Ok (Other d)) → heard mac ours octets ≡ Ok (Other d)
heard_other mac ours octets d is =
    let one : Result Meaning DropCause = user_heard d (datagram_or_fault d.source d.destination d.payload) in
    no_control mac ours octets d is.0 is.1 is.2 is.3
    ∙ ap (λ b. cond b one (Ok (Other d))) (refuted (d.protocol == 17) (number-Decides d.protocol 17) is.4)

pub heard_user : (mac : Mac) (ours : Addr) (octets : List ℕ) (r : ReceivedDatagram) → IsHeard mac ours octets (Ok (Udp r)) → heard mac ours octets ≡ Ok (Udp r)
heard_user mac ours octets r is =
    let d : Datagram = r.carrier in
    for_user mac ours octets d (Ok r.datagram) is.0 (user_found d.source d.destination d.payload r.datagram is.1)

pub heard_part : (mac : Mac) (ours : Addr) (octets : List ℕ) (d : Datagram) → IsHeard mac ours octets (Ok (UdpFragment d)) → heard mac ours octets ≡ Ok (UdpFragment d)
heard_part mac ours octets d is = for_part mac ours octets d is.0 is.1 ∙ ap (λ b. cond b (Ok (UdpFragment d)) (Err Fragment)) (eq-eqb d.protocol 17 is.2)

-- .. and each cause to drop it
heard_short : (mac : Mac) (ours : Addr) (octets : List ℕ) → AreOctets octets → (length octets < 14) ⊎ (1514 < length octets) → heard mac ours octets ≡ Err Short
heard_short mac ours octets each = ⊎_elim few (too_many mac ours octets)
  where
    few : length octets < 14 → heard mac ours octets ≡ Err Short
    few less = as_frame mac ours octets None (omega (arith, less)) (frame_unread octets less)

heard_other_type : (mac : Mac) (ours : Addr) (octets : List ℕ) → IsHeard mac ours octets (Err OtherType) → heard mac ours octets ≡ Err OtherType
heard_other_type mac ours octets is =
    let kind : ℕ = is.0 in
    let no_arp : (kind == arp_type) ≡ false = refuted (kind == arp_type) (number-Decides kind arp_type) is.4 in
    let no_ipv4 : (kind == ipv4_type) ≡ false = refuted (kind == ipv4_type) (number-Decides kind ipv4_type) is.3 in
    let datagrams : Result Meaning DropCause = cond (kind == ipv4_type) (datagram_heard ours (datagram_in is.1)) (Err OtherType) in
    brought mac ours octets kind is.1 is.2
    ∙ ap (λ b. cond b (packet_heard ours (packet_in is.1)) datagrams) no_arp
    ∙ ap (λ b. cond b (datagram_heard ours (datagram_in is.1)) (Err OtherType)) no_ipv4

heard_fragment : (mac : Mac) (ours : Addr) (octets : List ℕ) → IsHeard mac ours octets (Err Fragment) → heard mac ours octets ≡ Err Fragment
heard_fragment mac ours octets is =
    let d : Datagram = is.0 in
    for_part mac ours octets d is.1 is.2 ∙ ap (λ b. cond b (Ok (UdpFragment d)) (Err Fragment)) (refuted (d.protocol == 17) (number-Decides d.protocol 17) is.3)

heard_address : (mac : Mac) (ours : Addr) (octets : List ℕ) → IsHeard mac ours octets (Err OtherAddress) → heard mac ours octets ≡ Err OtherAddress
heard_address mac ours octets = ⊎_elim of_packet of_datagram
  where
    of_packet : ((payload : List ℕ) × (p : ArpPacket) × Brings mac octets arp_type payload × SpellsPacket p payload × (MaySend ours p.sender_addr → ⊥)) → heard mac ours octets ≡ Err OtherAddress
    of_packet is =
        brought_packet mac ours octets is.0 (Some is.1) is.2 (packet_found is.0 is.1 is.3)
        ∙ from_none ours is.1 (refuted (may_send ours is.1.sender_addr) (send-Decides ours is.1.sender_addr is.3.widths.sender_addr) is.4)

    of_datagram : ((payload : List ℕ) × (d : Datagram) × Brings mac octets ipv4_type payload × SpellsDatagram d payload × ((d.destination ≡ ours) × MaySend ours d.source → ⊥))
        → heard mac ours octets ≡ Err OtherAddress
    of_datagram is =
        let d : Datagram = is.1 in
        let no = refuted (same_addr d.destination ours && may_send ours d.source) (ends-Decides ours d (source_len d is.0 is.3)) is.4 in
        brought_datagram mac ours octets is.0 (Ok d) is.2 (datagram_found is.0 d is.3) ∙ ap (λ b. cond b (upper_heard d) (Err OtherAddress)) no

heard_malformed : (mac : Mac) (ours : Addr) (octets : List ℕ) → AreOctets octets → IsHeard mac ours octets (Err UpperHeader) → heard mac ours octets ≡ Err UpperHeader
heard_malformed mac ours octets each = ⊎_elim of_packet (⊎_elim of_segment (⊎_elim of_message of_user))
  where
    of_packet : ((payload : List ℕ) × Brings mac octets arp_type payload × IsPacket payload (Err packet.UpperHeader)) → heard mac ours octets ≡ Err UpperHeader
    of_packet is = brought_packet mac ours octets is.0 None is.1 (packet_malformed is.0 (brought_octets mac octets arp_type is.0 is.1 each) is.2)

    of_segment : ((d : Datagram) × BringsTcp mac ours octets d × IsSegment d.source d.destination d.payload (Err segment.UpperHeader)) → heard mac ours octets ≡ Err UpperHeader
    of_segment is =
        let d : Datagram = is.0 in
        for_socket mac ours octets d (Err segment.UpperHeader) is.1 (fault_err d.source d.destination d.payload segment.UpperHeader (each_octet d.payload (upper_octets mac ours octets d is.1.0 each)) is.2)

    of_message : ((d : Datagram) × BringsIcmp mac ours octets d × IsMessage d.payload (Err message.UpperHeader)) → heard mac ours octets ≡ Err UpperHeader
    of_message is =
        let d : Datagram = is.0 in
        for_control mac ours octets d (Err message.UpperHeader) is.1 (message_malformed d.payload message.UpperHeader (upper_octets mac ours octets d is.1.0 each) is.2)

    of_user : ((d : Datagram) × BringsUdp mac ours octets d × IsUser d.source d.destination d.payload (Err user.UpperHeader)) → heard mac ours octets ≡ Err UpperHeader
    of_user is =
        let d : Datagram = is.0 in
        for_user mac ours octets d (Err user.UpperHeader) is.1 (user_malformed d.source d.destination d.payload user.UpperHeader (each_octet d.payload (upper_octets mac ours octets d is.1.0 each)) is.2)

heard_damaged : (mac : Mac) (ours : Addr) (octets : List ℕ) → AreOctets octets → IsHeard mac ours octets (Err UpperSum) → heard mac ours octets ≡ Err UpperSum
heard_damaged mac ours octets each = ⊎_elim of_segment (⊎_elim of_message of_user)
  where
    of_segment : ((d : Datagram) × BringsTcp mac ours octets d × IsSegment d.source d.destination d.payload (Err segment.UpperSum)) → heard mac ours octets ≡ Err UpperSum
    of_segment is =
        let d : Datagram = is.0 in
        for_socket mac ours octets d (Err segment.UpperSum) is.1 (fault_err d.source d.destination d.payload segment.UpperSum (each_octet d.payload (upper_octets mac ours octets d is.1.0 each)) is.2)

    of_message : ((d : Datagram) × BringsIcmp mac ours octets d × IsMessage d.payload (Err message.UpperSum)) → heard mac ours octets ≡ Err UpperSum
    of_message is =
        let d : Datagram = is.0 in
        for_control mac ours octets d (Err message.UpperSum) is.1 (message_malformed d.payload message.UpperSum (upper_octets mac ours octets d is.1.0 each) is.2)

    of_user : ((d : Datagram) × BringsUdp mac ours octets d × IsUser d.source d.destination d.payload (Err user.UpperSum)) → heard mac ours octets ≡ Err UpperSum
    of_user is =
        let d : Datagram = is.0 in
        for_user mac ours octets d (Err user.UpperSum) is.1 (user_malformed d.source d.destination d.payload user.UpperSum (each_octet d.payload (upper_octets mac ours octets d is.1.0 each)) is.2)

-- what octets spell is what they are to a host
pub spelled_heard : (mac : Mac) (ours : Addr) (octets : List ℕ) (answer : Result Meaning DropCause) → AreOctets octets → IsHeard mac ours octets answer → heard mac ours octets ≡ answer
spelled_heard mac ours octets (Ok (Arp p)) each is = heard_packet mac ours octets p is
spelled_heard mac ours octets (Ok (Tcp t)) each is =
    heard_segment mac ours octets is.0 t.segment is.1 is.2 ∙ ap (λ (a : Addr). Ok (Tcp (record { source = a; segment = t.segment }))) (sym is.3)
spelled_heard mac ours octets (Ok (Icmp c)) each is =
    heard_message mac ours octets is.0 c.message is.1 is.2 ∙ ap (λ (a : Addr). Ok (Icmp (record { source = a; message = c.message }))) (sym is.3)
spelled_heard mac ours octets (Ok (Udp r)) each is = heard_user mac ours octets r is
spelled_heard mac ours octets (Ok (Other d)) each is = heard_other mac ours octets d is
spelled_heard mac ours octets (Ok (UdpFragment d)) each is = heard_part mac ours octets d is
spelled_heard mac ours octets (Err Short) each is = heard_short mac ours octets each is
spelled_heard mac ours octets (Err OtherMac) each is =
    as_frame mac ours octets (Some is.0) is.2 (frame_found octets is.0 is.1) ∙ for_another mac ours is.0 (refuted (is_for mac is.0) (for-Decides mac is.0) is.3)
spelled_heard mac ours octets (Err OtherType) each is = heard_other_type mac ours octets is
spelled_heard mac ours octets (Err IpHeader) each is =
    brought_datagram mac ours octets is.0 (Err datagram.IpHeader) is.1 (datagram_fault is.0 datagram.IpHeader (brought_octets mac octets ipv4_type is.0 is.1 each) is.2)
spelled_heard mac ours octets (Err IpSum) each is =
    brought_datagram mac ours octets is.0 (Err datagram.IpSum) is.1 (datagram_fault is.0 datagram.IpSum (brought_octets mac octets ipv4_type is.0 is.1 each) is.2)
spelled_heard mac ours octets (Err OtherAddress) each is = heard_address mac ours octets is
spelled_heard mac ours octets (Err UpperHeader) each is = heard_malformed mac ours octets each is
spelled_heard mac ours octets (Err UpperSum) each is = heard_damaged mac ours octets each is
spelled_heard mac ours octets (Err NoRoom) each is = absurd is
spelled_heard mac ours octets (Err Fragment) each is = heard_fragment mac ours octets is
