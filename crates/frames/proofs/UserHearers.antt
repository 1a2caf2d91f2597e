-- Who hears a UDP datagram or a fragment of what goes out, and that nobody hears anything else in the frame of a part.
use Rattle.std.proofs.Common.{◌≡◌, ◌≢◌, ℕ, List, length, Ok, arith, sym, ◌∙◌, ap, subst}
use Rattle.ether.specs.declared.mac.Mac.{Mac}
use Rattle.arp.specs.declared.packet.ArpPacket.{ArpPacket}
use Rattle.ipv4.specs.declared.addr.Addr.{Addr}
use Rattle.ipv4.specs.Datagram.{Datagram}
use Rattle.udp.specs.declared.cutting.Part.{Part}
use Rattle.udp.specs.Reading.{datagram_or_fault}
use Rattle.frames.specs.declared.emission.FrameHead.{FrameHead}
use Rattle.frames.specs.declared.meaning.Control.{Control}
use Rattle.frames.specs.declared.meaning.Meaning.{Meaning}
use Rattle.frames.specs.declared.meaning.Meaning.TheVariants.{Arp, Icmp, Udp, UdpFragment}
use Rattle.frames.specs.declared.meaning.ReceivedDatagram.{ReceivedDatagram}
use Rattle.frames.specs.Meaning.{heard}
use Rattle.frames.specs.Sent.{IsPart, datagram_frame, ipv4_head, message_frame, packet_frame, part_datagram, part_frame, part_head, segment_frame}
use Rattle.frames.proofs.Carried.{part_fields}
use Rattle.frames.proofs.Hearers.{nothing_in_packet, only_datagram}
use Rattle.frames.proofs.Origins.{IsOf, from_datagram}
use Rattle.frames.proofs.Protocols.{protocol_brought}

-- what is heard of the frame of a part is heard of its datagram, by the host that it is for
of_part : (h : FrameHead) (part : Part) (octets : List ℕ) (mac : Mac) (ours : Addr) (m : Meaning) → IsPart part octets → length h.from.0 ≡ 4 → length h.to.0 ≡ 4
    → length h.destination.0 ≡ 6 → length h.source.0 ≡ 6 → heard mac ours (part_frame h part octets) ≡ Ok m → ((p : ArpPacket) → m ≢ Arp p)
    → (ours ≡ h.to) × IsOf (part_datagram h part octets) m
of_part h part octets mac ours m is from to destination source answer other =
    let origin = from_datagram mac ours (part_frame h part octets) m answer other in
    let same : part_datagram h part octets ≡ origin.0 =
    only_datagram h (part_head h part) octets ours origin.0 (part_fields h part octets is from to) destination source origin.1 in (
      sym origin.1.destination ∙ ap (λ (d : Datagram). d.destination) (sym same),
      subst (λ (d : Datagram). IsOf d m) (sym same) origin.2,
    )

-- whoever hears a part hears the very one that is meant
pub parts_as_sent : (h : FrameHead) (part : Part) (octets : List ℕ) (mac : Mac) (ours : Addr) (r : ReceivedDatagram) → IsPart part octets → length h.from.0 ≡ 4
    → length h.to.0 ≡ 4 → length h.destination.0 ≡ 6 → length h.source.0 ≡ 6 → heard mac ours (part_frame h part octets) ≡ Ok (Udp r)
    → (ours ≡ h.to) × (r.carrier ≡ part_datagram h part octets) × (datagram_or_fault h.from h.to octets ≡ Ok r.datagram)
parts_as_sent h part octets mac ours r is from to destination source answer =
    let told = of_part h part octets mac ours (Udp r) is from to destination source answer (λ p no. cc) in
    (told.0, told.1.2, told.1.3)

pub fragments_as_sent : (h : FrameHead) (part : Part) (octets : List ℕ) (mac : Mac) (ours : Addr) (d : Datagram) → IsPart part octets → length h.from.0 ≡ 4
    → length h.to.0 ≡ 4 → length h.destination.0 ≡ 6 → length h.source.0 ≡ 6 → heard mac ours (part_frame h part octets) ≡ Ok (UdpFragment d)
    → (ours ≡ h.to) × (d ≡ part_datagram h part octets)
fragments_as_sent h part octets mac ours d is from to destination source answer =
    let told = of_part h part octets mac ours (UdpFragment d) is from to destination source answer (λ p no. cc) in
    (told.0, told.1.2)

-- nobody hears a message in its frame
pub no_message_in_part : (h : FrameHead) (part : Part) (octets : List ℕ) (mac : Mac) (ours : Addr) (c : Control) → length h.destination.0 ≡ 6
    → length h.source.0 ≡ 6 → heard mac ours (part_frame h part octets) ≢ Ok (Icmp c)
no_message_in_part h part octets mac ours c destination source answer =
    let from = from_datagram mac ours (part_frame h part octets) (Icmp c) answer (λ p no. cc) in
    let other = protocol_brought h (part_head h part) octets ours from.0 destination source from.1 in
    let protocol : 1 ≡ 17 = sym from.2.1 ∙ other in
    omega (arith, protocol)

-- and nobody hears a UDP datagram or a fragment in the frame of another kind
no_user : (h : FrameHead) (protocol : ℕ) (octets : List ℕ) (mac : Mac) (ours : Addr) (r : ReceivedDatagram) (d : Datagram) → protocol ≢ 17
    → length h.destination.0 ≡ 6 → length h.source.0 ≡ 6
    → (heard mac ours (datagram_frame h protocol octets) ≢ Ok (Udp r)) × (heard mac ours (datagram_frame h protocol octets) ≢ Ok (UdpFragment d))
no_user h protocol octets mac ours r d other destination source = (
  λ answer. let from = from_datagram mac ours (datagram_frame h protocol octets) (Udp r) answer (λ p no. cc) in
      other (sym (protocol_brought h (ipv4_head h protocol) octets ours from.0 destination source from.1) ∙ from.2.1),
  λ answer. let from = from_datagram mac ours (datagram_frame h protocol octets) (UdpFragment d) answer (λ p no. cc) in
      other (sym (protocol_brought h (ipv4_head h protocol) octets ours from.0 destination source from.1) ∙ from.2.1),
)

pub no_user_in_segment : (h : FrameHead) (octets : List ℕ) (mac : Mac) (ours : Addr) (r : ReceivedDatagram) (d : Datagram) → length h.destination.0 ≡ 6 → length h.source.0 ≡ 6
    → (heard mac ours (segment_frame h octets) ≢ Ok (Udp r)) × (heard mac ours (segment_frame h octets) ≢ Ok (UdpFragment d))
no_user_in_segment h octets mac ours r d = no_user h 6 octets mac ours r d (λ (is : 6 ≡ 17). omega (arith, is))

pub no_user_in_message : (h : FrameHead) (octets : List ℕ) (mac : Mac) (ours : Addr) (r : ReceivedDatagram) (d : Datagram) → length h.destination.0 ≡ 6 → length h.source.0 ≡ 6
    → (heard mac ours (message_frame h octets) ≢ Ok (Udp r)) × (heard mac ours (message_frame h octets) ≢ Ok (UdpFragment d))
no_user_in_message h octets mac ours r d = no_user h 1 octets mac ours r d (λ (is : 1 ≡ 17). omega (arith, is))

pub no_user_in_packet : (p : ArpPacket) (mac : Mac) (ours : Addr) (r : ReceivedDatagram) (d : Datagram) → length p.sender_mac.0 ≡ 6
    → length p.target_mac.0 ≡ 6 → (heard mac ours (packet_frame p) ≢ Ok (Udp r)) × (heard mac ours (packet_frame p) ≢ Ok (UdpFragment d))
no_user_in_packet p mac ours r d sender target =
    (λ answer. nothing (Udp r) answer (λ q no. cc), λ answer. nothing (UdpFragment d) answer (λ q no. cc))
  where
    nothing : (m : Meaning) → heard mac ours (packet_frame p) ≡ Ok m → ((q : ArpPacket) → m ≢ Arp q) → ⊥
    nothing m answer other = let from = from_datagram mac ours (packet_frame p) m answer other in nothing_in_packet p ours from.0 sender target from.1
