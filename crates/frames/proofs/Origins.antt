-- Where what is heard comes from: an ARP packet, or a datagram for us.
use Rattle.std.proofs.Common.{◌≡◌, ◌≢◌, ◌⊎◌, inl, inr, ℕ, ◌≤◌, ◌==◌, ◌&&◌, Bool, true, false, nat_lt, cond, List, length, Option, Some, None, Result, Ok, Err, arith, refl, subst, ⊎_elim}
use Rattle.std.proofs.lemmas.Bool.{eqb-true}
use Rattle.std.proofs.lemmas.Bool.Decides.{nat_tests}
use Rattle.ether.specs.declared.mac.Mac.{Mac}
use Rattle.ether.specs.Frame.{Frame}
use Rattle.ether.specs.Reading.{frame_in}
use Rattle.arp.specs.declared.packet.ArpPacket.{ArpPacket}
use Rattle.arp.specs.Reading.{packet_in}
use Rattle.ipv4.specs.declared.addr.Addr.{Addr}
use Rattle.ipv4.specs.Addresses.{same_addr}
use Rattle.ipv4.specs.declared.fault.Ipv4Fault.{Ipv4Fault}
use Rattle.ipv4.specs.declared.fault.Ipv4Fault.TheVariants as datagram
use Rattle.ipv4.specs.Datagram.{Datagram}
use Rattle.ipv4.specs.Reading.{datagram_in}
use Rattle.tcp_segment.specs.declared.fault.SegmentFault.{SegmentFault}
use Rattle.tcp_segment.specs.declared.fault.SegmentFault.TheVariants as segment
use Rattle.tcp_segment.specs.Segment.{Segment}
use Rattle.tcp_segment.specs.Reading.{segment_or_fault}
use Rattle.icmp.specs.declared.fault.IcmpFault.{IcmpFault}
use Rattle.icmp.specs.declared.fault.IcmpFault.TheVariants as message
use Rattle.icmp.specs.Message.{Message}
use Rattle.icmp.specs.Reading.{message_or_fault}
use Rattle.udp.specs.declared.fault.UdpFault.{UdpFault}
use Rattle.udp.specs.declared.fault.UdpFault.TheVariants as user
use Rattle.udp.specs.Datagram.{UserDatagram}
use Rattle.udp.specs.Reading.{datagram_or_fault}
use Rattle.frames.specs.declared.drop.DropCause.{DropCause}
use Rattle.frames.specs.declared.drop.DropCause.TheVariants.{Short, OtherMac, OtherType, OtherAddress, Fragment}
use Rattle.frames.specs.declared.meaning.Meaning.{Meaning}
use Rattle.frames.specs.declared.meaning.Meaning.TheVariants.{Arp, Tcp, Icmp, Udp, Other, UdpFragment}
use Rattle.frames.specs.Meaning.{arp_type, datagram_heard, fragment_heard, frame_heard, heard, ipv4_type, is_for, is_fragment, may_send, message_heard, packet_heard, segment_heard, upper_heard, user_heard, whole_heard}
use Rattle.frames.proofs.Deciding.{addr-Decides, never, number-Decides}

-- octets bring a datagram for this address, from one that may send
pub record Brought (ours : Addr) (octets : List ℕ) (d : Datagram) : Type 0 where
  pub frame : Frame
  pub most : length octets ≤ 1514
  pub framed : frame_in octets ≡ Some frame
  pub type : frame.kind ≡ ipv4_type
  pub found : datagram_in frame.payload ≡ Ok d
  pub destination : d.destination ≡ ours
  pub may : may_send ours d.source ≡ true

-- what is heard of a datagram
abbrev pub IsOf : Datagram → Meaning → Type 0
IsOf d (Arp p) = ⊥
IsOf d (Tcp r) = (is_fragment d ≡ false) × (d.protocol ≡ 6) × (r.source ≡ d.source) × (segment_or_fault d.source d.destination d.payload ≡ Ok r.segment)
IsOf d (Icmp c) = (is_fragment d ≡ false) × (d.protocol ≡ 1) × (c.source ≡ d.source) × (message_or_fault d.payload ≡ Ok c.message)
IsOf d (Udp r) = (is_fragment d ≡ false) × (d.protocol ≡ 17) × (r.carrier ≡ d) × (datagram_or_fault d.source d.destination d.payload ≡ Ok r.datagram)
IsOf d (Other e) = (is_fragment d ≡ false) × (d.protocol ≢ 6) × (d.protocol ≢ 1) × (d.protocol ≢ 17) × (e ≡ d)
IsOf d (UdpFragment e) = (is_fragment d ≡ true) × (d.protocol ≡ 17) × (e ≡ d)

-- what is heard, and what it comes from
abbrev Origin : Addr → List ℕ → Meaning → Type 0
Origin ours octets m = ((p : ArpPacket) × (m ≡ Arp p)) ⊎ ((d : Datagram) × Brought ours octets d × IsOf d m)

-- one that is heard
heard_is : (P : Meaning → Type 0) (own m : Meaning) → P own → ◌≡◌ {A = Result Meaning DropCause} (Ok own) (Ok m) → P m
heard_is P own m is e = let same : own ≡ m = cc in subst P same is

of_segment : (d : Datagram) (m : Meaning) (read : Result Segment SegmentFault) → is_fragment d ≡ false → d.protocol ≡ 6
    → segment_or_fault d.source d.destination d.payload ≡ read → segment_heard d.source read ≡ Ok m → IsOf d m
of_segment d m (Ok s) whole tcp found e = heard_is (IsOf d) (Tcp (record { source = d.source; segment = s })) m (whole, tcp, refl, found) e
of_segment d m (Err segment.UpperHeader) whole tcp found e = cc
of_segment d m (Err segment.UpperSum) whole tcp found e = cc

of_message : (d : Datagram) (m : Meaning) (read : Result Message IcmpFault) → is_fragment d ≡ false → d.protocol ≡ 1
    → message_or_fault d.payload ≡ read → message_heard d.source read ≡ Ok m → IsOf d m
of_message d m (Ok c) whole icmp found e = heard_is (IsOf d) (Icmp (record { source = d.source; message = c })) m (whole, icmp, refl, found) e
of_message d m (Err message.UpperHeader) whole icmp found e = cc
of_message d m (Err message.UpperSum) whole icmp found e = cc

of_user : (d : Datagram) (m : Meaning) (read : Result UserDatagram UdpFault) → is_fragment d ≡ false → d.protocol ≡ 17
    → datagram_or_fault d.source d.destination d.payload ≡ read → user_heard d read ≡ Ok m → IsOf d m
of_user d m (Ok u) whole udp found e = heard_is (IsOf d) (Udp (record { carrier = d; datagram = u })) m (whole, udp, refl, found) e
of_user d m (Err user.UpperHeader) whole udp found e = cc
of_user d m (Err user.UpperSum) whole udp found e = cc

of_whole : (d : Datagram) (m : Meaning) → is_fragment d ≡ false → whole_heard d ≡ Ok m → IsOf d m
of_whole d m whole answer = by_protocol (d.protocol == 6) (d.protocol == 1) (d.protocol == 17) refl refl refl answer
  where
    by_protocol : (tcp icmp udp : Bool) → (d.protocol == 6) ≡ tcp → (d.protocol == 1) ≡ icmp → (d.protocol == 17) ≡ udp
        → cond tcp (segment_heard d.source (segment_or_fault d.source d.destination d.payload))
        (cond icmp (message_heard d.source (message_or_fault d.payload)) (cond udp (user_heard d (datagram_or_fault d.source d.destination d.payload)) (Ok (Other d)))) ≡ Ok m
        → IsOf d m
    by_protocol true icmp udp is_tcp is_icmp is_udp e = of_segment d m (segment_or_fault d.source d.destination d.payload) whole (eqb-true d.protocol 6 is_tcp) refl e
    by_protocol false true udp is_tcp is_icmp is_udp e = of_message d m (message_or_fault d.payload) whole (eqb-true d.protocol 1 is_icmp) refl e
    by_protocol false false true is_tcp is_icmp is_udp e = of_user d m (datagram_or_fault d.source d.destination d.payload) whole (eqb-true d.protocol 17 is_udp) refl e
    by_protocol false false false is_tcp is_icmp is_udp e =
        let others : IsOf d (Other d) = (
          whole,
          never (d.protocol == 6) (number-Decides d.protocol 6) is_tcp,
          never (d.protocol == 1) (number-Decides d.protocol 1) is_icmp,
          never (d.protocol == 17) (number-Decides d.protocol 17) is_udp,
          refl,
        ) in
        heard_is (IsOf d) (Other d) m others e

of_fragment : (d : Datagram) (m : Meaning) → is_fragment d ≡ true → fragment_heard d ≡ Ok m → IsOf d m
of_fragment d m part answer = by_user (d.protocol == 17) refl answer
  where
    by_user : (user : Bool) → (d.protocol == 17) ≡ user → cond user (Ok (UdpFragment d)) (Err Fragment) ≡ Ok m → IsOf d m
    by_user true is e = heard_is (IsOf d) (UdpFragment d) m (part, eqb-true d.protocol 17 is, refl) e
    by_user false is e = cc

of_upper : (d : Datagram) (m : Meaning) → upper_heard d ≡ Ok m → IsOf d m
of_upper d m answer = by_part (is_fragment d) refl answer
  where
    by_part : (part : Bool) → is_fragment d ≡ part → cond part (fragment_heard d) (whole_heard d) ≡ Ok m → IsOf d m
    by_part true is e = of_fragment d m is e
    by_part false is e = of_whole d m is e

of_packet : (ours : Addr) (octets : List ℕ) (m : Meaning) (read : Option ArpPacket) → packet_heard ours read ≡ Ok m → Origin ours octets m
of_packet ours octets m None e = cc
of_packet ours octets m (Some p) answer = by_sender (may_send ours p.sender_addr) answer
  where
    by_sender : (b : Bool) → cond b (Ok (Arp p)) (Err OtherAddress) ≡ Ok m → Origin ours octets m
    by_sender true e = let same : m ≡ Arp p = cc in inl (p, same)
    by_sender false e = cc

of_datagram : (ours : Addr) (octets : List ℕ) (m : Meaning) (f : Frame) (read : Result Datagram Ipv4Fault) → length octets ≤ 1514 → frame_in octets ≡ Some f
    → f.kind ≡ ipv4_type → datagram_in f.payload ≡ read → datagram_heard ours read ≡ Ok m → Origin ours octets m
of_datagram ours octets m f (Err datagram.IpHeader) most framed type found e = cc
of_datagram ours octets m f (Err datagram.IpSum) most framed type found e = cc
of_datagram ours octets m f (Ok d) most framed type found answer = by_ends (same_addr d.destination ours) (may_send ours d.source) refl refl answer
  where
    by_ends : (destination source : Bool) → same_addr d.destination ours ≡ destination → may_send ours d.source ≡ source
        → cond (destination && source) (upper_heard d) (Err OtherAddress) ≡ Ok m → Origin ours octets m
    by_ends true true to from e =
        let brought : Brought ours octets d = record {
          frame = f;
          most = most;
          framed = framed;
          type = type;
          found = found;
          destination = (addr-Decides d.destination ours).0 to;
          may = from;
        } in
        inr (d, brought, of_upper d m e)
    by_ends true false to from e = cc
    by_ends false source to from e = cc

of_frame : (mac : Mac) (ours : Addr) (octets : List ℕ) (m : Meaning) (read : Option Frame) → length octets ≤ 1514 → frame_in octets ≡ read
    → frame_heard mac ours read ≡ Ok m → Origin ours octets m
of_frame mac ours octets m None most framed e = cc
of_frame mac ours octets m (Some f) most framed answer = by_tests (is_for mac f) (f.kind == arp_type) (f.kind == ipv4_type) refl answer
  where
    by_tests : (for arp ipv4 : Bool) → (f.kind == ipv4_type) ≡ ipv4
        → cond for (cond arp (packet_heard ours (packet_in f.payload)) (cond ipv4 (datagram_heard ours (datagram_in f.payload)) (Err OtherType))) (Err OtherMac) ≡ Ok m
        → Origin ours octets m
    by_tests false arp ipv4 is e = cc
    by_tests true true ipv4 is e = of_packet ours octets m (packet_in f.payload) e
    by_tests true false true is e = of_datagram ours octets m f (datagram_in f.payload) most framed (eqb-true f.kind ipv4_type is) refl e
    by_tests true false false is e = cc

origin : (mac : Mac) (ours : Addr) (octets : List ℕ) (m : Meaning) → heard mac ours octets ≡ Ok m → Origin ours octets m
unfolding heard
origin mac ours octets m answer = by_length (nat_lt 1514 (length octets)) refl answer
  where
    by_length : (many : Bool) → nat_lt 1514 (length octets) ≡ many → cond many (Err Short) (frame_heard mac ours (frame_in octets)) ≡ Ok m → Origin ours octets m
    by_length true is e = cc
    by_length false is e = of_frame mac ours octets m (frame_in octets) (grind (arith, nat_tests, is)) refl e

-- what is heard and is no packet is heard of a datagram for us
pub from_datagram : (mac : Mac) (ours : Addr) (octets : List ℕ) (m : Meaning) → heard mac ours octets ≡ Ok m → ((p : ArpPacket) → m ≢ Arp p)
    → (d : Datagram) × Brought ours octets d × IsOf d m
from_datagram mac ours octets m answer other = ⊎_elim (λ packet. absurd (other packet.0 packet.1)) (λ one. one) (origin mac ours octets m answer)
