-- What octets are to a host with this MAC and this address, or the first cause to drop them. They are tested layer by layer,
-- from the lowest up: the frame (RFC 894), the ARP packet (RFC 826) or the datagram (RFC 791), its addresses (RFC 1122
-- section 3.2.1.3), and the segment (RFC 9293 section 3.1), the ICMP message (RFC 792) or the UDP datagram (RFC 768).
use Rattle.std.specs.Prelude.{ℕ, ◌==◌, nat_eq, nat_lt, Bool, not, ◌&&◌, ◌||◌, if◌then◌else◌, List, length, replicate, Option, Some, None, Result, Ok, Err}
use Rattle.std.specs.Cmp.Lexicographic.{pointwise}
use Rattle.ether.specs.declared.head.TheConstants.{ETHERTYPE_ARP, ETHERTYPE_IPV4, FRAME_MAX}
use Rattle.ether.specs.declared.mac.Mac.{Mac}
use Rattle.ether.specs.Frame.{Frame}
use Rattle.ether.specs.Reading.{frame_in}
use Rattle.arp.specs.declared.packet.ArpPacket.{ArpPacket}
use Rattle.arp.specs.Reading.{packet_in}
use Rattle.ipv4.specs.declared.addr.Addr.{Addr}
use Rattle.ipv4.specs.Addresses.{is_unicast, same_addr}
use Rattle.ipv4.specs.declared.fault.Ipv4Fault.{Ipv4Fault}
use Rattle.ipv4.specs.declared.fault.Ipv4Fault.TheVariants as datagram
use Rattle.ipv4.specs.Datagram.{Datagram}
use Rattle.ipv4.specs.Reading.{datagram_in}
use Rattle.tcp_segment.specs.declared.fault.SegmentFault.{SegmentFault}
use Rattle.tcp_segment.specs.declared.fault.SegmentFault.TheVariants as segment
use Rattle.tcp_segment.specs.Segment.{Segment}
use Rattle.tcp_segment.specs.Reading.{segment_or_fault}
use Rattle.icmp.specs.declared.fault.IcmpFault.{IcmpFault}
use Rattle.icmp.specs.declared.fault.IcmpFault.TheVariants as message
use Rattle.icmp.specs.Message.{Message}
use Rattle.icmp.specs.Reading.{message_or_fault}
use Rattle.udp.specs.declared.fault.UdpFault.{UdpFault}
use Rattle.udp.specs.declared.fault.UdpFault.TheVariants as user
use Rattle.udp.specs.Datagram.{UserDatagram}
use Rattle.udp.specs.Reading.{datagram_or_fault}
use Rattle.frames.specs.declared.drop.DropCause.{DropCause}
use Rattle.frames.specs.declared.drop.DropCause.TheVariants.{Short, OtherMac, OtherType, IpHeader, IpSum, OtherAddress, UpperHeader, UpperSum, Fragment}
use Rattle.frames.specs.declared.meaning.Meaning.{Meaning}
use Rattle.frames.specs.declared.meaning.Meaning.TheVariants.{Arp, Tcp, Icmp, Udp, Other, UdpFragment}

-- the types of frames that carry IPv4 (RFC 894) and ARP (RFC 826)
abbrev pub ipv4_type : ℕ
ipv4_type = ETHERTYPE_IPV4

abbrev pub arp_type : ℕ
arp_type = ETHERTYPE_ARP

-- the address of every interface on a link
abbrev pub broadcast : Mac
broadcast = record { 0 = replicate 6 255 }

abbrev pub same_mac : Mac → Mac → Bool
same_mac a b = pointwise nat_eq a.0 b.0

-- the frame is for this interface: by its MAC, or for all of the link where it carries ARP
abbrev pub is_for : Mac → Frame → Bool
is_for mac f = same_mac f.destination mac || (same_mac f.destination broadcast && f.kind == arp_type)

-- another host may send from this address
abbrev pub may_send : Addr → Addr → Bool
may_send ours source = is_unicast source && not (same_addr source ours)

-- a part of a datagram
abbrev pub is_fragment : Datagram → Bool
is_fragment d = d.more_fragments || not (d.offset == 0)

-- an ARP packet, whoever its target is
abbrev pub packet_heard : Addr → Option ArpPacket → Result Meaning DropCause
packet_heard ours None = Err UpperHeader
packet_heard ours (Some p) = if may_send ours p.sender_addr then Ok (Arp p) else Err OtherAddress

-- a segment from this address
abbrev pub segment_heard : Addr → Result Segment SegmentFault → Result Meaning DropCause
segment_heard source (Err segment.UpperHeader) = Err UpperHeader
segment_heard source (Err segment.UpperSum) = Err UpperSum
segment_heard source (Ok s) = Ok (Tcp (record { source = source; segment = s }))

-- an ICMP message from this address
abbrev pub message_heard : Addr → Result Message IcmpFault → Result Meaning DropCause
message_heard source (Err message.UpperHeader) = Err UpperHeader
message_heard source (Err message.UpperSum) = Err UpperSum
message_heard source (Ok m) = Ok (Icmp (record { source = source; message = m }))

-- a UDP datagram in this datagram of IPv4
abbrev pub user_heard : Datagram → Result UserDatagram UdpFault → Result Meaning DropCause
user_heard d (Err user.UpperHeader) = Err UpperHeader
user_heard d (Err user.UpperSum) = Err UpperSum
user_heard d (Ok u) = Ok (Udp (record { carrier = d; datagram = u }))

-- a fragment for us: one of UDP (17) is left as it is
abbrev pub fragment_heard : Datagram → Result Meaning DropCause
fragment_heard d = if d.protocol == 17 then Ok (UdpFragment d) else Err Fragment

-- a whole datagram for us: TCP (6), ICMP (1) and UDP (17) are read, one of another protocol is left as it is
abbrev pub whole_heard : Datagram → Result Meaning DropCause
whole_heard d =
    if d.protocol == 6 then segment_heard d.source (segment_or_fault d.source d.destination d.payload)
    else if d.protocol == 1 then message_heard d.source (message_or_fault d.payload)
    else if d.protocol == 17 then user_heard d (datagram_or_fault d.source d.destination d.payload)
    else Ok (Other d)

-- a datagram for us
abbrev pub upper_heard : Datagram → Result Meaning DropCause
upper_heard d = if is_fragment d then fragment_heard d else whole_heard d

-- a datagram
abbrev pub datagram_heard : Addr → Result Datagram Ipv4Fault → Result Meaning DropCause
datagram_heard ours (Err datagram.IpHeader) = Err IpHeader
datagram_heard ours (Err datagram.IpSum) = Err IpSum
datagram_heard ours (Ok d) = if same_addr d.destination ours && may_send ours d.source then upper_heard d else Err OtherAddress

-- the payload of a frame for us
abbrev pub payload_heard : Addr → ℕ → List ℕ → Result Meaning DropCause
payload_heard ours kind payload =
    if kind == arp_type then packet_heard ours (packet_in payload)
    else if kind == ipv4_type then datagram_heard ours (datagram_in payload)
    else Err OtherType

-- a frame
abbrev pub frame_heard : Mac → Addr → Option Frame → Result Meaning DropCause
frame_heard mac ours None = Err Short
frame_heard mac ours (Some f) = if is_for mac f then payload_heard ours f.kind f.payload else Err OtherMac

-- octets: a frame has 1,514 at most
unfoldable pub heard : Mac → Addr → List ℕ → Result Meaning DropCause
heard mac ours octets = if nat_lt FRAME_MAX (length octets) then Err Short else frame_heard mac ours (frame_in octets)
