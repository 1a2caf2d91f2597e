-- What octets are to a host is never a want of room.
use Rattle.std.proofs.Common.{◌≡◌, ◌&&◌, ◌==◌, ℕ, nat_lt, Bool, true, false, cond, List, length, Option, Some, None, Result, Ok, Err, refl, sym, ◌∙◌, ap}
use Rattle.ether.specs.declared.mac.Mac.{Mac}
use Rattle.ether.specs.Frame.{Frame}
use Rattle.ether.specs.Reading.{frame_in}
use Rattle.arp.specs.declared.packet.ArpPacket.{ArpPacket}
use Rattle.arp.specs.Reading.{packet_in}
use Rattle.ipv4.specs.declared.addr.Addr.{Addr}
use Rattle.ipv4.specs.Addresses.{same_addr}
use Rattle.ipv4.specs.declared.fault.Ipv4Fault.{Ipv4Fault}
use Rattle.ipv4.specs.declared.fault.Ipv4Fault.TheVariants as datagram
use Rattle.ipv4.specs.Datagram.{Datagram}
use Rattle.ipv4.specs.Reading.{datagram_in}
use Rattle.tcp_segment.specs.declared.fault.SegmentFault.{SegmentFault}
use Rattle.tcp_segment.specs.declared.fault.SegmentFault.TheVariants as segment
use Rattle.tcp_segment.specs.Segment.{Segment}
use Rattle.tcp_segment.specs.Reading.{segment_or_fault}
use Rattle.icmp.specs.declared.fault.IcmpFault.{IcmpFault}
use Rattle.icmp.specs.declared.fault.IcmpFault.TheVariants as message
use Rattle.icmp.specs.Message.{Message}
use Rattle.icmp.specs.Reading.{message_or_fault}
use Rattle.udp.specs.declared.fault.UdpFault.{UdpFault}
use Rattle.udp.specs.declared.fault.UdpFault.TheVariants as user
use Rattle.udp.specs.Datagram.{UserDatagram}
use Rattle.udp.specs.Reading.{datagram_or_fault}
use Rattle.frames.specs.declared.drop.DropCause.{DropCause}
use Rattle.frames.specs.declared.drop.DropCause.TheVariants.{OtherMac, OtherType, OtherAddress, Short, Fragment, NoRoom}
use Rattle.frames.specs.declared.meaning.Meaning.{Meaning}
use Rattle.frames.specs.declared.meaning.Meaning.TheVariants.{Arp, Other, UdpFragment}
use Rattle.frames.specs.Meaning.{may_send, is_fragment, is_for, packet_heard, segment_heard, message_heard, user_heard, fragment_heard, whole_heard, upper_heard, datagram_heard, payload_heard, frame_heard, heard}

wants : DropCause → Bool
wants NoRoom = true
wants _ = false

abbrev is_want : Result Meaning DropCause → Bool
is_want (Ok meaning) = false
is_want (Err cause) = wants cause

either : (b : Bool) (x y : Result Meaning DropCause) → is_want x ≡ false → is_want y ≡ false → is_want (cond b x y) ≡ false
either true x y first second = first
either false x y first second = second

packet_tells : (ours : Addr) (o : Option ArpPacket) → is_want (packet_heard ours o) ≡ false
unfolding wants
packet_tells ours None = refl
packet_tells ours (Some p) = either (may_send ours p.sender_addr) (Ok (Arp p)) (Err OtherAddress) refl refl

segment_tells : (source : Addr) (r : Result Segment SegmentFault) → is_want (segment_heard source r) ≡ false
unfolding wants
segment_tells source (Err segment.UpperHeader) = refl
segment_tells source (Err segment.UpperSum) = refl
segment_tells source (Ok s) = refl

message_tells : (source : Addr) (r : Result Message IcmpFault) → is_want (message_heard source r) ≡ false
unfolding wants
message_tells source (Err message.UpperHeader) = refl
message_tells source (Err message.UpperSum) = refl
message_tells source (Ok m) = refl

user_tells : (d : Datagram) (r : Result UserDatagram UdpFault) → is_want (user_heard d r) ≡ false
unfolding wants
user_tells d (Err user.UpperHeader) = refl
user_tells d (Err user.UpperSum) = refl
user_tells d (Ok u) = refl

whole_tells : (d : Datagram) → is_want (whole_heard d) ≡ false
whole_tells d =
    let udp = user_heard d (datagram_or_fault d.source d.destination d.payload) in
    let icmp = message_heard d.source (message_or_fault d.payload) in
    let beyond_icmp = cond (d.protocol == 17) udp (Ok (Other d)) in
    either (d.protocol == 6) (segment_heard d.source (segment_or_fault d.source d.destination d.payload)) (cond (d.protocol == 1) icmp beyond_icmp) (segment_tells d.source (segment_or_fault d.source d.destination d.payload))
    (either (d.protocol == 1) icmp beyond_icmp (message_tells d.source (message_or_fault d.payload))
    (either (d.protocol == 17) udp (Ok (Other d)) (user_tells d (datagram_or_fault d.source d.destination d.payload)) refl))

upper_tells : (d : Datagram) → is_want (upper_heard d) ≡ false
unfolding wants
upper_tells d = either (is_fragment d) (fragment_heard d) (whole_heard d) (either (d.protocol == 17) (Ok (UdpFragment d)) (Err Fragment) refl refl) (whole_tells d)

datagram_tells : (ours : Addr) (r : Result Datagram Ipv4Fault) → is_want (datagram_heard ours r) ≡ false
unfolding wants
datagram_tells ours (Err datagram.IpHeader) = refl
datagram_tells ours (Err datagram.IpSum) = refl
datagram_tells ours (Ok d) = either (same_addr d.destination ours && may_send ours d.source) (upper_heard d) (Err OtherAddress) (upper_tells d) refl

payload_tells : (ours : Addr) (kind : ℕ) (payload : List ℕ) → is_want (payload_heard ours kind payload) ≡ false
unfolding wants
payload_tells ours kind payload =
    let carried = cond (kind == 2048) (datagram_heard ours (datagram_in payload)) (Err OtherType) in
    either (kind == 2054) (packet_heard ours (packet_in payload)) carried (packet_tells ours (packet_in payload))
    (either (kind == 2048) (datagram_heard ours (datagram_in payload)) (Err OtherType) (datagram_tells ours (datagram_in payload)) refl)

frame_tells : (mac : Mac) (ours : Addr) (o : Option Frame) → is_want (frame_heard mac ours o) ≡ false
unfolding wants
frame_tells mac ours None = refl
frame_tells mac ours (Some f) = either (is_for mac f) (payload_heard ours f.kind f.payload) (Err OtherMac) (payload_tells ours f.kind f.payload) refl

heard_tells : (mac : Mac) (ours : Addr) (octets : List ℕ) → is_want (heard mac ours octets) ≡ false
unfolding heard wants
heard_tells mac ours octets = either (nat_lt 1514 (length octets)) (Err Short) (frame_heard mac ours (frame_in octets)) refl (frame_tells mac ours (frame_in octets))

pub want_unheard : (mac : Mac) (ours : Addr) (octets : List ℕ) → heard mac ours octets ≡ Err NoRoom → ⊥
unfolding wants
want_unheard mac ours octets e = let bad : true ≡ false = sym (ap is_want e) ∙ heard_tells mac ours octets in cc
