-- What is heard of a frame that goes out: a segment or an ICMP message at its address, as it was meant, and neither in anything else, such as
-- a part of a UDP datagram.
use Rattle.std.proofs.Common.{◌≡◌, ℕ, ◌+◌, ◌*◌, ◌≤◌, Bool, true, false, if◌then◌else◌, List, [], ◌++◌, length, append-nil, Option, Some, None, Ok, refl, ap, arith}
use Rattle.ether.specs.declared.mac.Mac.{Mac}
use Rattle.ipv4.specs.declared.addr.Addr.{Addr}
use Rattle.clock.specs.declared.moment.Moment.{Moment}
use Rattle.arp.specs.declared.packet.ArpPacket.{ArpPacket}
use Rattle.arp.specs.Packet.{request_of}
use Rattle.arp.specs.Cache.{look, may_ask}
use Rattle.tcp_segment.specs.declared.head.Head.{Head}
use Rattle.tcp_segment.specs.Sent.{CanBeSent, sent_segment, sent_octets, sent_offset}
use Rattle.tcp_segment.proofs.Sending.{most_offset}
use Rattle.icmp.specs.Message.{Message, Spells, spelling}
use Rattle.icmp.specs.Sent.{echo_reply, error_for}
use Rattle.icmp.proofs.Answering.{echo_spelled, error_spelled}
use Rattle.tcp_segment.proofs.Checksum.{sent_octets_len}
use Rattle.frames.specs.declared.meaning.Control.{Control}
use Rattle.frames.specs.declared.meaning.ReceivedSegment.{ReceivedSegment}
use Rattle.frames.specs.declared.meaning.Meaning.TheVariants.{Tcp, Icmp}
use Rattle.frames.specs.Meaning.{heard}
use Rattle.frames.specs.Pairs.{pair_in, pair_between}
use Rattle.frames.proofs.Hearers.{as_sent, messages_as_sent, no_message_in_packet, no_message_in_segment, no_packet, no_segment_in_message, no_segment_in_part}
use Rattle.frames.proofs.UserHearers.{no_message_in_part}
use Rattle.frames.proofs.EmittedPairs.{message_pairs, packet_pairs, part_pairs, segment_pairs}
use Rattle.icmp.specs.declared.error.Reason.{Reason}
use Rattle.interface.specs.declared.reply.Reply.TheVariants.{Arp, Reset, Echo, Error}
use Rattle.interface.specs.declared.way.Way.TheVariants.{To, Ask, Waits}
use Rattle.interface.specs.InterfaceView.{InterfaceView}
use Rattle.interface.specs.Emission.{head_to, segment_frame_to, message_frame_to, part_frame_to, request_frame, reply_frame}
use Rattle.interface.specs.Routing.{next_hop}
use Rattle.interface.specs.Sound.{IsSound, IsSoundEcho, IsSoundError}
use Rattle.interface.specs.Ways.{mac_of, way_by_mac, way_over, way}
use Rattle.interface.proofs.KnownMacs.{known_macs}
use Rattle.udp.specs.declared.cutting.Part.{Part}

-- in no octets there is no segment
pub heard-nothing : (mac : Mac) (ours : Addr) (r : ReceivedSegment) → heard mac ours [] ≡ Ok (Tcp r) → ⊥
unfolding heard
heard-nothing mac ours r e = cc

pub message-nothing : (mac : Mac) (ours : Addr) (c : Control) → heard mac ours [] ≡ Ok (Icmp c) → ⊥
unfolding heard
message-nothing mac ours c e = cc

pub pair-nothing : pair_in [] ≡ None
unfolding pair_in
pair-nothing = refl

-- nor in a request
pub heard-request : (i : InterfaceView) (hop : Addr) (mac : Mac) (ours : Addr) (r : ReceivedSegment) → length i.mac.0 ≡ 6 → heard mac ours (request_frame i hop) ≡ Ok (Tcp r) → ⊥
unfolding request_frame
heard-request i hop mac ours r own e = no_packet (request_of i.mac i.addr hop) mac ours r own refl e

pub pair-request : (i : InterfaceView) (hop : Addr) → length i.mac.0 ≡ 6 → pair_in (request_frame i hop) ≡ None
unfolding request_frame
pair-request i hop own = packet_pairs (request_of i.mac i.addr hop) own refl

pub message-request : (i : InterfaceView) (hop : Addr) (mac : Mac) (ours : Addr) (c : Control) → length i.mac.0 ≡ 6 → heard mac ours (request_frame i hop) ≡ Ok (Icmp c) → ⊥
unfolding request_frame
message-request i hop mac ours c own e = no_message_in_packet (request_of i.mac i.addr hop) mac ours c own refl e

-- nor in an ARP reply
pub heard-reply : (i : InterfaceView) (to mac : Mac) (ours : Addr) (packet : ArpPacket) (r : ReceivedSegment) → length packet.sender_mac.0 ≡ 6 → length packet.target_mac.0 ≡ 6 → heard mac ours (reply_frame i to (Arp packet)) ≡ Ok (Tcp r) → ⊥
unfolding reply_frame
heard-reply i to mac ours packet r sender target e = no_packet packet mac ours r sender target e

pub pair-reply : (i : InterfaceView) (to : Mac) (packet : ArpPacket) → length packet.sender_mac.0 ≡ 6 → length packet.target_mac.0 ≡ 6 → pair_in (reply_frame i to (Arp packet)) ≡ None
unfolding reply_frame
pair-reply i to packet sender target = packet_pairs packet sender target

pub message-reply : (i : InterfaceView) (to mac : Mac) (ours : Addr) (packet : ArpPacket) (c : Control) → length packet.sender_mac.0 ≡ 6 → length packet.target_mac.0 ≡ 6 → heard mac ours (reply_frame i to (Arp packet)) ≡ Ok (Icmp c) → ⊥
unfolding reply_frame
message-reply i to mac ours packet c sender target e = no_message_in_packet packet mac ours c sender target e

-- a segment is heard at its address, as it was sent
pub heard-segment : (i : InterfaceView) (theirs : Mac) (to : Addr) (head : Head) (octets : List ℕ) (mac : Mac) (ours : Addr) (r : ReceivedSegment) → CanBeSent i.addr to head octets → length theirs.0 ≡ 6 → length i.mac.0 ≡ 6
    → 4 * sent_offset head + length octets ≤ 1480 → heard mac ours (segment_frame_to i theirs to (sent_octets i.addr to head octets)) ≡ Ok (Tcp r)
    → (ours ≡ to) × (r ≡ record { source = i.addr; segment = sent_segment head octets })
unfolding segment_frame_to
heard-segment i theirs to head octets mac ours r can whole own fits e = as_sent (head_to i theirs to) head octets mac ours r can whole own fits e

pub pair-segment : (i : InterfaceView) (theirs : Mac) (to : Addr) (head : Head) (octets : List ℕ) → CanBeSent i.addr to head octets → length theirs.0 ≡ 6 → length i.mac.0 ≡ 6
    → 4 * sent_offset head + length octets ≤ 1480 → pair_in (segment_frame_to i theirs to (sent_octets i.addr to head octets)) ≡ Some (pair_between i.addr to (sent_segment head octets))
unfolding segment_frame_to
pair-segment i theirs to head octets can whole own fits = segment_pairs (head_to i theirs to) head octets can whole own fits

-- and no message is heard there
pub message-segment : (i : InterfaceView) (theirs : Mac) (to : Addr) (head : Head) (octets : List ℕ) (mac : Mac) (ours : Addr) (c : Control) → CanBeSent i.addr to head octets → length theirs.0 ≡ 6 → length i.mac.0 ≡ 6
    → 4 * sent_offset head + length octets ≤ 1480 → heard mac ours (segment_frame_to i theirs to (sent_octets i.addr to head octets)) ≡ Ok (Icmp c) → ⊥
unfolding segment_frame_to
message-segment i theirs to head octets mac ours c can whole own fits e =
    no_message_in_segment (head_to i theirs to) (sent_octets i.addr to head octets) mac ours c can.src_octets can.dst_octets whole own (omega (arith, sent_octets_len i.addr to head octets, fits)) e

-- a reset
pub heard-reset : (i : InterfaceView) (theirs : Mac) (to : Addr) (head : Head) (mac : Mac) (ours : Addr) (r : ReceivedSegment) → CanBeSent i.addr to head [] → length theirs.0 ≡ 6 → length i.mac.0 ≡ 6
    → heard mac ours (reply_frame i theirs (Reset to head)) ≡ Ok (Tcp r) → (ours ≡ to) × (r ≡ record { source = i.addr; segment = sent_segment head [] })
unfolding reply_frame
heard-reset i theirs to head mac ours r can whole own e =
    let most : 4 * sent_offset head ≤ 1480 = omega (arith, most_offset head) in
    heard-segment i theirs to head [] mac ours r can whole own (omega (arith, most)) e

pub pair-reset : (i : InterfaceView) (theirs : Mac) (to : Addr) (head : Head) → CanBeSent i.addr to head [] → length theirs.0 ≡ 6 → length i.mac.0 ≡ 6
    → pair_in (reply_frame i theirs (Reset to head)) ≡ Some (pair_between i.addr to (sent_segment head []))
unfolding reply_frame
pair-reset i theirs to head can whole own =
    let most : 4 * sent_offset head ≤ 1480 = omega (arith, most_offset head) in
    pair-segment i theirs to head [] can whole own (omega (arith, most))

pub message-reset : (i : InterfaceView) (theirs : Mac) (to : Addr) (head : Head) (mac : Mac) (ours : Addr) (c : Control) → CanBeSent i.addr to head [] → length theirs.0 ≡ 6 → length i.mac.0 ≡ 6
    → heard mac ours (reply_frame i theirs (Reset to head)) ≡ Ok (Icmp c) → ⊥
unfolding reply_frame
message-reset i theirs to head mac ours c can whole own e =
    let most : 4 * sent_offset head ≤ 1480 = omega (arith, most_offset head) in
    message-segment i theirs to head [] mac ours c can whole own (omega (arith, most)) e

-- An ICMP message.

-- a frame from this interface to that one can carry the message to an address
pub record CanGo (i : InterfaceView) (theirs : Mac) (to : Addr) (m : Message) : Type 0 where
  pub from_octets : length i.addr.0 ≡ 4
  pub to_octets : length to.0 ≡ 4
  pub whole : length theirs.0 ≡ 6
  pub own : length i.mac.0 ≡ 6
  pub most : length m.payload ≤ 1472
  pub spelled : Spells m (spelling m)

message_len : (m : Message) → length (spelling m) ≡ 8 + length m.payload
message_len m = omega arith

-- it is heard at its address, as it was sent
pub heard-message : (i : InterfaceView) (theirs : Mac) (to : Addr) (m : Message) (mac : Mac) (ours : Addr) (c : Control) → CanGo i theirs to m → heard mac ours (message_frame_to i theirs to (spelling m)) ≡ Ok (Icmp c)
    → (ours ≡ to) × (c ≡ record { source = i.addr; message = m })
unfolding message_frame_to
heard-message i theirs to m mac ours c can e = messages_as_sent (head_to i theirs to) m mac ours c can.spelled can.from_octets can.to_octets can.whole can.own can.most e

-- no segment is heard there, and there is no pair in it
pub segment-message : (i : InterfaceView) (theirs : Mac) (to : Addr) (m : Message) (mac : Mac) (ours : Addr) (r : ReceivedSegment) → CanGo i theirs to m → heard mac ours (message_frame_to i theirs to (spelling m)) ≡ Ok (Tcp r) → ⊥
unfolding message_frame_to
segment-message i theirs to m mac ours r can e =
    no_segment_in_message (head_to i theirs to) (spelling m) mac ours r can.from_octets can.to_octets can.whole can.own (omega (arith, message_len m, can.most)) e

pub pair-message : (i : InterfaceView) (theirs : Mac) (to : Addr) (m : Message) → CanGo i theirs to m → pair_in (message_frame_to i theirs to (spelling m)) ≡ None
unfolding message_frame_to
pair-message i theirs to m can = message_pairs (head_to i theirs to) (spelling m) can.from_octets can.to_octets can.whole can.own (omega (arith, message_len m, can.most))

-- an echo reply is one, and so is an error
pub echo-frame : (i : InterfaceView) (theirs : Mac) (to : Addr) (identifier number : ℕ) (octets : List ℕ) → reply_frame i theirs (Echo to identifier number octets) ≡ message_frame_to i theirs to (spelling (echo_reply identifier number octets))
unfolding reply_frame
echo-frame i theirs to identifier number octets = refl

pub echo-can : (i : InterfaceView) (theirs : Mac) (to : Addr) (identifier number : ℕ) (octets : List ℕ) → IsSound i → IsSoundEcho to identifier number octets → length theirs.0 ≡ 6 → CanGo i theirs to (echo_reply identifier number octets)
echo-can i theirs to identifier number octets sound solid whole = record {
  from_octets = sound.addr;
  to_octets = solid.addr;
  whole = whole;
  own = sound.mac;
  most = solid.most;
  spelled = echo_spelled identifier number octets solid.identifier_fits solid.number_fits;
}

pub error-frame : (i : InterfaceView) (theirs : Mac) (to : Addr) (reason : Reason) (quoted : List ℕ) → reply_frame i theirs (Error to reason quoted) ≡ message_frame_to i theirs to (spelling (error_for reason quoted []))
unfolding reply_frame
error-frame i theirs to reason quoted = refl

pub error-can : (i : InterfaceView) (theirs : Mac) (to : Addr) (reason : Reason) (quoted : List ℕ) → IsSound i → IsSoundError to quoted → length theirs.0 ≡ 6 → CanGo i theirs to (error_for reason quoted [])
error-can i theirs to reason quoted sound solid whole = record {
  from_octets = sound.addr;
  to_octets = solid.addr;
  whole = whole;
  own = sound.mac;
  most = let all : length (quoted ++ []) ≡ length quoted = ap length (append-nil quoted) in omega (arith, all, solid.most);
  spelled = error_spelled reason quoted [];
}

-- A part of a UDP datagram.

pub segment-part : (i : InterfaceView) (theirs : Mac) (to : Addr) (part : Part) (octets : List ℕ) (mac : Mac) (ours : Addr) (r : ReceivedSegment) → length theirs.0 ≡ 6 → length i.mac.0 ≡ 6
    → heard mac ours (part_frame_to i theirs to part octets) ≡ Ok (Tcp r) → ⊥
unfolding part_frame_to
segment-part i theirs to part octets mac ours r whole own e = no_segment_in_part (head_to i theirs to) part octets mac ours r whole own e

pub message-part : (i : InterfaceView) (theirs : Mac) (to : Addr) (part : Part) (octets : List ℕ) (mac : Mac) (ours : Addr) (c : Control) → length theirs.0 ≡ 6 → length i.mac.0 ≡ 6
    → heard mac ours (part_frame_to i theirs to part octets) ≡ Ok (Icmp c) → ⊥
unfolding part_frame_to
message-part i theirs to part octets mac ours c whole own e = no_message_in_part (head_to i theirs to) part octets mac ours c whole own e

pub pair-part : (i : InterfaceView) (theirs : Mac) (to : Addr) (part : Part) (octets : List ℕ) → length theirs.0 ≡ 6 → length i.mac.0 ≡ 6 → pair_in (part_frame_to i theirs to part octets) ≡ None
unfolding part_frame_to
pair-part i theirs to part octets whole own = part_pairs (head_to i theirs to) part octets whole own

-- the hop of a way that is open has a whole MAC
pub way-mac : (i : InterfaceView) (now : Moment) (to : Addr) (mac : Mac) → IsSound i → way i now to ≡ To mac → length mac.0 ≡ 6
way-mac i now to mac sound leads = known_macs i now to mac sound (by_hop (next_hop i.routes to) leads)
  where
    by_mac : (hop : Addr) (o : Option Mac) → way_by_mac now i.cache.asked hop o ≡ To mac → o ≡ Some mac
    by_mac hop (Some m) e = cc
    by_mac hop None e = absurd (by_ask (may_ask now hop i.cache.asked) e)
      where
        by_ask : (b : Bool) → (if b then Ask hop else Waits) ≡ To mac → ⊥
        by_ask true e = cc
        by_ask false e = cc

    by_hop : (hop : Option Addr) → way_over now i.cache hop ≡ To mac → mac_of now i.cache hop ≡ Some mac
    by_hop None e = cc
    by_hop (Some hop) e = by_mac hop (look now hop i.cache) e
