-- What goes out is heard as what it is.
use Rattle.std.proofs.Common.{◌≡◌, ℕ, ◌+◌, ◌*◌, ◌≤◌, false, List, [], length, Ok, refl, arith, length-append}
use Rattle.ether.specs.declared.mac.Mac.{Mac}
use Rattle.ipv4.specs.declared.addr.Addr.{Addr}
use Rattle.icmp.specs.declared.error.Reason.{Reason}
use Rattle.icmp.specs.Sent.{echo_reply, error_for}
use Rattle.icmp.proofs.Answering.{echo_spelled, error_spelled}
use Rattle.tcp_segment.specs.declared.head.Head.{Head}
use Rattle.tcp_segment.specs.Sent.{CanBeSent, sent_segment, sent_octets, sent_offset}
use Rattle.tcp_segment.proofs.Sending.{most_offset}
use Rattle.udp.specs.declared.cutting.Part.{Part}
use Rattle.udp.specs.Datagram.{UserDatagram, Spells}
use Rattle.arp.specs.declared.packet.ArpPacket.{ArpPacket}
use Rattle.arp.specs.declared.packet.Operation.TheVariants as operation
use Rattle.arp.specs.Packet.{HasWidths, request_of}
use Rattle.frames.specs.declared.meaning.Meaning.TheVariants as meaning
use Rattle.frames.specs.Heard.{MaySend}
use Rattle.frames.specs.Meaning.{heard}
use Rattle.frames.specs.Sent.{IsPart, part_datagram}
use Rattle.frames.proofs.Carried.{segments_heard, messages_heard, parts_heard, fragments_heard, requests_heard, replies_heard}
use Rattle.interface.specs.declared.reply.Reply.TheVariants.{Arp, Reset, Echo, Error}
use Rattle.interface.specs.InterfaceView.{InterfaceView}
use Rattle.interface.specs.Sound.{IsSoundEcho, IsSoundError}
use Rattle.interface.specs.Emission.{head_to, segment_frame_to, message_frame_to, part_frame_to, request_frame, reply_frame}

pub packet_heard : (h : InterfaceView) (mac : Mac) (ours : Addr) (packet : ArpPacket) → HasWidths packet → packet.operation ≡ operation.Reply → MaySend ours packet.sender_addr
    → heard packet.target_mac ours (reply_frame h mac (Arp packet)) ≡ Ok (meaning.Arp packet)
unfolding reply_frame
packet_heard h mac ours packet widths is_reply may = replies_heard packet ours widths may is_reply

pub segment_heard : (h : InterfaceView) (mac : Mac) (to : Addr) (head : Head) (octets : List ℕ) → CanBeSent h.addr to head octets
    → length mac.0 ≡ 6 → length h.mac.0 ≡ 6 → MaySend to h.addr → 4 * sent_offset head + length octets ≤ 1480
    → heard mac to (segment_frame_to h mac to (sent_octets h.addr to head octets)) ≡ Ok (meaning.Tcp (record { source = h.addr; segment = sent_segment head octets }))
unfolding segment_frame_to
segment_heard h mac to head octets can theirs own may fits = segments_heard (head_to h mac to) head octets can theirs own may fits

pub reset_heard : (h : InterfaceView) (mac : Mac) (to : Addr) (head : Head) → CanBeSent h.addr to head []
    → length mac.0 ≡ 6 → length h.mac.0 ≡ 6 → MaySend to h.addr
    → heard mac to (reply_frame h mac (Reset to head)) ≡ Ok (meaning.Tcp (record { source = h.addr; segment = sent_segment head [] }))
unfolding reply_frame
reset_heard h mac to head can theirs own may =
    let most : 4 * sent_offset head ≤ 1480 = omega (arith, most_offset head) in
    segment_heard h mac to head [] can theirs own may (omega (arith, most))

pub echo_heard : (h : InterfaceView) (mac : Mac) (to : Addr) (identifier number : ℕ) (octets : List ℕ) → IsSoundEcho to identifier number octets
    → length mac.0 ≡ 6 → length h.mac.0 ≡ 6 → length h.addr.0 ≡ 4 → MaySend to h.addr
    → heard mac to (reply_frame h mac (Echo to identifier number octets)) ≡ Ok (meaning.Icmp (record { source = h.addr; message = echo_reply identifier number octets }))
unfolding reply_frame message_frame_to
echo_heard h mac to identifier number octets sound theirs own addr may =
    messages_heard (head_to h mac to) (echo_reply identifier number octets) (echo_spelled identifier number octets sound.identifier_fits sound.number_fits) addr sound.addr theirs own may sound.most

pub error_heard : (h : InterfaceView) (mac : Mac) (to : Addr) (reason : Reason) (quoted : List ℕ) → IsSoundError to quoted
    → length mac.0 ≡ 6 → length h.mac.0 ≡ 6 → length h.addr.0 ≡ 4 → MaySend to h.addr
    → heard mac to (reply_frame h mac (Error to reason quoted)) ≡ Ok (meaning.Icmp (record { source = h.addr; message = error_for reason quoted [] }))
unfolding reply_frame message_frame_to
error_heard h mac to reason quoted sound theirs own addr may =
    messages_heard (head_to h mac to) (error_for reason quoted []) (error_spelled reason quoted []) addr sound.addr theirs own may
    (omega (arith, length-append quoted [], sound.most))

pub request_heard : (h : InterfaceView) (hop : Addr) (mac : Mac) (ours : Addr) → HasWidths (request_of h.mac h.addr hop) → MaySend ours h.addr
    → heard mac ours (request_frame h hop) ≡ Ok (meaning.Arp (request_of h.mac h.addr hop))
unfolding request_frame
request_heard h hop mac ours widths may = requests_heard (request_of h.mac h.addr hop) mac ours widths may refl

pub user_heard : (h : InterfaceView) (mac : Mac) (to : Addr) (part : Part) (octets : List ℕ) (d : UserDatagram) → IsPart part octets
    → length mac.0 ≡ 6 → length h.mac.0 ≡ 6 → length h.addr.0 ≡ 4 → length to.0 ≡ 4 → MaySend to h.addr
    → part.fragment.more_fragments ≡ false → part.fragment.offset ≡ 0 → Spells h.addr to d octets
    → heard mac to (part_frame_to h mac to part octets) ≡ Ok (meaning.Udp (record { carrier = part_datagram (head_to h mac to) part octets; datagram = d }))
unfolding part_frame_to
user_heard h mac to part octets d is theirs own addr to_addr may last first spells =
    parts_heard (head_to h mac to) part octets d is addr to_addr theirs own may last first spells

pub fragment_heard : (h : InterfaceView) (mac : Mac) (to : Addr) (part : Part) (octets : List ℕ) → IsPart part octets
    → length mac.0 ≡ 6 → length h.mac.0 ≡ 6 → length h.addr.0 ≡ 4 → length to.0 ≡ 4 → MaySend to h.addr
    → (part.fragment.more_fragments ≡ false → part.fragment.offset ≡ 0 → ⊥)
    → heard mac to (part_frame_to h mac to part octets) ≡ Ok (meaning.UdpFragment (part_datagram (head_to h mac to) part octets))
unfolding part_frame_to
fragment_heard h mac to part octets is theirs own addr to_addr may cut =
    fragments_heard (head_to h mac to) part octets is addr to_addr theirs own may cut
