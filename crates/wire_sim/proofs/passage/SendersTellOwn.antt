-- What goes out of a host comes from its own address, and what is an ARP packet tells of its own MAC and its own address.
use Rattle.std.proofs.Common.{◌≡◌, ◌≢◌, Bool, true, false, cond, List, [], ◌∷◌, length, Option, Some, None, option_map, option_and_then, ℕ, refl, sym, ◌∙◌, ap, subst}
use Rattle.std.specs.List.{slice_get}
use Rattle.ether.specs.declared.mac.Mac.{Mac}
use Rattle.arp.specs.declared.packet.ArpPacket.{ArpPacket}
use Rattle.arp.specs.Packet.{request_of}
use Rattle.ipv4.specs.declared.addr.Addr.{Addr}
use Rattle.ipv4.specs.declared.addr.Endpoint.{Endpoint}
use Rattle.ipv4.specs.Datagram.{Datagram}
use Rattle.clock.specs.declared.moment.Moment.{Moment}
use Rattle.tcp_segment.specs.Segment.{Segment}
use Rattle.udp.specs.Datagram.{UserDatagram}
use Rattle.udp_socket.specs.SocketView.{Outgoing as OutDatagram, SocketView}
use Rattle.frames.specs.declared.meaning.Meaning.{Meaning}
use Rattle.frames.specs.declared.meaning.Meaning.TheVariants.{Arp as ArpTold, Udp, UdpFragment}
use Rattle.frames.specs.Sent.{packet_frame}
use Rattle.interface.specs.declared.reply.Reply.{Reply}
use Rattle.interface.specs.declared.reply.Reply.TheVariants.{Arp, Reset, Echo, Error}
use Rattle.interface.specs.declared.reply.Waiting.{Waiting}
use Rattle.interface.specs.declared.way.Way.{Way}
use Rattle.interface.specs.declared.way.Way.TheVariants.{To, Ask, Waits}
use Rattle.interface.specs.InterfaceView.{InterfaceView}
use Rattle.interface.specs.Emission.{frame_by, frame_of_one, reply_frame, request_frame}
use Rattle.interface.specs.Replies.{way_of}
use Rattle.interface.specs.Sound.{IsSoundReply}
use Rattle.sockets.specs.declared.emission.Outgoing.{Outgoing}
use Rattle.sockets.specs.declared.role.Role.{Role}
use Rattle.sockets.specs.declared.role.Role.TheVariants.{Idle, Listener, Connected, Datagrams}
use Rattle.sockets.specs.Emission.{Next, next_out}
use Rattle.sockets.specs.Entries.{source_of, with_first}
use Rattle.sockets.specs.SocketsView.{later_moment}
use Rattle.host.specs.Carried.{due_segment}
use Rattle.host.specs.ConfigView.{ConfigView}
use Rattle.host.specs.Emission.{Emission, Replies, Sends, Asks, Nothing, emission, emission_octets, goes_out_from, octets_of}
use Rattle.host.specs.HostView.{HostView}
use Rattle.host.specs.Sound.{IsSoundHost}
use Rattle.wire_sim.specs.Sent.{Sent, datagram_sent, due_said, outgoing_said, packet_sent, reply_sent, reply_sent_by, request_sent, segment_said, sent_at, sent_by, waiting_sent}
use Rattle.wire_sim.proofs.lists.FoundAfterChange.{All-at}
use Rattle.wire_sim.proofs.passage.HostsStay.{Anyone, IsOwn, IsSideOf}

pub record IsOwnPacket (i : InterfaceView) (octets : List ℕ) (p : ArpPacket) : Type 0 where
  pub frame : octets ≡ packet_frame p
  pub mac : p.sender_mac ≡ i.mac
  pub addr : p.sender_addr ≡ i.addr
  pub target : length p.target_mac.0 ≡ 6

pub record IsOwnSent (i : InterfaceView) (octets : List ℕ) (what : Sent) : Type 0 where
  pub from : what.from ≡ i.addr
  pub packet : (p : ArpPacket) → what.says ≡ ArpTold p → IsOwnPacket i octets p

packet-own : (i : InterfaceView) (octets : List ℕ) (p : ArpPacket) → IsOwnPacket i octets p → IsOwnSent i octets (packet_sent p)
packet-own i octets p own = record { from = own.addr; packet = λ q is. let same : p ≡ q = cc in subst (IsOwnPacket i octets) same own }

request-own : (i : InterfaceView) (hop : Addr) → IsOwnSent i (request_frame i hop) (request_sent i hop)
unfolding request_frame
request-own i hop = packet-own i (request_frame i hop) (request_of i.mac i.addr hop) (record { frame = refl; mac = refl; addr = refl; target = refl })

reply-own : (c : ConfigView) (i : InterfaceView) (theirs : Mac) (r : Reply) → IsSideOf c Anyone i → IsOwn c r → IsSoundReply i.addr r → IsOwnSent i (reply_frame i theirs r) (reply_sent i theirs r)
unfolding reply_frame
reply-own c i theirs (Arp packet) s own solid = packet-own i (packet_frame packet) packet (record { frame = refl; mac = own.0 ∙ sym s.mac; addr = own.1 ∙ sym s.addr; target = solid.target_mac })
reply-own c i theirs (Reset to head) s own solid = record { from = refl; packet = λ p is. cc }
reply-own c i theirs (Echo to identifier number octets) s own solid = record { from = refl; packet = λ p is. cc }
reply-own c i theirs (Error to reason quoted) s own solid = record { from = refl; packet = λ p is. cc }

-- the table sends no packet
part-no-packet : (i : InterfaceView) (mac : Mac) (to : Addr) (source : Endpoint) (socket : SocketView) (p : ArpPacket) → outgoing_said i mac to source socket ≢ Some (ArpTold p)
part-no-packet i mac to source socket p = by_outbox socket.outbox
  where
    by_cut : (carrier : Datagram) (d : UserDatagram) (b : Bool) → Some (cond b (UdpFragment carrier) (Udp (record { carrier = carrier; datagram = d }))) ≢ Some (ArpTold p)
    by_cut carrier d true is = cc
    by_cut carrier d false is = cc

    by_outbox : (os : List OutDatagram) → outgoing_said i mac to source (record socket { outbox = os }) ≢ Some (ArpTold p)
    by_outbox [] is = cc
    by_outbox (o ∷ rest) is = by_cut _ _ _ is

sends-no-packet : (h : HostView) (mac : Mac) (to : Addr) (what : Outgoing) (r : Role) (p : ArpPacket) → due_said h mac to what r ≢ Some (ArpTold p)
sends-no-packet h mac to what (Connected c listener) p = by_segment (due_segment (Connected c listener))
  where
    by_segment : (o : Option Segment) → option_map (segment_said h.interface) o ≢ Some (ArpTold p)
    by_segment None is = cc
    by_segment (Some s) is = cc
sends-no-packet h mac to what (Datagrams bound socket) p = part-no-packet h.interface mac to (source_of h.sockets.addr bound) (with_first what socket) p
sends-no-packet h mac to what (Listener local backlog) p = λ is. cc
sends-no-packet h mac to what (Idle buffers bound) p = λ is. cc

pub sent-own : (c : ConfigView) (h : HostView) (now : Moment) (what : Sent) → IsSideOf c Anyone h.interface → IsSoundHost h → sent_at h now ≡ Some what → IsOwnSent h.interface (emission_octets h now) what
sent-own c h now what s sound = by_emission (emission h moment)
  where
    moment : Moment
    moment = later_moment h.sockets now

    i : InterfaceView
    i = h.interface

    of_sent : (octets : List ℕ) (x : Sent) → x ≡ what → IsOwnSent i octets x → IsOwnSent i octets what
    of_sent octets x same own = subst (IsOwnSent i octets) same own

    by_way : (r : Reply) → IsOwn c r → IsSoundReply i.addr r → (w : Way) → reply_sent_by i r w ≡ Some what → IsOwnSent i (frame_by i r w) what
    by_way r own solid (To theirs) is = let same : reply_sent i theirs r ≡ what = cc in of_sent (reply_frame i theirs r) (reply_sent i theirs r) same (reply-own c i theirs r s own solid)
    by_way r own solid (Ask hop) is = let same : request_sent i hop ≡ what = cc in of_sent (request_frame i hop) (request_sent i hop) same (request-own i hop)
    by_way r own solid Waits is = cc

    by_waiting : (place : ℕ) (o : Option Waiting) → slice_get i.replies place ≡ o → waiting_sent i moment o ≡ Some what → IsOwnSent i (frame_of_one i moment o) what
    by_waiting place None at is = cc
    by_waiting place (Some w) at is =
        by_way w.reply (All-at (λ (x : Waiting). IsOwn c x.reply) i.replies place w s.replies at) (All-at (λ (x : Waiting). IsSoundReply i.addr x.reply) i.replies place w sound.interface.replies at) (way_of i moment w.reply) is

    by_said : (octets : List ℕ) (mac : Mac) (to : Addr) (o : Option Meaning) → ((p : ArpPacket) → o ≢ Some (ArpTold p)) → option_map (datagram_sent i mac to) o ≡ Some what → IsOwnSent i octets what
    by_said octets mac to None other is = cc
    by_said octets mac to (Some says) other is =
        let same : datagram_sent i mac to says ≡ what = cc in
        of_sent octets (datagram_sent i mac to says) same (record { from = refl; packet = λ p told. absurd (other p (ap Some told)) })

    by_next : (octets : List ℕ) (mac : Mac) (to : Addr) (o : Option Next) → option_map (datagram_sent i mac to) (option_and_then (λ (next : Next). due_said h mac to next.what next.entry.role) o) ≡ Some what → IsOwnSent i octets what
    by_next octets mac to None is = cc
    by_next octets mac to (Some next) is = by_said octets mac to (due_said h mac to next.what next.entry.role) (sends-no-packet h mac to next.what next.entry.role) is

    by_emission : (x : Emission) → sent_by h moment x ≡ Some what → IsOwnSent i (octets_of h moment x) what
    by_emission (Replies place) is = by_waiting place (slice_get i.replies place) refl is
    by_emission (Sends mac to) is = by_next (octets_of h moment (Sends mac to)) mac to (next_out h.sockets (goes_out_from h moment)) is
    by_emission (Asks hop) is = let same : request_sent i hop ≡ what = cc in of_sent (request_frame i hop) (request_sent i hop) same (request-own i hop)
    by_emission Nothing is = cc
