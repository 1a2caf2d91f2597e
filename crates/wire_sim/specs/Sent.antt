-- What a frame is sent as by the host that it goes out of, and what whoever receives it hears then.
use Rattle.std.specs.Prelude.{◌≡◌, Bool, true, not, ◌&&◌, ◌||◌, if◌then◌else◌, List, [], ◌∷◌, length, slice_get, Option, Some, None, is_some, option_map, option_and_then, Result, Ok, Err}
use Rattle.std.specs.List.{AllByRecursion}
use Rattle.ether.specs.declared.mac.Mac.{Mac}
use Rattle.arp.specs.declared.packet.ArpPacket.{ArpPacket}
use Rattle.arp.specs.Packet.{request_of}
use Rattle.ipv4.specs.declared.addr.Addr.{Addr}
use Rattle.ipv4.specs.declared.addr.Endpoint.{Endpoint}
use Rattle.ipv4.specs.Addresses.{same_addr}
use Rattle.ipv4.specs.Datagram.{Datagram}
use Rattle.clock.specs.declared.moment.Moment.{Moment}
use Rattle.icmp.specs.Message.{Message}
use Rattle.icmp.specs.Sent.{echo_reply, error_for}
use Rattle.tcp_segment.specs.Segment.{Segment}
use Rattle.tcp_segment.specs.Sent.{sent_segment}
use Rattle.udp.specs.declared.cutting.Part.{Part}
use Rattle.udp.specs.Datagram.{UserDatagram}
use Rattle.udp_socket.specs.Emission.{fragment_of, octets_of, datagram_of}
use Rattle.udp_socket.specs.SocketView.{Outgoing as OutDatagram, SocketView}
use Rattle.routes.specs.declared.route.Hop.{Hop}
use Rattle.routes.specs.declared.route.Hop.TheVariants.{Direct, Gateway}
use Rattle.routes.specs.declared.route.Route.{Route}
use Rattle.frames.specs.declared.drop.DropCause.{DropCause}
use Rattle.frames.specs.declared.drop.DropCause.TheVariants.{OtherMac, OtherAddress}
use Rattle.frames.specs.declared.meaning.Meaning.{Meaning}
use Rattle.frames.specs.declared.meaning.Meaning.TheVariants.{Arp as ArpTold, Tcp, Icmp, Udp, UdpFragment, Other}
use Rattle.frames.specs.Meaning.{broadcast, is_fragment, may_send, same_mac}
use Rattle.frames.specs.Sent.{packet_destination, part_datagram}
use Rattle.interface.specs.declared.reply.Reply.{Reply}
use Rattle.interface.specs.declared.reply.Reply.TheVariants.{Arp, Reset, Echo, Error}
use Rattle.interface.specs.declared.reply.Waiting.{Waiting}
use Rattle.interface.specs.declared.way.Way.{Way}
use Rattle.interface.specs.declared.way.Way.TheVariants.{To, Ask, Waits}
use Rattle.interface.specs.Emission.{head_to}
use Rattle.interface.specs.InterfaceView.{InterfaceView}
use Rattle.interface.specs.Replies.{way_of}
use Rattle.sockets.specs.declared.role.Role.{Role}
use Rattle.sockets.specs.declared.role.Role.TheVariants.{Idle, Listener, Connected, Datagrams}
use Rattle.sockets.specs.declared.emission.Outgoing.{Outgoing}
use Rattle.sockets.specs.Emission.{next_out}
use Rattle.sockets.specs.Entries.{source_of, with_first}
use Rattle.sockets.specs.SocketsView.{later_moment}
use Rattle.host.specs.Carried.{Carried, due_segment}
use Rattle.host.specs.Emission.{Emission, Replies, Sends, Asks, Nothing, emission, goes_out_from}
use Rattle.host.specs.HostView.{HostView}

-- What a frame is sent as: to the interface with this MAC (RFC 894), from this address, for that one where it carries a datagram (RFC 791 section
-- 3.1) and for none where it carries an ARP packet (RFC 826), and what it says.
pub record Sent : Type 0 where
  pub mac : Mac
  pub from : Addr
  pub to : Option Addr
  pub says : Meaning

-- an ARP packet: a request is for all of the link, a reply for the interface of its target
abbrev pub packet_sent : ArpPacket → Sent
packet_sent p = record { mac = packet_destination p.operation p.target_mac; from = p.sender_addr; to = None; says = ArpTold p }

-- the request for a neighbour
abbrev pub request_sent : InterfaceView → Addr → Sent
request_sent i hop = packet_sent (request_of i.mac i.addr hop)

-- a segment that is carried, from this address
abbrev pub segment_from : Addr → Carried → Sent
segment_from from c = record { mac = c.mac; from = from; to = Some c.to; says = Tcp (record { source = from; segment = c.segment }) }

-- what a datagram for an address says
abbrev pub datagram_sent : InterfaceView → Mac → Addr → Meaning → Sent
datagram_sent i mac to says = record { mac = mac; from = i.addr; to = Some to; says = says }

-- a segment (RFC 9293 section 3.1), an ICMP message (RFC 792), and a part of a UDP datagram, which is the whole or a fragment (RFC 768, RFC 791 section 3.2)
abbrev pub segment_said : InterfaceView → Segment → Meaning
segment_said i s = Tcp (record { source = i.addr; segment = s })

abbrev pub message_said : InterfaceView → Message → Meaning
message_said i m = Icmp (record { source = i.addr; message = m })

abbrev pub part_said : Datagram → UserDatagram → Meaning
part_said carrier d = if is_fragment carrier then UdpFragment carrier else Udp (record { carrier = carrier; datagram = d })

-- a control reply, to this MAC
abbrev pub reply_sent : InterfaceView → Mac → Reply → Sent
reply_sent i mac (Arp packet) = packet_sent packet
reply_sent i mac (Reset to head) = datagram_sent i mac to (segment_said i (sent_segment head []))
reply_sent i mac (Echo to identifier number octets) = datagram_sent i mac to (message_said i (echo_reply identifier number octets))
reply_sent i mac (Error to reason quoted) = datagram_sent i mac to (message_said i (error_for reason quoted []))

-- by its way: it, or the request for its hop
abbrev pub reply_sent_by : InterfaceView → Reply → Way → Option Sent
reply_sent_by i reply (To mac) = Some (reply_sent i mac reply)
reply_sent_by i reply (Ask hop) = Some (request_sent i hop)
reply_sent_by i reply Waits = None

abbrev pub waiting_sent : InterfaceView → Moment → Option Waiting → Option Sent
waiting_sent i moment None = None
waiting_sent i moment (Some waiting) = reply_sent_by i waiting.reply (way_of i moment waiting.reply)

-- the part that is due of the first datagram that waits in a UDP socket, which sends from this end
abbrev pub outgoing_said : InterfaceView → Mac → Addr → Endpoint → SocketView → Option Meaning
outgoing_said i mac to source s = of_outbox s.outbox
  where
    of_outbox : List OutDatagram → Option Meaning
    of_outbox [] = None
    of_outbox (o ∷ rest) =
        let part : Part = record { identification = o.identification; fragment = fragment_of o s.parts } in
        Some (part_said (part_datagram (head_to i mac to) part (octets_of source o s.parts)) (datagram_of source o))

-- what an entry says where this of it goes out: the first segment of a connection, or the part that is due of the datagram in this place
abbrev pub due_said : HostView → Mac → Addr → Outgoing → Role → Option Meaning
due_said h mac to what (Connected c listener) = option_map (segment_said h.interface) (due_segment (Connected c listener))
due_said h mac to what (Datagrams bound socket) = outgoing_said h.interface mac to (source_of h.sockets.addr bound) (with_first what socket)
due_said h mac to what (Listener local backlog) = None
due_said h mac to what (Idle buffers bound) = None

-- what goes out of a host, at the later of a moment and the kept one
abbrev pub sent_by : HostView → Moment → Emission → Option Sent
sent_by h moment (Replies place) = waiting_sent h.interface moment (slice_get h.interface.replies place)
sent_by h moment (Sends mac to) =
    option_map (datagram_sent h.interface mac to) (option_and_then (λ next. due_said h mac to next.what next.entry.role) (next_out h.sockets (goes_out_from h moment)))
sent_by h moment (Asks hop) = Some (request_sent h.interface hop)
sent_by h moment Nothing = None

abbrev pub sent_at : HostView → Moment → Option Sent
sent_at h now = let moment = later_moment h.sockets now in sent_by h moment (emission h moment)

-- it is to the interface with this MAC: by its own, or by that of all of the link where it is an ARP packet
abbrev pub is_sent_to : Sent → Mac → Bool
is_sent_to s mac = same_mac s.mac mac || (same_mac s.mac broadcast && not (is_some s.to))

-- it is for a host with this address; an ARP packet is for each that hears it
abbrev pub is_sent_for : Option Addr → Addr → Bool
is_sent_for None ours = true
is_sent_for (Some to) ours = same_addr to ours

-- what a host with this MAC and this address hears in it: what it says, or that it is for another one (RFC 1122 section 3.2.1.3)
abbrev pub heard_as : Sent → Mac → Addr → Result Meaning DropCause
heard_as s mac ours = if is_sent_to s mac then (if is_sent_for s.to ours && may_send ours s.from then Ok s.says else Err OtherAddress) else Err OtherMac

-- Every address has four octets, but of the gateways in a table of routes that isn't told. So it is asked of an ARP packet, whose target may be a gateway.
abbrev pub IsSpelled : Meaning → Type 0
IsSpelled (ArpTold p) = length p.target_addr.0 ≡ 4
IsSpelled (Tcp r) = Unit {0}
IsSpelled (Icmp c) = Unit {0}
IsSpelled (Udp r) = Unit {0}
IsSpelled (UdpFragment d) = Unit {0}
IsSpelled (Other d) = Unit {0}

-- it holds of each packet where it holds of those gateways
abbrev pub IsWholeHop : Hop → Type 0
IsWholeHop Direct = Unit {0}
IsWholeHop (Gateway gateway) = length gateway.0 ≡ 4

abbrev pub AreWholeRoutes : List Route → Type 0
AreWholeRoutes routes = AllByRecursion (λ (route : Route). IsWholeHop route.hop) routes
