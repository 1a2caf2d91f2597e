-- The segment that what goes out carries (RFC 9293 section 3.1); a UDP datagram carries none. `laws::layers_compose` says that it is the one which is heard.
use Rattle.std.specs.Prelude.{[], find, slice_get, Option, Some, None, option_map, option_and_then}
use Rattle.ether.specs.declared.mac.Mac.{Mac}
use Rattle.ipv4.specs.declared.addr.Addr.{Addr}
use Rattle.clock.specs.declared.moment.Moment.{Moment}
use Rattle.tcp_segment.specs.Segment.{Segment}
use Rattle.tcp_segment.specs.Sent.{sent_segment}
use Rattle.tcp_state.specs.Due.{first_due, head_of, octets_of}
use Rattle.interface.specs.declared.reply.Reply.{Reply}
use Rattle.interface.specs.declared.reply.Reply.TheVariants.{Arp, Reset, Echo, Error}
use Rattle.interface.specs.declared.reply.Waiting.{Waiting}
use Rattle.interface.specs.declared.way.Way.{Way}
use Rattle.interface.specs.declared.way.Way.TheVariants.{To, Ask, Waits}
use Rattle.interface.specs.Replies.{way_of}
use Rattle.sockets.specs.declared.role.Role.{Role}
use Rattle.sockets.specs.Emission.{in_turn}
use Rattle.sockets.specs.Entries.{in_connection, sends}
use Rattle.sockets.specs.SocketsView.{later_moment}
use Rattle.host.specs.HostView.{HostView}
use Rattle.host.specs.Emission.{Emission, Replies, Sends, Asks, Nothing, emission, goes_out_from}

-- a segment in a frame, the interface that the frame is for, and the address that the segment is for
pub record Carried : Type 0 where
  pub mac : Mac
  pub to : Addr
  pub segment : Segment

-- a reset that goes out itself; an ARP packet and an ICMP message carry none
abbrev pub carried_reply : Reply → Way → Option Carried
carried_reply (Reset to head) (To mac) = Some (record { mac = mac; to = to; segment = sent_segment head [] })
carried_reply (Reset to head) (Ask hop) = None
carried_reply (Reset to head) Waits = None
carried_reply (Arp packet) way = None
carried_reply (Echo to identifier number octets) way = None
carried_reply (Error to reason quoted) way = None

abbrev pub carried_for : HostView → Moment → Option Waiting → Option Carried
carried_for h moment None = None
carried_for h moment (Some waiting) = carried_reply waiting.reply (way_of h.interface moment waiting.reply)

-- the segment that a connection has due first
abbrev pub due_segment : Role → Option Segment
due_segment role = in_connection None (λ c. option_map (λ due. sent_segment (head_of c due) (octets_of c due)) (first_due c)) role

abbrev pub carried_by : HostView → Moment → Emission → Option Carried
carried_by h moment (Replies place) = carried_for h moment (slice_get h.interface.replies place)
carried_by h moment (Sends mac to) =
    option_map (λ segment. record { mac = mac; to = to; segment = segment }) (option_and_then (λ e. due_segment e.role) (find (in_turn h.sockets (sends (goes_out_from h moment))) h.sockets.entries))
carried_by h moment (Asks hop) = None
carried_by h moment Nothing = None

-- at the later of the moment and the kept one
abbrev pub carried : HostView → Moment → Option Carried
carried h now = let moment = later_moment h.sockets now in carried_by h moment (emission h moment)
