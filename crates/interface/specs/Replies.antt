-- The control replies that wait: ARP replies (RFC 826), resets that answer segments (RFC 9293 section 3.5.2), echo replies and
-- errors (RFC 792). That only so many may wait is this stack's own.
use Rattle.std.specs.Prelude.{ℕ, List, Bool, true, false, not, ◌&&◌, ◌==◌, if◌then◌else◌, [], ◌∷◌, ◌++◌, length, Result, Ok, Err}
use Rattle.ipv4.specs.declared.addr.Addr.{Addr}
use Rattle.clock.specs.declared.moment.Moment.{Moment}
use Rattle.arp.specs.declared.packet.ArpPacket.{ArpPacket}
use Rattle.arp.specs.Cache.{after_hear, is_request_for}
use Rattle.arp.specs.Packet.{reply_to}
use Rattle.icmp.specs.declared.error.Reason.{Reason}
use Rattle.tcp_segment.specs.declared.head.Head.{Head}
use Rattle.interface.specs.declared.reply.Reply.{Reply}
use Rattle.interface.specs.declared.reply.Reply.TheVariants.{Arp, Reset, Echo, Error}
use Rattle.interface.specs.declared.reply.Waiting.{Waiting}
use Rattle.interface.specs.declared.reply.QueueFault.{QueueFault}
use Rattle.interface.specs.declared.reply.QueueFault.TheVariants.{NoRoom}
use Rattle.interface.specs.declared.way.Way.{Way}
use Rattle.interface.specs.declared.way.Way.TheVariants.{To, Ask, Waits}
use Rattle.interface.specs.InterfaceView.{InterfaceView}
use Rattle.interface.specs.Ways.{is_routed, way}

-- as many wait as may
abbrev pub is_full : InterfaceView → Bool
is_full h = length h.replies == h.most_replies

-- a reply that begins to wait now stands behind the others
abbrev pub queued : Moment → Reply → InterfaceView → InterfaceView
queued now reply h = record h { replies = h.replies ++ record { since = now; reply = reply } ∷ [] }

-- a reply that is owed joins them where there is room
abbrev pub owed : Bool → Moment → Reply → InterfaceView → InterfaceView
owed is_owed now reply h = if is_owed && not (is_full h) then queued now reply h else h

-- and it is refused where there is none
abbrev pub owed_answer : Bool → InterfaceView → Result (Unit {0}) QueueFault
owed_answer is_owed h = if is_owed && is_full h then Err NoRoom else Ok tt

-- what an ARP packet tells is learnt
abbrev pub learnt : Moment → ArpPacket → InterfaceView → InterfaceView
learnt now packet h = record h { cache = after_hear now packet h.addr h.cache }

-- an ARP packet is learnt, and a request for our address is answered
abbrev pub after_heard : InterfaceView → Moment → ArpPacket → InterfaceView
after_heard h now packet = owed (is_request_for h.addr packet) now (Arp (reply_to packet h.mac)) (learnt now packet h)

abbrev pub heard_answer : InterfaceView → ArpPacket → Result (Unit {0}) QueueFault
heard_answer h packet = owed_answer (is_request_for h.addr packet) h

-- a reset is owed to an address that a route leads to
abbrev pub after_answer : InterfaceView → Moment → Addr → Head → InterfaceView
after_answer h now to head = owed (is_routed h to) now (Reset to head) h

-- so is the reply to an echo request, with the request's identifier, number and data (RFC 1122 section 3.2.2.6)
abbrev pub after_echo : InterfaceView → Moment → Addr → ℕ → ℕ → List ℕ → InterfaceView
after_echo h now to identifier number octets = owed (is_routed h to) now (Echo to identifier number octets) h

-- and an error about a datagram, of which it quotes these octets (RFC 792)
abbrev pub after_report : InterfaceView → Moment → Addr → Reason → List ℕ → InterfaceView
after_report h now to reason quoted = owed (is_routed h to) now (Error to reason quoted) h

abbrev pub answer_result : InterfaceView → Addr → Result (Unit {0}) QueueFault
answer_result h to = owed_answer (is_routed h to) h

-- an ARP reply names the MAC that it is for, and all others go the way to their address
abbrev pub way_of : InterfaceView → Moment → Reply → Way
way_of h now (Arp packet) = To packet.target_mac
way_of h now (Reset to head) = way h now to
way_of h now (Echo to identifier number octets) = way h now to
way_of h now (Error to reason quoted) = way h now to

-- a frame goes out for it
abbrev pub goes_out : Way → Bool
goes_out (To mac) = true
goes_out (Ask hop) = true
goes_out Waits = false

abbrev pub is_due : InterfaceView → Moment → Waiting → Bool
is_due h now waiting = goes_out (way_of h now waiting.reply)
