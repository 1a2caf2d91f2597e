-- A frame that is dropped for another cause than lack of room changes nothing, and for lack of room only what is known of the sender of a request for our address.
use Rattle.std.proofs.Common.{◌≡◌, ◌≢◌, ◌⊎◌, inl, inr, ℕ, ◌&&◌, not, Bool, true, false, cond, List, length, Option, Some, None, Result, Ok, Err, refl, sym, ◌∙◌, ap, subst, arith}
use Rattle.std.proofs.lemmas.Bool.{and_parts, eqb-true}
use Rattle.ipv4.specs.declared.addr.Addr.{Addr}
use Rattle.ipv4.specs.Addresses.{same_addr}
use Rattle.ipv4.specs.Datagram.{Datagram}
use Rattle.clock.specs.declared.moment.Moment.{Moment}
use Rattle.arp.specs.declared.packet.ArpPacket.{ArpPacket}
use Rattle.arp.specs.declared.packet.Operation.{Operation}
use Rattle.arp.specs.declared.packet.Operation.TheVariants.{Request}
use Rattle.arp.specs.Cache.{is_request, is_request_for}
use Rattle.arp.specs.Packet.{reply_to}
use Rattle.icmp.specs.declared.error.Reason.TheVariants.{PortUnreachable, ProtocolUnreachable}
use Rattle.frames.specs.declared.drop.DropCause.{DropCause}
use Rattle.frames.specs.declared.drop.DropCause.TheVariants.{NoRoom}
use Rattle.frames.specs.declared.meaning.Control.{Control}
use Rattle.frames.specs.declared.meaning.Meaning.{Meaning}
use Rattle.frames.specs.declared.meaning.Meaning.TheVariants.{Arp, Tcp, Icmp, Udp, Other, UdpFragment}
use Rattle.frames.specs.declared.meaning.ReceivedDatagram.{ReceivedDatagram}
use Rattle.reassembly.specs.Reassembly.{Outcome}
use Rattle.frames.proofs.Deciding.{addr-Decides}
use Rattle.interface.specs.declared.reply.QueueFault.{QueueFault}
use Rattle.interface.specs.declared.reply.QueueFault.TheVariants.{NoRoom as Full}
use Rattle.interface.specs.declared.reply.Reply.{Reply}
use Rattle.interface.specs.declared.reply.Reply.TheVariants as reply
use Rattle.interface.specs.InterfaceView.{InterfaceView}
use Rattle.interface.specs.Replies.{after_heard, answer_result, heard_answer, is_full, learnt, owed, owed_answer, queued}
use Rattle.interface.specs.Ways.{is_routed}
use Rattle.reassembly.specs.Fragments.{quote_of}
use Rattle.sockets.specs.Arrival.{Arrival, Becomes, Opens, NoRoom as NoRoomInTable, Answers}
use Rattle.sockets.specs.declared.datagrams.Reception.{Reception}
use Rattle.sockets.specs.declared.datagrams.Reception.TheVariants as socket
use Rattle.sockets.specs.Datagrams.{reception}
use Rattle.sockets.specs.SocketsView.{later_moment}
use Rattle.host.specs.Arrival.{IsDelivered, MeetsFragment, MeetsHeard, MeetsMessage, MeetsSegment, MeetsUserDatagram, fragment_outcome, is_late_copy, pool_for, queue_answer, segment_arrival}
use Rattle.host.specs.Heard.{heard_by}
use Rattle.host.specs.HostView.{HostView, with_interface}
use Rattle.host.specs.Messages.{Told, Asks, Refuses, Nothing, told_by}
use Rattle.host.specs.Met.{IsLearntInVain}

-- what the queue refuses has no room
of_queue : (cause : DropCause) (told : Result (Unit {0}) QueueFault) → Err cause ≡ queue_answer told → cause ≡ NoRoom
of_queue cause (Ok done) e = cc
of_queue cause (Err fault) e = cc

of_segment : (a : Arrival) (h : HostView) (moment : Moment) (source : Addr) (cause : DropCause) (new : HostView) → MeetsSegment a h moment source (Err cause) new → cause ≢ NoRoom → new ≡ h
of_segment (Becomes next) h moment source cause new is other = let no = is.0 in cc
of_segment (Opens next) h moment source cause new is other = is.1
of_segment NoRoomInTable h moment source cause new is other = is.1
of_segment (Answers head) h moment source cause new is other = absurd (other (of_queue cause (answer_result h.interface source) is.0))

of_message : (told : Told) (h : HostView) (moment : Moment) (c : Control) (cause : DropCause) (new : HostView) → MeetsMessage told h moment c (Err cause) new → cause ≢ NoRoom → new ≡ h
of_message Asks h moment c cause new is other = absurd (other (of_queue cause (answer_result h.interface c.source) is.0))
of_message (Refuses quote) h moment c cause new is other = let no = is.0 in cc
of_message Nothing h moment c cause new is other = is.1

of_user : (to : Reception) (h : HostView) (moment : Moment) (r : ReceivedDatagram) (cause : DropCause) (new : HostView) → MeetsUserDatagram to h moment r (Err cause) new → cause ≢ NoRoom → new ≡ h
of_user socket.Queued h moment r cause new is other = let no = is.0 in cc
of_user socket.NoRoom h moment r cause new is other = is.1
of_user socket.NoSocket h moment r cause new is other = absurd (other (of_queue cause (answer_result h.interface r.carrier.source) is.0))

of_fragment : (o : Option Outcome) (late : Bool) (h : HostView) (moment : Moment) (d : Datagram) (cause : DropCause) (new : HostView) → MeetsFragment o late h moment d (Err cause) new → new ≡ h
of_fragment None late h moment d cause new is = is.1
of_fragment (Some outcome) true h moment d cause new is = let no = is.0 in cc
of_fragment (Some outcome) false h moment d cause new is = let no = is.0 in cc

of_meaning : (m : Result Meaning DropCause) (h : HostView) (moment : Moment) (isn : ℕ) (cause : DropCause) (new : HostView) → MeetsHeard m h moment isn (Err cause) new → cause ≢ NoRoom → new ≡ h
of_meaning (Ok (Arp packet)) h moment isn cause new is other = absurd (other (of_queue cause (heard_answer h.interface packet) is.0))
of_meaning (Ok (Tcp r)) h moment isn cause new is other = of_segment (segment_arrival h moment isn r.source r.segment) h moment r.source cause new is other
of_meaning (Ok (Icmp c)) h moment isn cause new is other = of_message (told_by c.message) h moment c cause new is other
of_meaning (Ok (Other d)) h moment isn cause new is other = absurd (other (of_queue cause (answer_result h.interface d.source) is.0))
of_meaning (Ok (Udp r)) h moment isn cause new is other = of_user (reception h.sockets r.datagram) h moment r cause new is other
of_meaning (Ok (UdpFragment d)) h moment isn cause new is other = of_fragment (fragment_outcome moment d (pool_for h.sockets.manner.guards d h.pool)) (is_late_copy h moment d) h moment d cause new is
of_meaning (Err first) h moment isn cause new is other = is.1

pub unchanged : (h : HostView) (now : Moment) (isn : ℕ) (octets : List ℕ) (cause : DropCause) (new : HostView) → IsDelivered h now isn octets (Err cause) new → cause ≢ NoRoom → new ≡ h
unchanged h now isn octets cause new is other = of_meaning (heard_by h octets) h (later_moment h.sockets now) isn cause new is other

-- What is refused for lack of room joins nothing.

pub refused : (is_owed : Bool) (i : InterfaceView) (cause : DropCause) → Err cause ≡ queue_answer (owed_answer is_owed i) → (is_owed && is_full i) ≡ true
refused is_owed i cause is = by_test (is_owed && is_full i) is
  where
    by_test : (b : Bool) → Err cause ≡ queue_answer (cond b (Err Full) (Ok tt)) → b ≡ true
    by_test true e = refl
    by_test false e = cc

unjoined : (is_owed : Bool) (now : Moment) (r : Reply) (i : InterfaceView) → (is_owed && is_full i) ≡ true → owed is_owed now r i ≡ i
unjoined is_owed now r i full =
    let parts = and_parts is_owed (is_full i) full in
    let closed : (is_owed && not (is_full i)) ≡ false = rw (parts.0, parts.1) refl in
    ap (λ (b : Bool). cond b (queued now r i) i) closed

-- A reply of another kind than to a request changes nothing then.
unanswered : (h : HostView) (moment : Moment) (to : Addr) (r : Reply) (cause : DropCause) (new : HostView) → Err cause ≡ queue_answer (answer_result h.interface to) → new ≡ with_interface h (owed (is_routed h.interface to) moment r h.interface) → new ≡ h
unanswered h moment to r cause new told is = is ∙ ap (with_interface h) (unjoined (is_routed h.interface to) moment r h.interface (refused (is_routed h.interface to) h.interface cause told))

segment-dropped : (a : Arrival) (h : HostView) (moment : Moment) (source : Addr) (cause : DropCause) (new : HostView) → MeetsSegment a h moment source (Err cause) new → new ≡ h
segment-dropped (Becomes next) h moment source cause new is = let no = is.0 in cc
segment-dropped (Opens next) h moment source cause new is = is.1
segment-dropped NoRoomInTable h moment source cause new is = is.1
segment-dropped (Answers head) h moment source cause new is = unanswered h moment source (reply.Reset source head) cause new is.0 is.1

message-dropped : (told : Told) (h : HostView) (moment : Moment) (c : Control) (cause : DropCause) (new : HostView) → MeetsMessage told h moment c (Err cause) new → new ≡ h
message-dropped Asks h moment c cause new is = unanswered h moment c.source (reply.Echo c.source c.message.identifier c.message.number c.message.payload) cause new is.0 is.1
message-dropped (Refuses quote) h moment c cause new is = let no = is.0 in cc
message-dropped Nothing h moment c cause new is = is.1

user-dropped : (to : Reception) (h : HostView) (moment : Moment) (r : ReceivedDatagram) (cause : DropCause) (new : HostView) → MeetsUserDatagram to h moment r (Err cause) new → new ≡ h
user-dropped socket.Queued h moment r cause new is = let no = is.0 in cc
user-dropped socket.NoRoom h moment r cause new is = is.1
user-dropped socket.NoSocket h moment r cause new is = unanswered h moment r.carrier.source (reply.Error r.carrier.source PortUnreachable (quote_of r.carrier)) cause new is.0 is.1

packet-dropped : (h : HostView) (moment : Moment) (octets : List ℕ) (packet : ArpPacket) (cause : DropCause) (new : HostView) → heard_by h octets ≡ Ok (Arp packet) → Err cause ≡ queue_answer (heard_answer h.interface packet)
    → new ≡ with_interface h (after_heard h.interface moment packet) → IsLearntInVain h moment octets new
packet-dropped h moment octets packet cause new heard told is =
    let full = refused (is_request_for h.interface.addr packet) h.interface cause told in
    let parts = and_parts (is_request_for h.interface.addr packet) (is_full h.interface) full in
    let asked = and_parts (same_addr packet.target_addr h.interface.addr) (is_request packet.operation) parts.0 in record {
      packet = packet;
      heard = heard;
      asks = request-is packet.operation asked.1;
      for_us = (addr-Decides packet.target_addr h.interface.addr).0 asked.0;
      full = eqb-true (length h.interface.replies) h.interface.most_replies parts.1;
      learns = is ∙ ap (with_interface h) (unjoined (is_request_for h.interface.addr packet) moment (reply.Arp (reply_to packet h.interface.mac)) (learnt moment packet h.interface) full);
    }
  where
    request-is : (o : Operation) → is_request o ≡ true → o ≡ Request
    request-is o is = grind arith

pub learnt-alone : (h : HostView) (now : Moment) (isn : ℕ) (octets : List ℕ) (cause : DropCause) (new : HostView) → IsDelivered h now isn octets (Err cause) new → (new ≡ h) ⊎ IsLearntInVain h (later_moment h.sockets now) octets new
learnt-alone h now isn octets cause new delivered = by_meaning (heard_by h octets) refl delivered
  where
    moment : Moment
    moment = later_moment h.sockets now

    by_meaning : (m : Result Meaning DropCause) → heard_by h octets ≡ m → MeetsHeard m h moment isn (Err cause) new → (new ≡ h) ⊎ IsLearntInVain h moment octets new
    by_meaning (Ok (Arp packet)) heard is = inr (packet-dropped h moment octets packet cause new heard is.0 is.1)
    by_meaning (Ok (Tcp r)) heard is = inl (segment-dropped (segment_arrival h moment isn r.source r.segment) h moment r.source cause new is)
    by_meaning (Ok (Icmp c)) heard is = inl (message-dropped (told_by c.message) h moment c cause new is)
    by_meaning (Ok (Other d)) heard is = inl (unanswered h moment d.source (reply.Error d.source ProtocolUnreachable (quote_of d)) cause new is.0 is.1)
    by_meaning (Ok (Udp r)) heard is = inl (user-dropped (reception h.sockets r.datagram) h moment r cause new is)
    by_meaning (Ok (UdpFragment d)) heard is = inl (of_fragment (fragment_outcome moment d (pool_for h.sockets.manner.guards d h.pool)) (is_late_copy h moment d) h moment d cause new is)
    by_meaning (Err first) heard is = inl is.1

-- .. so at most what is known of the neighbours changes
pub cache-alone : (h : HostView) (now : Moment) (isn : ℕ) (octets : List ℕ) (cause : DropCause) (new : HostView) → IsDelivered h now isn octets (Err cause) new
    → new ≡ with_interface h (record h.interface { cache = (let after = new.interface in after.cache) })
cache-alone h now isn octets cause new delivered =
    let Alone : HostView → Type 0 = λ w. w ≡ with_interface h (record h.interface { cache = (let after = w.interface in after.cache) }) in
    elim (learnt-alone h now isn octets cause new delivered) [
      | inl same ↦ subst Alone (sym same) refl
      | inr vain ↦ subst Alone (sym vain.learns) refl
    ]
