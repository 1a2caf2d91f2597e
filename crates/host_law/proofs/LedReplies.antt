-- No reset that waits among the control replies of a host has a FIN.
use Rattle.std.proofs.Common.{◌≡◌, ℕ, ◌&&◌, not, Bool, true, false, cond, List, [], ◌∷◌, Option, Some, None, Result, Ok, Err, refl, sym, subst}
use Rattle.std.specs.List.{AllByRecursion}
use Rattle.ipv4.specs.declared.addr.Addr.{Addr}
use Rattle.ipv4.specs.Datagram.{Datagram}
use Rattle.clock.specs.declared.moment.Moment.{Moment}
use Rattle.arp.specs.Cache.{is_request_for}
use Rattle.arp.specs.Packet.{reply_to}
use Rattle.icmp.specs.declared.error.Reason.TheVariants.{ProtocolUnreachable, PortUnreachable, ReassemblyTimeExceeded}
use Rattle.frames.specs.declared.drop.DropCause.{DropCause}
use Rattle.frames.specs.declared.meaning.Control.{Control}
use Rattle.frames.specs.declared.meaning.Meaning.{Meaning}
use Rattle.frames.specs.declared.meaning.Meaning.TheVariants.{Arp, Tcp, Icmp, Udp, Other, UdpFragment}
use Rattle.tcp_segment.specs.declared.head.Head.{Head}
use Rattle.tcp_segment.specs.Segment.{Segment}
use Rattle.interface.specs.declared.reply.Reply.{Reply}
use Rattle.interface.specs.declared.reply.Reply.TheVariants as reply
use Rattle.interface.specs.declared.reply.Waiting.{Waiting}
use Rattle.interface.specs.declared.way.Way.{Way}
use Rattle.interface.specs.declared.way.Way.TheVariants.{To, Ask, Waits}
use Rattle.interface.specs.InterfaceView.{InterfaceView}
use Rattle.interface.specs.Emission.{left_by as reply_left_by, way_at}
use Rattle.interface.specs.Replies.{is_full, learnt, owed, queued}
use Rattle.interface.specs.Timing.{after_tick as interface_after_tick, stays}
use Rattle.interface.specs.Ways.{is_routed}
use Rattle.reassembly.specs.declared.expired.Expired.{Expired}
use Rattle.reassembly.specs.Fragments.{quote_of}
use Rattle.reassembly.specs.Places.{after_take, expired}
use Rattle.reassembly.specs.Reassembly.{Outcome}
use Rattle.reassembly.specs.Reassembly.Outcome.{Waits as Kept, Completes, GivesUp}
use Rattle.sockets.specs.declared.datagrams.Reception.{Reception}
use Rattle.sockets.specs.declared.datagrams.Reception.TheVariants as socket
use Rattle.sockets.specs.Arrival.{Arrival, Becomes, Opens, NoRoom as NoRoomInTable, Answers, arrival, arrival_with_reply}
use Rattle.sockets.specs.Datagrams.{reception}
use Rattle.sockets.specs.Replies.{reset_at_ack, reset_past, answer_to, answer_at_listener}
use Rattle.sockets.specs.SocketsView.{SocketsView, later_moment}
use Rattle.sockets.proofs.Arrivals.{IsReply, refusing, to_stray, at_listener, by_arrival}
use Rattle.sockets.proofs.Followed.{by_test}
use Rattle.udp.specs.declared.fault.UdpFault.{UdpFault}
use Rattle.udp.specs.Datagram.{UserDatagram}
use Rattle.udp.specs.Reading.{datagram_or_fault}
use Rattle.host.specs.Arrival.{MeetsFragment, MeetsHeard, MeetsMessage, MeetsSegment, after_outcome, after_payload, after_user_datagram, arrival_by_route, fragment_outcome, is_late_copy, pool_for, segment_arrival, with_noted}
use Rattle.host.specs.ConfigView.{ConfigView}
use Rattle.host.specs.Emission.{Emission, Replies, Sends, Asks as AsksFor, Nothing as NothingGoes, after_emission, emission, left_by}
use Rattle.host.specs.Heard.{heard_by}
use Rattle.host.specs.HostView.{HostView, with_pool, with_sockets}
use Rattle.host.specs.Messages.{Told, Asks, Refuses, Nothing, told_by}
use Rattle.host.specs.Runs.{Event, Calls, Ticks, Delivers, Emits, Makes, Runs, Begins, GoesOn}
use Rattle.host.specs.Ticks.{after_tick, all_reported, reported}
use Rattle.host.proofs.Causes.{all-behind, all-filtered, all-left}

-- neither FIN nor SYN
abbrev pub IsPlain : Head → Type 0
IsPlain head = (head.flags.fin ≡ false) × (head.flags.syn ≡ false)

-- a reset without a FIN, or no reset
abbrev pub TakesNone : Reply → Type 0
TakesNone (reply.Reset to head) = IsPlain head
TakesNone (reply.Arp packet) = Unit {0}
TakesNone (reply.Echo to identifier number octets) = Unit {0}
TakesNone (reply.Error to reason quoted) = Unit {0}

abbrev pub AreBare : InterfaceView → Type 0
AreBare i = AllByRecursion (λ (w : Waiting). TakesNone w.reply) i.replies

-- what answers a segment has none
bare_reply : (h : SocketsView) (s : Segment) (reply : Option Head) (head : Head) → ((h' : Head) → reply ≡ Some h' → IsPlain h') → arrival_with_reply h reply ≡ Answers head → IsPlain head
bare_reply h s None head bare is = cc
bare_reply h s (Some x) head bare is = let same : x ≡ head = cc in subst (λ (y : Head). IsPlain y) same (bare x refl)

of_stray : (s : Segment) (x : Head) → answer_to s ≡ Some x → IsPlain x
of_stray s x is =
    by_test s.flags.rst
    (λ rst. let none : answer_to s ≡ None = rw rst in cc)
    (λ other. by_test s.flags.ack
    (λ ack. let some : answer_to s ≡ Some (reset_at_ack s) = rw (other, ack) in let same : reset_at_ack s ≡ x = cc in subst (λ (y : Head). IsPlain y) same (refl, refl))
    (λ bare. let some : answer_to s ≡ Some (reset_past s) = rw (other, bare) in let same : reset_past s ≡ x = cc in subst (λ (y : Head). IsPlain y) same (refl, refl)))

of_listener : (s : Segment) (x : Head) → answer_at_listener s ≡ Some x → IsPlain x
of_listener s x is =
    by_test s.flags.rst
    (λ rst. let none : answer_at_listener s ≡ None = rw rst in cc)
    (λ other. by_test s.flags.ack
    (λ ack. let some : answer_at_listener s ≡ Some (reset_at_ack s) = rw (other, ack) in let same : reset_at_ack s ≡ x = cc in subst (λ (y : Head). IsPlain y) same (refl, refl))
    (λ bare. let none : answer_at_listener s ≡ None = rw (other, bare) in cc))

of_reply : (h : SocketsView) (source : Addr) (s : Segment) (reply : Option Head) → IsReply h source s reply → (x : Head) → reply ≡ Some x → IsPlain x
of_reply h source s _ (refusing e found refused) x is = let same : reset_at_ack s ≡ x = cc in subst (λ (y : Head). IsPlain y) same (refl, refl)
of_reply h source s _ (to_stray none stray) x is = of_stray s x is
of_reply h source s _ (at_listener listener none found other) x is = of_listener s x is

answers_bare : (h : SocketsView) (now : Moment) (isn : ℕ) (source : Addr) (s : Segment) (head : Head) → arrival h now isn source s ≡ Answers head → IsPlain head
answers_bare h now isn source s head =
    by_arrival h now isn source s (λ a. a ≡ Answers head → IsPlain head) (λ reply why. bare_reply h s reply head (of_reply h source s reply why)) (λ e taker answers. cc) (λ listener called full answers. cc) (λ listener called room answers. cc)

-- What an event makes of the replies.

bare-owed : (is_owed : Bool) (now : Moment) (r : Reply) (i : InterfaceView) → AreBare i → TakesNone r → AreBare (owed is_owed now r i)
bare-owed is_owed now r i bare own = by_owed (is_owed && not (is_full i))
  where
    by_owed : (b : Bool) → AreBare (cond b (queued now r i) i)
    by_owed true = all-behind (λ (w : Waiting). TakesNone w.reply) i.replies (record { since = now; reply = r }) bare own
    by_owed false = bare

bare-reported : (now : Moment) (datagrams : List Expired) (i : InterfaceView) → AreBare i → AreBare (all_reported now i datagrams)
bare-reported now [] i bare = bare
bare-reported now (d ∷ ds) i bare = bare-reported now ds (reported now i d) (bare-owed _ now (reply.Error _ ReassemblyTimeExceeded _) i bare tt)

bare-replied : (now : Moment) (place : ℕ) (i : InterfaceView) → AreBare i → (way : Way) → AreBare (reply_left_by i now place way)
bare-replied now place i bare (To mac) = all-left (λ (w : Waiting). TakesNone w.reply) i.replies place bare
bare-replied now place i bare (Ask hop) = bare
bare-replied now place i bare Waits = bare

bare-left : (h : HostView) (moment : Moment) → AreBare h.interface → (x : Emission) → AreBare (let left = left_by h moment x in left.interface)
bare-left h moment bare (Replies place) = bare-replied moment place h.interface bare (way_at h.interface moment place)
bare-left h moment bare (Sends mac to) = bare
bare-left h moment bare (AsksFor hop) = bare
bare-left h moment bare NothingGoes = bare

to-new : (made new : HostView) → new ≡ made → AreBare made.interface → AreBare new.interface
to-new made new is bare = subst (λ (w : HostView). AreBare w.interface) (sym is) bare

bare-segment : (h : HostView) (moment : Moment) (isn : ℕ) (source : Addr) (s : Segment) (answer : Result (Unit {0}) DropCause) (new : HostView) → AreBare h.interface
    → MeetsSegment (segment_arrival h moment isn source s) h moment source answer new → AreBare new.interface
bare-segment h moment isn source s answer new bare met = by_arrived (arrival h.sockets moment isn source s) refl met
  where
    by_answer : (next : SocketsView) (a : Result (Unit {0}) DropCause) → MeetsSegment (Opens next) h moment source a new → AreBare new.interface
    by_answer next (Ok done) met = to-new (with_sockets h next) new met bare
    by_answer next (Err cause) met = to-new h new met.1 bare

    by_route : (next : SocketsView) (routed : Bool) → MeetsSegment (arrival_by_route routed (Opens next)) h moment source answer new → AreBare new.interface
    by_route next true met = by_answer next answer met
    by_route next false met = to-new h new met.1 bare

    by_arrived : (a : Arrival) → arrival h.sockets moment isn source s ≡ a → MeetsSegment (arrival_by_route (is_routed h.interface source) a) h moment source answer new → AreBare new.interface
    by_arrived (Becomes next) is met = to-new (with_sockets h next) new met.1 bare
    by_arrived (Opens next) is met = by_route next (is_routed h.interface source) met
    by_arrived NoRoomInTable is met = to-new h new met.1 bare
    by_arrived (Answers head) is met = to-new _ new met.1 (bare-owed (is_routed h.interface source) moment (reply.Reset source head) h.interface bare (answers_bare h.sockets moment isn source s head is))

bare-message : (h : HostView) (moment : Moment) (m : Control) (answer : Result (Unit {0}) DropCause) (new : HostView) → AreBare h.interface → (told : Told) → MeetsMessage told h moment m answer new → AreBare new.interface
bare-message h moment m answer new bare Asks met = to-new _ new met.1 (bare-owed (is_routed h.interface m.source) moment (reply.Echo m.source m.message.identifier m.message.number m.message.payload) h.interface bare tt)
bare-message h moment m answer new bare (Refuses quote) met = to-new _ new met.1 bare
bare-message h moment m answer new bare Nothing met = to-new h new met.1 bare

bare-user : (to : Reception) (h : HostView) (moment : Moment) (source : Addr) (u : UserDatagram) (quote : List ℕ) → AreBare h.interface → AreBare (let left = after_user_datagram to h moment source u quote in left.interface)
bare-user socket.Queued h moment source u quote bare = bare
bare-user socket.NoRoom h moment source u quote bare = bare
bare-user socket.NoSocket h moment source u quote bare = bare-owed (is_routed h.interface source) moment (reply.Error source PortUnreachable quote) h.interface bare tt

bare-payload : (read : Result UserDatagram UdpFault) (h : HostView) (moment : Moment) (source : Addr) (quote : List ℕ) → AreBare h.interface → AreBare (let left = after_payload read h moment source quote in left.interface)
bare-payload (Err fault) h moment source quote bare = bare
bare-payload (Ok u) h moment source quote bare = bare-user (reception h.sockets u) h moment source u _ bare

bare-outcome : (o : Outcome) (h : HostView) (moment : Moment) (d : Datagram) → AreBare h.interface → AreBare (let left = after_outcome o h moment d in left.interface)
bare-outcome (Kept r) h moment d bare = bare
bare-outcome GivesUp h moment d bare = bare
bare-outcome (Completes payload quote) h moment d bare = bare-payload (datagram_or_fault d.source d.destination payload) (with_noted h moment d) moment d.source quote bare

bare-fragment : (h : HostView) (outcome : Option Outcome) (late : Bool) (moment : Moment) (d : Datagram) (answer : Result (Unit {0}) DropCause) (new : HostView) → AreBare h.interface → MeetsFragment outcome late h moment d answer new → AreBare new.interface
bare-fragment h None late moment d answer new bare met = to-new h new met.1 bare
bare-fragment h (Some outcome) true moment d answer new bare met = to-new h new met.1 bare
bare-fragment h (Some outcome) false moment d answer new bare met = to-new _ new met.1 (bare-outcome outcome (with_pool h (after_take moment d (pool_for h.sockets.manner.guards d h.pool))) moment d bare)

bare-heard : (h : HostView) (moment : Moment) (isn : ℕ) (answer : Result (Unit {0}) DropCause) (new : HostView) → AreBare h.interface → (m : Result Meaning DropCause) → MeetsHeard m h moment isn answer new → AreBare new.interface
bare-heard h moment isn answer new bare (Ok (Arp packet)) met = to-new _ new met.1 (bare-owed (is_request_for h.interface.addr packet) moment (reply.Arp (reply_to packet h.interface.mac)) (learnt moment packet h.interface) bare tt)
bare-heard h moment isn answer new bare (Ok (Tcp r)) met = bare-segment h moment isn r.source r.segment answer new bare met
bare-heard h moment isn answer new bare (Ok (Icmp m)) met = bare-message h moment m answer new bare (told_by m.message) met
bare-heard h moment isn answer new bare (Ok (Udp r)) met = to-new _ new met.1 (bare-user (reception h.sockets r.datagram) h moment r.carrier.source r.datagram (quote_of r.carrier) bare)
bare-heard h moment isn answer new bare (Ok (UdpFragment d)) met = bare-fragment h (fragment_outcome moment d (pool_for h.sockets.manner.guards d h.pool)) (is_late_copy h moment d) moment d answer new bare met
bare-heard h moment isn answer new bare (Ok (Other d)) met = to-new _ new met.1 (bare-owed (is_routed h.interface d.source) moment (reply.Error d.source ProtocolUnreachable (quote_of d)) h.interface bare tt)
bare-heard h moment isn answer new bare (Err cause) met = to-new h new met.1 bare

bare-on : (event : Event) (old new : HostView) → AreBare old.interface → Makes event old new → AreBare new.interface
bare-on (Calls call) old new bare makes = to-new _ new makes.1 bare
bare-on (Ticks now) old new bare makes =
    let moment : Moment = later_moment old.sockets now in
    to-new (after_tick old now) new makes (bare-reported moment (expired moment old.pool) (interface_after_tick old.interface moment) (all-filtered (λ (w : Waiting). TakesNone w.reply) (stays old.interface moment) (let i = old.interface in i.replies) bare))
bare-on (Delivers now isn octets) old new bare makes = bare-heard old (later_moment old.sockets now) isn makes.0 new bare (heard_by old octets) makes.1
bare-on (Emits now) old new bare makes = let moment : Moment = later_moment old.sockets now in to-new (after_emission old now) new makes (bare-left old moment bare (emission old moment))

pub run-bare : (c : ConfigView) (events : List Event) (h : HostView) → Runs c events h → AreBare h.interface
run-bare c _ _ Begins = tt
run-bare c _ _ (GoesOn before event old new ran sound small makes) = bare-on event old new (run-bare c before old ran) makes
