-- A frame is dropped for want of room exactly where it finds none at something, and finds the same after that.
use Rattle.std.proofs.Common.{◌≡◌, ◌≢◌, ◌⊎◌, inl, inr, ℕ, Bool, true, false, ◌&&◌, cond, List, Option, Some, None, is_none, option_map, Result, Ok, Err, refl, sym, ◌∙◌, ap, ⊎_elim}
use Rattle.ipv4.specs.declared.addr.Addr.{Addr}
use Rattle.ipv4.specs.Datagram.{Datagram}
use Rattle.clock.specs.declared.moment.Moment.{Moment}
use Rattle.arp.specs.Cache.{is_request_for}
use Rattle.frames.specs.declared.drop.DropCause.{DropCause}
use Rattle.frames.specs.declared.drop.DropCause.TheVariants.{NoRoom}
use Rattle.frames.specs.declared.meaning.Control.{Control}
use Rattle.frames.specs.declared.meaning.Meaning.{Meaning}
use Rattle.frames.specs.declared.meaning.Meaning.TheVariants.{Arp, Tcp, Icmp, Udp, Other, UdpFragment}
use Rattle.frames.specs.declared.meaning.ReceivedDatagram.{ReceivedDatagram}
use Rattle.interface.specs.declared.reply.QueueFault.TheVariants.{NoRoom as Full}
use Rattle.interface.specs.InterfaceView.{InterfaceView}
use Rattle.interface.specs.Replies.{is_full, owed_answer}
use Rattle.interface.specs.Ways.{is_routed}
use Rattle.reassembly.specs.Places.{outcome_at, place_for}
use Rattle.sockets.specs.Arrival.{Arrival, Becomes, Opens, NoRoom as NoRoomInTable, Answers, arrival}
use Rattle.sockets.specs.declared.datagrams.Reception.{Reception}
use Rattle.sockets.specs.declared.datagrams.Reception.TheVariants as socket
use Rattle.sockets.specs.declared.needs.Need.{Need}
use Rattle.sockets.specs.Datagrams.{reception}
use Rattle.sockets.specs.Needs as needs
use Rattle.sockets.specs.SocketsView.{later_moment}
use Rattle.sockets.proofs.Needed.{need_foreseen}
use Rattle.host.specs.declared.lack.Lack.{Lack}
use Rattle.host.specs.declared.lack.Lack.TheVariants.{Backlog, Table, Memory, Replies, Queue, Reassembly, Route}
use Rattle.host.specs.Arrival.{IsDelivered, MeetsFragment, MeetsHeard, MeetsMessage, MeetsSegment, MeetsUserDatagram, arrival_by_route, fragment_outcome, is_late_copy, pool_for, queue_answer}
use Rattle.host.specs.Heard.{heard_by}
use Rattle.frames.specs.Meaning as frame
use Rattle.host.proofs.Guarded.{drops_so}
use Rattle.host.specs.HostView.{HostView}
use Rattle.host.specs.Lack.{lack, lack_by_message, lack_by_need, lack_by_reception, lack_of, lack_of_answer, lack_of_reply}
use Rattle.host.specs.Messages.{Told, Asks, Refuses, Nothing, told_by}
use Rattle.host.specs.Met.{IsLearntInVain}
use Rattle.host.proofs.Dropped.{learnt-alone, refused}
use Rattle.host.proofs.NoWantHeard.{want_unheard}

-- there is something at which no room is found
abbrev Lacks : Option Lack → Type 0
Lacks found = (what : Lack) × (found ≡ Some what)

-- what is dropped isn't taken, and for one cause
refusing : (done : Unit {0}) → (let answer : Result (Unit {0}) DropCause = Err NoRoom in answer ≡ Ok done) → ⊥
refusing done e = cc

same_cause : (cause : DropCause) → (let answer : Result (Unit {0}) DropCause = Err NoRoom in answer ≡ Err cause) → cause ≡ NoRoom
same_cause cause e = cc

abbrev heard_so : DropCause → Result Meaning DropCause
heard_so cause = Err cause

-- A reply that is owed.

reply-lacks : (is_owed : Bool) (i : InterfaceView) → Err NoRoom ≡ queue_answer (owed_answer is_owed i) → Lacks (lack_of_reply is_owed i)
reply-lacks is_owed i told = (Replies, ap (λ (b : Bool). cond b (Some Replies) None) (refused is_owed i NoRoom told))

reply-refused : (is_owed : Bool) (i : InterfaceView) (what : Lack) → lack_of_reply is_owed i ≡ Some what → queue_answer (owed_answer is_owed i) ≡ Err NoRoom
reply-refused is_owed i what found = by_test (is_owed && is_full i) found
  where
    by_test : (b : Bool) → cond b (Some Replies) None ≡ Some what → queue_answer (cond b (Err Full) (Ok tt)) ≡ Err NoRoom
    by_test true e = refl
    by_test false e = cc

-- A segment, by what it needs.

segment-lacks : (a : Arrival) (n : Option Need) (h : HostView) (moment : Moment) (source : Addr) (new : HostView) → needs.IsNeededBy a n
    → MeetsSegment (arrival_by_route (is_routed h.interface source) a) h moment source (Err NoRoom) new → Lacks (lack_by_need h source n)
segment-lacks (Becomes next) n h moment source new needed is = absurd (refusing tt is.0)
segment-lacks (Opens next) n h moment source new needed is = rw needed (cond (is_routed h.interface source) Memory Route, refl)
segment-lacks NoRoomInTable n h moment source new needed is = ⊎_elim (λ backlog. rw backlog (Backlog, refl)) (λ table. rw table (Table, refl)) needed
segment-lacks (Answers head) n h moment source new needed is = rw needed (reply-lacks (is_routed h.interface source) h.interface is.0)

segment-refused : (a : Arrival) (n : Option Need) (h : HostView) (moment : Moment) (source : Addr) (answer : Result (Unit {0}) DropCause) (new : HostView) (what : Lack) → needs.IsNeededBy a n
    → MeetsSegment (arrival_by_route (is_routed h.interface source) a) h moment source answer new → lack_by_need h source n ≡ Some what → what ≢ Memory → answer ≡ Err NoRoom
segment-refused (Becomes next) n h moment source answer new what needed is found other = let none = sym (ap (λ (o : Option Need). lack_by_need h source o) needed) ∙ found in cc
segment-refused (Opens next) n h moment source answer new what needed is found other = by_route (is_routed h.interface source) is (sym (ap (λ (o : Option Need). lack_by_need h source o) needed) ∙ found)
  where
    by_route : (routed : Bool) → MeetsSegment (arrival_by_route routed (Opens next)) h moment source answer new → Some (cond routed Memory Route) ≡ Some what → answer ≡ Err NoRoom
    by_route true met memory = absurd (other (let e : Some Memory ≡ Some what = memory in cc))
    by_route false met route = met.0
segment-refused NoRoomInTable n h moment source answer new what needed is found other = is.0
segment-refused (Answers head) n h moment source answer new what needed is found other =
    let full : lack_of_answer h source ≡ Some what = sym (ap (λ (o : Option Need). lack_by_need h source o) needed) ∙ found in
    is.0 ∙ reply-refused (is_routed h.interface source) h.interface what full

-- A message, and a datagram.

message-lacks : (told : Told) (h : HostView) (moment : Moment) (c : Control) (new : HostView) → MeetsMessage told h moment c (Err NoRoom) new → Lacks (lack_by_message h c.source told)
message-lacks Asks h moment c new is = reply-lacks (is_routed h.interface c.source) h.interface is.0
message-lacks (Refuses quote) h moment c new is = absurd (refusing tt is.0)
message-lacks Nothing h moment c new is = absurd (refusing tt is.0)

message-refused : (told : Told) (h : HostView) (moment : Moment) (c : Control) (answer : Result (Unit {0}) DropCause) (new : HostView) (what : Lack) → MeetsMessage told h moment c answer new
    → lack_by_message h c.source told ≡ Some what → answer ≡ Err NoRoom
message-refused Asks h moment c answer new what is found = is.0 ∙ reply-refused (is_routed h.interface c.source) h.interface what found
message-refused (Refuses quote) h moment c answer new what is found = cc
message-refused Nothing h moment c answer new what is found = cc

user-lacks : (to : Reception) (h : HostView) (moment : Moment) (r : ReceivedDatagram) (new : HostView) → MeetsUserDatagram to h moment r (Err NoRoom) new → Lacks (lack_by_reception h r.carrier.source to)
user-lacks socket.Queued h moment r new is = absurd (refusing tt is.0)
user-lacks socket.NoRoom h moment r new is = (Queue, refl)
user-lacks socket.NoSocket h moment r new is = reply-lacks (is_routed h.interface r.carrier.source) h.interface is.0

user-refused : (to : Reception) (h : HostView) (moment : Moment) (r : ReceivedDatagram) (answer : Result (Unit {0}) DropCause) (new : HostView) (what : Lack) → MeetsUserDatagram to h moment r answer new
    → lack_by_reception h r.carrier.source to ≡ Some what → answer ≡ Err NoRoom
user-refused socket.Queued h moment r answer new what is found = cc
user-refused socket.NoRoom h moment r answer new what is found = is.0
user-refused socket.NoSocket h moment r answer new what is found = is.0 ∙ reply-refused (is_routed h.interface r.carrier.source) h.interface what found

-- A fragment, by its place.

fragment-lacks : (h : HostView) (moment : Moment) (d : Datagram) (new : HostView) → MeetsFragment (fragment_outcome moment d (pool_for h.sockets.manner.guards d h.pool)) (is_late_copy h moment d) h moment d (Err NoRoom) new → Lacks (lack_of h (Ok (UdpFragment d)))
fragment-lacks h moment d new is = by_place (place_for d (pool_for h.sockets.manner.guards d h.pool)) (is_late_copy h moment d) refl is
  where
    by_place : (o : Option ℕ) (late : Bool) → place_for d (pool_for h.sockets.manner.guards d h.pool) ≡ o
        → MeetsFragment (option_map (outcome_at moment d (pool_for h.sockets.manner.guards d h.pool)) o) late h moment d (Err NoRoom) new → Lacks (lack_of h (Ok (UdpFragment d)))
    by_place None late e met = (Reassembly, ap (λ (o : Option ℕ). cond (is_none o) (Some Reassembly) None) e)
    by_place (Some i) true e met = absurd (refusing tt met.0)
    by_place (Some i) false e met = absurd (refusing tt met.0)

fragment-refused : (h : HostView) (moment : Moment) (d : Datagram) (answer : Result (Unit {0}) DropCause) (new : HostView) (what : Lack) → MeetsFragment (fragment_outcome moment d (pool_for h.sockets.manner.guards d h.pool)) (is_late_copy h moment d) h moment d answer new
    → lack_of h (Ok (UdpFragment d)) ≡ Some what → answer ≡ Err NoRoom
fragment-refused h moment d answer new what is found = by_place (place_for d (pool_for h.sockets.manner.guards d h.pool)) refl is
  where
    by_place : (o : Option ℕ) → place_for d (pool_for h.sockets.manner.guards d h.pool) ≡ o
        → MeetsFragment (option_map (outcome_at moment d (pool_for h.sockets.manner.guards d h.pool)) o) (is_late_copy h moment d) h moment d answer new → answer ≡ Err NoRoom
    by_place None e met = met.0
    by_place (Some i) e met = let none = sym (ap (λ (o : Option ℕ). cond (is_none o) (Some Reassembly) None) e) ∙ found in cc

-- A frame.

pub reason : (h : HostView) (now : Moment) (isn : ℕ) (octets : List ℕ) (new : HostView) → IsDelivered h now isn octets (Err NoRoom) new → Lacks (lack h octets)
reason h now isn octets new delivered = by_meaning (heard_by h octets) refl delivered
  where
    moment : Moment
    moment = later_moment h.sockets now

    by_meaning : (m : Result Meaning DropCause) → heard_by h octets ≡ m → MeetsHeard m h moment isn (Err NoRoom) new → Lacks (lack_of h m)
    by_meaning (Ok (Arp packet)) heard is = reply-lacks (is_request_for h.interface.addr packet) h.interface is.0
    by_meaning (Ok (Tcp r)) heard is =
        segment-lacks (arrival h.sockets moment isn r.source r.segment) (needs.need h.sockets r.source r.segment) h moment r.source new (need_foreseen h.sockets moment isn r.source r.segment) is
    by_meaning (Ok (Icmp c)) heard is = message-lacks (told_by c.message) h moment c new is
    by_meaning (Ok (Udp r)) heard is = user-lacks (reception h.sockets r.datagram) h moment r new is
    by_meaning (Ok (UdpFragment d)) heard is = fragment-lacks h moment d new is
    by_meaning (Ok (Other d)) heard is = reply-lacks (is_routed h.interface d.source) h.interface is.0
    by_meaning (Err cause) heard is = absurd (want_unheard h.interface.mac h.interface.addr octets (drops_so h.sockets.manner.guards h.interface (frame.heard h.interface.mac h.interface.addr octets) NoRoom (λ other. cc) (heard ∙ ap heard_so (same_cause cause is.0))))

pub always_dropped : (h : HostView) (now : Moment) (isn : ℕ) (octets : List ℕ) (answer : Result (Unit {0}) DropCause) (new : HostView) (what : Lack) → IsDelivered h now isn octets answer new
    → lack h octets ≡ Some what → what ≢ Memory → answer ≡ Err NoRoom
always_dropped h now isn octets answer new what delivered found other = by_meaning (heard_by h octets) delivered found
  where
    moment : Moment
    moment = later_moment h.sockets now

    by_meaning : (m : Result Meaning DropCause) → MeetsHeard m h moment isn answer new → lack_of h m ≡ Some what → answer ≡ Err NoRoom
    by_meaning (Ok (Arp packet)) is found = is.0 ∙ reply-refused (is_request_for h.interface.addr packet) h.interface what found
    by_meaning (Ok (Tcp r)) is found =
        segment-refused (arrival h.sockets moment isn r.source r.segment) (needs.need h.sockets r.source r.segment) h moment r.source answer new what (need_foreseen h.sockets moment isn r.source r.segment) is found other
    by_meaning (Ok (Icmp c)) is found = message-refused (told_by c.message) h moment c answer new what is found
    by_meaning (Ok (Udp r)) is found = user-refused (reception h.sockets r.datagram) h moment r answer new what is found
    by_meaning (Ok (UdpFragment d)) is found = fragment-refused h moment d answer new what is found
    by_meaning (Ok (Other d)) is found = is.0 ∙ reply-refused (is_routed h.interface d.source) h.interface what found
    by_meaning (Err cause) is found = cc

-- what is learnt of a sender leaves the replies
learnt-lacks : (h : HostView) (moment : Moment) (octets : List ℕ) (new : HostView) → IsLearntInVain h moment octets new → lack new octets ≡ lack h octets
learnt-lacks h moment octets new vain = rw vain.learns (rw vain.heard refl)

unmoved : (h : HostView) (octets : List ℕ) (moment : Moment) (new : HostView) → (new ≡ h) ⊎ IsLearntInVain h moment octets new → lack new octets ≡ lack h octets
unmoved h octets moment new (inl same) = ap (λ (g : HostView). lack g octets) same
unmoved h octets moment new (inr vain) = learnt-lacks h moment octets new vain

pub still_lacks : (h : HostView) (now : Moment) (isn : ℕ) (octets : List ℕ) (new : HostView) → IsDelivered h now isn octets (Err NoRoom) new → lack new octets ≡ lack h octets
still_lacks h now isn octets new delivered = unmoved h octets (later_moment h.sockets now) new (learnt-alone h now isn octets NoRoom new delivered)
