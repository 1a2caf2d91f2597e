-- A frame that is delivered is met as what it was sent as, and dropped for nothing but what its addresses and the room there say.
use Rattle.std.proofs.Common.{◌≡◌, ◌≢◌, ◌⊎◌, inl, inr, ℕ, ◌&&◌, Bool, true, false, cond, List, Option, Some, None, Result, Ok, Err, refl, sym, ◌∙◌, ap, subst, not, if◌then◌else◌}
use Rattle.std.specs.List.{slice_get}
use Rattle.ether.specs.declared.mac.Mac.{Mac}
use Rattle.ipv4.specs.declared.addr.Addr.{Addr}
use Rattle.clock.specs.declared.moment.Moment.{Moment}
use Rattle.tcp_segment.specs.declared.seq.Seq.{Seq}
use Rattle.frames.specs.declared.drop.DropCause.{DropCause}
use Rattle.frames.specs.declared.drop.DropCause.TheVariants.{OtherMac, OtherAddress, NoRoom}
use Rattle.frames.specs.declared.meaning.Control.{Control}
use Rattle.frames.specs.declared.meaning.Meaning.{Meaning}
use Rattle.frames.specs.declared.meaning.Meaning.TheVariants.{Arp, Tcp, Icmp, Udp, Other, UdpFragment}
use Rattle.frames.specs.Meaning.{heard, may_send}
use Rattle.interface.specs.declared.reply.QueueFault.{QueueFault}
use Rattle.interface.specs.Replies.{answer_result, heard_answer}
use Rattle.reassembly.specs.Reassembly.{Outcome}
use Rattle.sockets.specs.declared.datagrams.Reception.{Reception}
use Rattle.sockets.specs.declared.datagrams.Reception.TheVariants as socket
use Rattle.sockets.specs.Arrival.{Arrival, Becomes, Opens, NoRoom as NoRoomInTable, Answers}
use Rattle.sockets.specs.Datagrams.{reception}
use Rattle.sockets.specs.SocketsView.{later_moment}
use Rattle.host.specs.Arrival.{MeetsFragment, MeetsHeard, MeetsMessage, MeetsSegment, fragment_outcome, is_late_copy, pool_for, queue_answer, segment_arrival, user_datagram_answer}
use Rattle.host.specs.Heard.{heard_by, guarded_by, is_barred}
use Rattle.interface.specs.InterfaceView.{InterfaceView}
use Rattle.tcp_halves.proofs.Choices.{and_false}
use Rattle.host.specs.HostView.{HostView}
use Rattle.host.specs.Messages.{Told, Asks, Refuses, Nothing, told_by}
use Rattle.sides.specs.declared.side.Side.{Side}
use Rattle.sides.specs.Sides.{other_side}
use Rattle.wire_sim.specs.declared.event.Answer.{Answer}
use Rattle.wire_sim.specs.declared.event.Answer.TheVariants as reply
use Rattle.wire_sim.specs.declared.event.Event.TheVariants as event
use Rattle.wire_sim.specs.declared.world.bag.Frame.{Frame}
use Rattle.wire_sim.specs.Passage.{IsAnswered, IsMet, is_let_in, MeetsMeaning, addr_at, mac_at}
use Rattle.wire_sim.specs.Sent.{Sent, heard_as, is_sent_for, is_sent_to}
use Rattle.wire_sim.specs.Runs.{IsStep, IsReached}
use Rattle.wire_sim.specs.Steps.{DeliversFrame, MeetsFrame}
use Rattle.wire_sim.specs.WorldView.{WorldView, host_of, clock_of}
use Rattle.wire_sim.proofs.passage.FramesPass.{may-send}

-- What says something is dropped for want of room alone.

queue-room : (r : Result (Unit {0}) QueueFault) (cause : DropCause) → Err cause ≡ queue_answer r → cause ≡ NoRoom
queue-room (Ok done) cause is = cc
queue-room (Err fault) cause is = cc

segment-room : (a : Arrival) (h : HostView) (moment : Moment) (source : Addr) (cause : DropCause) (new : HostView) → MeetsSegment a h moment source (Err cause) new → cause ≡ NoRoom
segment-room (Becomes next) h moment source cause new met = cc
segment-room (Opens next) h moment source cause new met = met.0
segment-room NoRoomInTable h moment source cause new met = let is = met.0 in cc
segment-room (Answers head) h moment source cause new met = queue-room (answer_result h.interface source) cause met.0

message-room : (told : Told) (h : HostView) (moment : Moment) (c : Control) (cause : DropCause) (new : HostView) → MeetsMessage told h moment c (Err cause) new → cause ≡ NoRoom
message-room Asks h moment c cause new met = queue-room (answer_result h.interface c.source) cause met.0
message-room (Refuses quote) h moment c cause new met = let is = met.0 in cc
message-room Nothing h moment c cause new met = let is = met.0 in cc

user-room : (to : Reception) (h : HostView) (source : Addr) (cause : DropCause) → Err cause ≡ user_datagram_answer to h source → cause ≡ NoRoom
user-room socket.Queued h source cause is = cc
user-room socket.NoRoom h source cause is = cc
user-room socket.NoSocket h source cause is = queue-room (answer_result h.interface source) cause is

said-room : (says : Meaning) (h : HostView) (moment : Moment) (isn : ℕ) (cause : DropCause) (new : HostView) → MeetsHeard (Ok says) h moment isn (Err cause) new → cause ≡ NoRoom
said-room (Arp packet) h moment isn cause new met = queue-room (heard_answer h.interface packet) cause met.0
said-room (Tcp r) h moment isn cause new met = segment-room (segment_arrival h moment isn r.source r.segment) h moment r.source cause new met
said-room (Icmp c) h moment isn cause new met = message-room (told_by c.message) h moment c cause new met
said-room (Udp r) h moment isn cause new met = user-room (reception h.sockets r.datagram) h r.carrier.source cause met.0
said-room (Other d) h moment isn cause new met = queue-room (answer_result h.interface d.source) cause met.0
said-room (UdpFragment d) h moment isn cause new met = by_outcome (fragment_outcome moment d (pool_for h.sockets.manner.guards d h.pool)) (is_late_copy h moment d) met
  where
    by_outcome : (o : Option Outcome) (late : Bool) → MeetsFragment o late h moment d (Err cause) new → cause ≡ NoRoom
    by_outcome None late m = let is = m.0 in cc
    by_outcome (Some x) true m = let is = m.0 in cc
    by_outcome (Some x) false m = let is = m.0 in cc

-- What it is answered.

dropped-so : (cause : DropCause) (h : HostView) (now : Moment) (isn : ℕ) (answer : Answer) (new : HostView) → MeetsMeaning (Err cause) h now isn answer new → answer ≡ reply.Dropped cause
dropped-so cause h now isn reply.Taken new met = let is = met.0 in cc
dropped-so cause h now isn (reply.Dropped own) new met = let is = met.0 in cc
dropped-so cause h now isn _ new met = absurd met

taken-so : (says : Meaning) (h : HostView) (now : Moment) (isn : ℕ) (answer : Answer) (new : HostView) → MeetsMeaning (Ok says) h now isn answer new → (answer ≡ reply.Taken) ⊎ (answer ≡ reply.Dropped NoRoom)
taken-so says h now isn reply.Taken new met = inl refl
taken-so says h now isn (reply.Dropped cause) new met = inr (ap (λ (c : DropCause). let a : Answer = reply.Dropped c in a) (said-room says h (later_moment h.sockets now) isn cause new met))
taken-so says h now isn _ new met = absurd met

answered : (is_ours is_for_us : Bool) (says : Meaning) (h : HostView) (now : Moment) (isn : ℕ) (answer : Answer) (new : HostView)
    → MeetsMeaning (cond is_ours (cond (is_for_us && true) (Ok says) (Err OtherAddress)) (Err OtherMac)) h now isn answer new → IsAnswered is_ours is_for_us answer
answered false for says h now isn answer new met =
    let is : answer ≡ reply.Dropped OtherMac = dropped-so OtherMac h now isn answer new met in
    record { mac = (λ e. refl, λ e. is); address = (λ e. let bad : reply.Dropped OtherMac ≡ reply.Dropped OtherAddress = sym is ∙ e in cc, λ p. let bad = p.0 in cc); others = λ mac address. absurd (mac is) }
answered true false says h now isn answer new met =
    let is : answer ≡ reply.Dropped OtherAddress = dropped-so OtherAddress h now isn answer new met in
    record { mac = (λ e. let bad : reply.Dropped OtherAddress ≡ reply.Dropped OtherMac = sym is ∙ e in cc, λ e. cc); address = (λ e. (refl, refl), λ p. is); others = λ mac address. absurd (address is) }
answered true true says h now isn answer new met =
    let is = taken-so says h now isn answer new met in
    record { mac = (λ e. absurd (neither OtherMac is e (λ same. cc)), λ e. cc); address = (λ e. absurd (neither OtherAddress is e (λ same. cc)), λ p. let bad = p.1 in cc); others = λ mac address. is }
  where
    neither : (cause : DropCause) → (answer ≡ reply.Taken) ⊎ (answer ≡ reply.Dropped NoRoom) → answer ≡ reply.Dropped cause → cause ≢ NoRoom → ⊥
    neither cause (inl taken) e other = let bad : reply.Taken ≡ reply.Dropped cause = sym taken ∙ e in cc
    neither cause (inr dropped) e other = let bad : reply.Dropped NoRoom ≡ reply.Dropped cause = sym dropped ∙ e in other (let same : cause ≡ NoRoom = cc in same)

-- With guards it is as though what they bar were for another address.
guarded-so : (guards is_ours is_for_us : Bool) (i : InterfaceView) (says : Meaning)
    → guarded_by guards i (cond is_ours (cond (is_for_us && true) (Ok says) (Err OtherAddress)) (Err OtherMac))
    ≡ cond is_ours (cond ((is_for_us && not (guards && is_barred i (Ok says))) && true) (Ok says) (Err OtherAddress)) (Err OtherMac)
guarded-so guards false for i says = ap (λ b. if b then Err OtherAddress else Err OtherMac) (and_false guards)
guarded-so guards true false i says = ap (λ b. if b then Err OtherAddress else Err OtherAddress) (and_false guards)
guarded-so guards true true i says = by_test (guards && is_barred i (Ok says))
  where
    by_test : (b : Bool) → (if b then Err OtherAddress else Ok says) ≡ cond (not b && true) (Ok says) (Err OtherAddress)
    by_test true = refl
    by_test false = refl

-- What a host hears it meets.
frame-met : (h : HostView) (now : Moment) (isn : ℕ) (octets : List ℕ) (answer : Answer) (new : HostView) → MeetsFrame h now isn octets answer new → MeetsMeaning (heard_by h octets) h now isn answer new
frame-met h now isn octets reply.Taken new met = met
frame-met h now isn octets (reply.Dropped cause) new met = met
frame-met h now isn octets _ new met = absurd met

delivered : (w v : WorldView) (side : Side) (isn : ℕ) (place : ℕ) (answer : Answer) (f : Frame) (o : Option Frame) → o ≡ Some f → DeliversFrame side isn place answer w.network v.network o
    → MeetsFrame (host_of w.network side) (clock_of w.network side) isn f.octets.items answer (host_of v.network side)
delivered w v side isn place answer f None there d = cc
delivered w v side isn place answer f (Some g) there d =
    let same : g ≡ f = cc in
    subst (λ (x : Frame). MeetsFrame (host_of w.network side) (clock_of w.network side) isn x.octets.items answer (host_of v.network side)) same d.0

pub is-met : (limit : ℕ) (w v : WorldView) (run : IsReached limit w) (side : Side) (index : ℕ) (isn : Seq) (f : Frame) (answer : Answer) (what : Sent) → slice_get w.network.frames index ≡ Some f → (step : IsStep (event.Deliver side index isn) answer w v)
    → what.from ≡ addr_at w.network (other_side side) → ((mac : Mac) (ours : Addr) → heard mac ours f.octets.items ≡ heard_as what mac ours) → IsMet w v side isn.0 what answer
is-met limit w v run side index isn f answer what there step from said = record {
  from = from;
  met = met;
  answered = answered ours (for && is_let_in h what.says) what.says h now isn.0 answer new
      (subst (λ (m : Result Meaning DropCause). MeetsMeaning m h now isn.0 answer new)
      (ap (λ (b : Bool). guarded_by guards h.interface (cond ours (cond (for && b) (Ok what.says) (Err OtherAddress)) (Err OtherMac))) may ∙ guarded-so guards ours for h.interface what.says) met);
}
  where
    h : HostView
    h = host_of w.network side

    new : HostView
    new = host_of v.network side

    now : Moment
    now = clock_of w.network side

    ours : Bool
    ours = is_sent_to what (mac_at w.network side)

    for : Bool
    for = is_sent_for what.to (addr_at w.network side)

    guards : Bool
    guards = h.sockets.manner.guards

    met : MeetsMeaning (guarded_by guards h.interface (heard_as what (mac_at w.network side) (addr_at w.network side))) h now isn.0 answer new
    met =
        subst (λ (m : Result Meaning DropCause). MeetsMeaning (guarded_by guards h.interface m) h now isn.0 answer new) (said (mac_at w.network side) (addr_at w.network side))
        (frame-met h now isn.0 f.octets.items answer new (delivered w v side isn.0 _ answer f (slice_get w.network.frames index) there step.network))

    may : may_send (addr_at w.network side) what.from ≡ true
    may = ap (may_send (addr_at w.network side)) from ∙ may-send limit w v run (event.Deliver side index isn) answer step side
