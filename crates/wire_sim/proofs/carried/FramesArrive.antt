-- A frame that arrives at a host is a move of the one pairing to which its segment belongs, or of which it tells an error, or changes no table.
use Rattle.std.proofs.Common.{◌≡◌, ℕ, ◌+◌, ◌<◌, ◌^◌, ◌==◌, not, inl, inr, arith, Bool, true, false, cond, if◌then◌else◌, List, length, Option, Some, None, option_map, Result, Ok, Err, refl, sym, ◌∙◌, ap, subst}
use Rattle.std.specs.List.{find}
use Rattle.std.proofs.lemmas.Bool.{and_parts, eqb-true}
use Rattle.clock.specs.declared.moment.Moment.{Moment}
use Rattle.ipv4.specs.declared.addr.Addr.{Addr}
use Rattle.ipv4.specs.declared.addr.Endpoint.{Endpoint}
use Rattle.ipv4.specs.declared.addr.Pair.{Pair}
use Rattle.ipv4.specs.Addresses.{pair_of, same_addr, is_unicast}
use Rattle.ipv4.proofs.Pairs.{pair_of-swapped}
use Rattle.tcp_segment.specs.Segment.{Segment}
use Rattle.frames.specs.declared.drop.DropCause.{DropCause}
use Rattle.frames.specs.declared.meaning.Meaning.{Meaning}
use Rattle.frames.specs.declared.meaning.Meaning.TheVariants.{Arp, Tcp, Icmp, Udp, Other, UdpFragment}
use Rattle.frames.specs.declared.meaning.Control.{Control}
use Rattle.frames.specs.declared.meaning.ReceivedSegment.{ReceivedSegment}
use Rattle.frames.specs.Meaning.{heard, may_send}
use Rattle.frames.proofs.Hearers.{from_others}
use Rattle.interface.specs.Ways.{is_routed}
use Rattle.sockets.specs.declared.entry.SocketId.{SocketId}
use Rattle.sockets.specs.declared.entry.Entry.{Entry}
use Rattle.sockets.specs.declared.taken.Taken.TheVariants as taken
use Rattle.sockets.specs.Arrival.{Arrival, Becomes, Opens as OpensTable, NoRoom, Answers, local_end, peer_end, arrival, pair_opened, Meets as MeetsTable}
use Rattle.sockets.specs.SocketsView.{SocketsView, later_moment, holder_id}
use Rattle.sockets.specs.Unreachable.{after_unreachable}
use Rattle.reassembly.specs.Fragments.{quote_of}
use Rattle.udp.specs.Datagram.{UserDatagram}
use Rattle.sockets.specs.Datagrams.{reception, after_reception}
use Rattle.host.specs.Arrival.{fragment_outcome, is_late_copy, pool_for, MeetsSegment, arrival_by_route, segment_arrival, MeetsMessage, MeetsHeard, IsDelivered, foreseen_of, foreseen}
use Rattle.host.specs.Heard.{heard_by}
use Rattle.host.proofs.Guarded.{meant_by}
use Rattle.host.specs.HostView.{HostView}
use Rattle.host.specs.Messages.{Told, Asks, Refuses, Nothing, told_by}
use Rattle.host.specs.Sound.{IsSoundHost}
use Rattle.stream_law.specs.Channel.{IsAmong}
use Rattle.stream_law.specs.Pairing.{IsTimely}
use Rattle.wire_sim.specs.declared.event.Answer.{Answer}
use Rattle.wire_sim.specs.declared.event.Answer.TheVariants as reply
use Rattle.wire_sim.specs.declared.event.Opening.{Opening}
use Rattle.sides.specs.declared.side.Side.{Side}
use Rattle.sides.specs.declared.side.Side.TheVariants.{A, B}
use Rattle.wire_sim.specs.declared.event.Happening.{Happening}
use Rattle.wire_sim.specs.declared.event.Unfair.TheVariants.{OtherEpoch, Stale}
use Rattle.wire_sim.specs.declared.world.bag.Frame.{Frame}
use Rattle.wire_sim.specs.declared.world.bag.Note.{Note}
use Rattle.wire_sim.specs.Fairness.{is_stale, late_note, second_by_frame}
use Rattle.wire_sim.specs.Openings.{epoch_of, held_anew, opened_by_frame}
use Rattle.wire_sim.specs.Steps.{MeetsFrame}
use Rattle.wire_sim.specs.Tallies.{is_opening_of}
use Rattle.wire_sim.specs.WorldView.{NetworkView, written_at}
use Rattle.wire_sim.proofs.tables.CallsOnTable.{not_true}
use Rattle.wire_sim.proofs.openings.HeldIsOpened.{unheld-told, unheld-received}
use Rattle.wire_sim.proofs.tables.PairOfPorts.{same_addr-other, unheld}
use Rattle.wire_sim.proofs.pairing.DatagramsMoveNothing.{projects-received}
use Rattle.wire_sim.proofs.tables.DatagramArrived.{UserArrived, Kept, Came, user-arrived, fragment-arrived}
use Rattle.wire_sim.proofs.tables.SegmentArrived.{Arrived, Ignored, segment-arrived}
use Rattle.wire_sim.proofs.tables.TableById.{end_at}
use Rattle.wire_sim.proofs.pairing.ArrivalIsMove.{Opens, OpensNone, held-still, MayCome, projects-arrived}
use Rattle.wire_sim.proofs.pairing.EmissionIsMove.{written-end}
use Rattle.wire_sim.proofs.pairing.EndMoves.{pairing}
use Rattle.wire_sim.proofs.pairing.ErrorIsMove.{projects-told}
use Rattle.wire_sim.proofs.pairing.OpeningIsMove.{not-second}
use Rattle.wire_sim.proofs.pairing.WorldAsPairings.{told, Sent, Bag, Projects}
use Rattle.wire_sim.proofs.told.TraceAndOneMore.{timely}
use Rattle.wire_sim.proofs.carried.FramesCarry.{IsTallied, at_side, IsSent, IsOf, Carries}

-- What a segment that the host heard makes of its table.

-- what is foreseen of it
abbrev pub segment_foreseen : HostView → Addr → Segment → Option Pair
segment_foreseen h source s = if is_routed h.interface source then pair_opened h.sockets source s else None

pub segment-taken : (h : HostView) (moment : Moment) (isn : ℕ) (source : Addr) (s : Segment) (answer : Result (Unit {0}) DropCause) (new : HostView) → MeetsSegment (segment_arrival h moment isn source s) h moment source answer new
    → Arrived h.sockets moment isn (local_end h.sockets s) (peer_end source s) s (segment_foreseen h source s) new.sockets
segment-taken h moment isn source s answer new = by_arrival (is_routed h.interface source) (arrival h.sockets moment isn source s) refl
  where
    Shown : Bool → Type 0
    Shown routed = Arrived h.sockets moment isn (local_end h.sockets s) (peer_end source s) s (if routed then pair_opened h.sockets source s else None) new.sockets

    -- where the table says that, its step is this
    taken-so : (opened : Option Pair) → ((next : SocketsView) → arrival h.sockets moment isn source s ≡ OpensTable next → opened ≡ pair_opened h.sockets source s) → (a : Arrival) → arrival h.sockets moment isn source s ≡ a
        → MeetsTable a h.sockets taken.Done new.sockets → Arrived h.sockets moment isn (local_end h.sockets s) (peer_end source s) s opened new.sockets
    taken-so opened seen a is meets = segment-arrived h.sockets moment isn source s opened taken.Done new.sockets seen (subst (λ x. MeetsTable x h.sockets taken.Done new.sockets) (sym is) meets)

    by_answer : (next : SocketsView) → arrival h.sockets moment isn source s ≡ OpensTable next → (r : Result (Unit {0}) DropCause) → MeetsSegment (OpensTable next) h moment source r new → Shown true
    by_answer next is (Ok v) meets = taken-so (pair_opened h.sockets source s) (λ n o. refl) (OpensTable next) is (inl (refl, ap (λ (w : HostView). w.sockets) meets))
    by_answer next is (Err cause) meets = Ignored (ap (λ (w : HostView). w.sockets) meets.1)

    by_arrival : (routed : Bool) (a : Arrival) → arrival h.sockets moment isn source s ≡ a → MeetsSegment (arrival_by_route routed a) h moment source answer new → Shown routed
    by_arrival true (OpensTable next) is meets = by_answer next is answer meets
    by_arrival false (OpensTable next) is meets = Ignored (ap (λ (w : HostView). w.sockets) meets.1)
    by_arrival routed (Becomes next) is meets = taken-so (if routed then pair_opened h.sockets source s else None) (λ n o. let bad : Becomes next ≡ OpensTable n = sym is ∙ o in cc) (Becomes next) is (refl, ap (λ (w : HostView). w.sockets) meets.1)
    by_arrival routed NoRoom is meets = Ignored (ap (λ (w : HostView). w.sockets) meets.1)
    by_arrival routed (Answers head) is meets = Ignored (ap (λ (w : HostView). w.sockets) meets.1)

-- What the frame's note tells of the segment.

-- what is written at a side since a frame went out
side_timely : (n : NetworkView) (note : Note) (s : Side) → is_stale n note ≡ false → written_at n s note.pair note.epoch < at_side s note + n.limit
side_timely n note A fresh = (timely n note fresh).0
side_timely n note B fresh = (timely n note fresh).1

-- a frame that may be delivered came in time
came-in-time : (limit : ℕ) (hs ts : Side) (own other : SocketsView) (n : NetworkView) (bag : Bag) (trace : List Happening) (note : Note) (s : Segment) → n.limit ≡ limit → IsTallied n trace → is_stale n note ≡ false → (x : IsSent ts hs bag.arrived note s)
    → IsTimely limit (pairing (end_at hs n.openings own.entries (told hs trace) note.pair note.epoch) (end_at ts n.openings other.entries (told ts trace) note.pair note.epoch) (bag.out note.pair note.epoch) (bag.arrived note.pair note.epoch)) x.emission
came-in-time limit hs ts own other n bag trace note s is_limit tallied fresh x =
    let own_time = side_timely n note hs fresh in
    let other_time = side_timely n note ts fresh in
    let own_count : written_at n hs note.pair note.epoch ≡ length (let e = end_at hs n.openings own.entries (told hs trace) note.pair note.epoch in e.written) =
    tallied hs note.pair note.epoch ∙ ap length (written-end hs trace n.openings own.entries note.pair note.epoch) in
    let other_count : written_at n ts note.pair note.epoch ≡ length (let e = end_at ts n.openings other.entries (told ts trace) note.pair note.epoch in e.written) =
    tallied ts note.pair note.epoch ∙ ap length (written-end ts trace n.openings other.entries note.pair note.epoch) in
    let at_own = x.own_at in
    let at_other = x.other_at in
    record { own = omega (arith, own_time, own_count, at_other, is_limit); other = omega (arith, other_time, other_count, at_own, is_limit) }

-- so it may come
may-come : (limit : ℕ) (hs ts : Side) (own other : SocketsView) (n : NetworkView) (bag : Bag) (trace : List Happening) (dst : Addr) (o : Option Note) (r : ReceivedSegment) → n.limit ≡ limit → IsTallied n trace → (k : IsOf dst ts hs bag.arrived o r)
    → is_stale n k.note ≡ false → epoch_of n.openings k.note.pair ≡ k.note.epoch → MayCome limit hs ts own other bag n.openings trace k.note.pair r.segment
may-come limit hs ts own other n bag trace dst o r is_limit tallied k fresh present = elim k.kind [
  | inl reset ↦ inl reset
  | inr x ↦ inr (record {
    emission = x.emission;
    among = subst (λ i. IsAmong x.emission (bag.arrived k.note.pair i)) (sym present) x.among;
    segment = x.segment;
    timely = subst (λ i. IsTimely limit (pairing (end_at hs n.openings own.entries (told hs trace) k.note.pair i) (end_at ts n.openings other.entries (told ts trace) k.note.pair i) (bag.out k.note.pair i) (bag.arrived k.note.pair i)) x.emission) (sym present)
        (came-in-time limit hs ts own other n bag trace k.note r.segment is_limit tallied fresh x);
  })
]

-- a note that is not late is of the pair's epoch, and fresh
pub not-late : (n : NetworkView) (note : Note) → late_note n (written_at n) (Some note) ≡ None → (epoch_of n.openings note.pair ≡ note.epoch) × (is_stale n note ≡ false)
not-late n note = by_epoch (epoch_of n.openings note.pair == note.epoch) refl (is_stale n note) refl
  where
    by_epoch : (same : Bool) → (epoch_of n.openings note.pair == note.epoch) ≡ same → (stale : Bool) → is_stale n note ≡ stale → cond (not same) (Some OtherEpoch) (cond stale (Some Stale) None) ≡ None
        → (epoch_of n.openings note.pair ≡ note.epoch) × (is_stale n note ≡ false)
    by_epoch false is stale late e = cc
    by_epoch true is true late e = cc
    by_epoch true is false late e = (eqb-true (epoch_of n.openings note.pair) note.epoch is, late)

-- A frame.

-- the opening that is noted of it
abbrev pub noted_opening : List Opening → Side → ℕ → Option Note → SocketsView → SocketsView → Option Opening
noted_opening openings side place None old new = None
noted_opening openings side place (Some note) old new = opened_by_frame openings side place note.pair old new

-- where the table is as it was, none is
pub noted-none : (openings : List Opening) (side : Side) (place : ℕ) (o : Option Note) (old new : SocketsView) → new ≡ old → noted_opening openings side place o old new ≡ None
noted-none openings side place None old new same = refl
noted-none openings side place (Some note) old new same = held-still openings side place note.pair (holder_id old note.pair) (holder_id new note.pair) (ap (λ w. holder_id w note.pair) same)

-- nor where it comes to hold no pair
noted-unheld : (openings : List Opening) (side : Side) (place : ℕ) (o : Option Note) (old new : SocketsView) → ((pair : Pair) → holder_id old pair ≡ None → holder_id new pair ≡ None) → noted_opening openings side place o old new ≡ None
noted-unheld openings side place None old new keeps = refl
noted-unheld openings side place (Some note) old new keeps = by_holder (holder_id old note.pair) refl
  where
    by_holder : (before : Option SocketId) → holder_id old note.pair ≡ before → held_anew openings side place note.pair before (holder_id new note.pair) ≡ None
    by_holder None free = ap (held_anew openings side place note.pair None) (keeps note.pair free)
    by_holder (Some held) free = refl

-- an error that is told makes the table hold none
unheld-refused : (own : SocketsView) (local peer : Endpoint) (number : ℕ) (pair : Pair) → holder_id own pair ≡ None → holder_id (after_unreachable own local peer number) pair ≡ None
unheld-refused own local peer number pair free = ap (option_map (λ (e : Entry). e.id)) (unheld-told own local peer number pair (unheld own pair free))

-- nor does a datagram that comes
unheld-received_from : (own : SocketsView) (source : Addr) (d : UserDatagram) (pair : Pair) → holder_id own pair ≡ None → holder_id (after_reception own source d) pair ≡ None
unheld-received_from own source d pair free = ap (option_map (λ (e : Entry). e.id)) (unheld-received own source d pair (unheld own pair free))

-- a segment comes from another address
from-another : (own : Addr) (source : Addr) → may_send own source ≡ true → same_addr own source ≡ false
from-another own source may = same_addr-other source own (not_true (same_addr source own) (and_parts (is_unicast source) (not (same_addr source own)) may).1)

-- the pair of what is heard, at our end first
named-pair : (from to : Side) (out : Sent) (own : SocketsView) (a : Addr) (o : Option Note) (r : ReceivedSegment) → own.addr ≡ a → (k : IsOf a from to out o r) → k.note.pair ≡ pair_of (local_end own r.segment) (peer_end r.source r.segment)
named-pair from to out own a o r at k =
    let s = r.segment in
    k.pair ∙ (pair_of-swapped (record { addr = r.source; port = s.source }) (record { addr = a; port = s.destination }) ∙ ap (λ x. pair_of (record { addr = x; port = s.destination }) (peer_end r.source s)) (sym at))

-- What a frame that was delivered is to the host's table: nothing, a segment that arrives, an error that tells of one that went out, or a datagram
-- for a UDP socket.
pub data IsToTable (h h' : HostView) (moment : Moment) (isn : ℕ) (o : Option Note) : Type 0 where
  Aside : h'.sockets ≡ h.sockets → IsToTable h h' moment isn o
  Brings : (r : ReceivedSegment) (note : Note) → o ≡ Some note → note.pair ≡ pair_of (local_end h.sockets r.segment) (peer_end r.source r.segment)
      → Arrived h.sockets moment isn (local_end h.sockets r.segment) (peer_end r.source r.segment) r.segment (segment_foreseen h r.source r.segment) h'.sockets → IsToTable h h' moment isn o
  Tells : (local peer : Endpoint) (number : ℕ) → h'.sockets ≡ after_unreachable h.sockets local peer number → IsToTable h h' moment isn o
  Receives : (source : Addr) (d : UserDatagram) → h'.sockets ≡ after_reception h.sockets source d → IsToTable h h' moment isn o

heard-to_table : (from to : Side) (out : Sent) (a : Addr) (h h' : HostView) (clock : Moment) (isn : ℕ) (f : Frame) (answer : Result (Unit {0}) DropCause) → h.interface.addr ≡ h.sockets.addr → h.sockets.addr ≡ a → Carries a from to out f
    → IsDelivered h clock isn f.octets.items answer h' → IsToTable h h' (later_moment h.sockets clock) isn f.note
heard-to_table from to out a h h' clock isn f answer own at carries = by_meaning (heard_by h f.octets.items) refl
  where
    moment : Moment
    moment = later_moment h.sockets clock

    by_told : (t : Told) (c : Control) → MeetsMessage t h moment c answer h' → IsToTable h h' moment isn f.note
    by_told Asks c meets = Aside (ap (λ (w : HostView). w.sockets) meets.1)
    by_told (Refuses quote) c meets = Tells quote.source quote.destination quote.number (ap (λ (w : HostView). w.sockets) meets.1)
    by_told Nothing c meets = Aside (ap (λ (w : HostView). w.sockets) meets.1)

    by_user : UserArrived h.sockets h'.sockets → IsToTable h h' moment isn f.note
    by_user (Kept same) = Aside same
    by_user (Came source d same) = Receives source d same

    by_meaning : (m : Result Meaning DropCause) → heard_by h f.octets.items ≡ m → MeetsHeard m h moment isn answer h' → IsToTable h h' moment isn f.note
    by_meaning (Ok (Arp packet)) is meets = Aside (ap (λ (w : HostView). w.sockets) meets.1)
    by_meaning (Ok (Tcp r)) is meets =
        let k = carries h.interface.mac r (subst (λ x. heard h.interface.mac x f.octets.items ≡ Ok (Tcp r)) (own ∙ at) (meant_by h f.octets.items (Tcp r) is)) in
        Brings r k.note k.noted (named-pair from to out h.sockets a f.note r at k) (segment-taken h moment isn r.source r.segment answer h' meets)
    by_meaning (Ok (Icmp c)) is meets = by_told (told_by c.message) c meets
    by_meaning (Ok (Other d)) is meets = Aside (ap (λ (w : HostView). w.sockets) meets.1)
    by_meaning (Ok (Udp r)) is meets = by_user (user-arrived (reception h.sockets r.datagram) h h' moment r.carrier.source r.datagram (quote_of r.carrier) meets.1)
    by_meaning (Ok (UdpFragment d)) is meets = by_user (fragment-arrived (fragment_outcome moment d (pool_for h.sockets.manner.guards d h.pool)) (is_late_copy h moment d) h h' moment d answer meets)
    by_meaning (Err cause) is meets = Aside (ap (λ (w : HostView). w.sockets) meets.1)

pub frame-to_table : (from to : Side) (out : Sent) (a : Addr) (h h' : HostView) (clock : Moment) (isn : ℕ) (f : Frame) (answer : Answer) → h.interface.addr ≡ h.sockets.addr → h.sockets.addr ≡ a → Carries a from to out f
    → MeetsFrame h clock isn f.octets.items answer h' → IsToTable h h' (later_moment h.sockets clock) isn f.note
frame-to_table from to out a h h' clock isn f reply.Taken own at carries meets = heard-to_table from to out a h h' clock isn f (Ok tt) own at carries meets
frame-to_table from to out a h h' clock isn f (reply.Dropped cause) own at carries meets = heard-to_table from to out a h h' clock isn f (Err cause) own at carries meets
frame-to_table from to out a h h' clock isn f _ own at carries meets = absurd meets

-- the frame is heard as a segment
segment-arrives : (limit : ℕ) (hs ts : Side) (a b : Addr) (h h' : HostView) (other : SocketsView) (n : NetworkView) (bag : Bag) (trace : List Happening) (moment : Moment) (isn place : ℕ) (f : Frame) (r : ReceivedSegment) (answer : Result (Unit {0}) DropCause) → n.limit ≡ limit → IsTallied n trace
    → IsSoundHost h → isn < 2 ^ 32 → Projects limit hs ts a b h.sockets other bag n.openings trace → Carries a ts hs bag.arrived f → late_note n (written_at n) f.note ≡ None → second_by_frame n hs (foreseen h f.octets.items) ≡ None
    → heard_by h f.octets.items ≡ Ok (Tcp r) → MeetsSegment (segment_arrival h moment isn r.source r.segment) h moment r.source answer h'
    → Opens limit hs ts a b h'.sockets other bag n.openings (noted_opening n.openings hs place f.note h.sockets h'.sockets) trace
segment-arrives limit hs ts a b h h' other n bag trace moment isn place f r answer is_limit tallied sound small_isn p carries late fair is meets =
    let own = h.sockets in
    let s = r.segment in
    let local : Endpoint = local_end own s in
    let peer : Endpoint = peer_end r.source s in
    let ours : h.interface.addr ≡ a = sound.own ∙ p.own_addr in
    let says = meant_by h f.octets.items (Tcp r) is in
    let k = carries h.interface.mac r (subst (λ x. heard h.interface.mac x f.octets.items ≡ Ok (Tcp r)) ours says) in
    let fresh = not-late n k.note (ap (late_note n (written_at n)) (sym k.noted) ∙ late) in
    let named : k.note.pair ≡ pair_of local peer = named-pair ts hs bag.arrived own a f.note r p.own_addr k in
    let apart : same_addr own.addr r.source ≡ false = from-another own.addr r.source (subst (λ x. may_send x r.source ≡ true) sound.own (from_others h.interface.mac h.interface.addr f.octets.items r says)) in
    let may : MayCome limit hs ts own other bag n.openings trace (pair_of local peer) s =
    subst (λ q. MayCome limit hs ts own other bag n.openings trace q s) named (may-come limit hs ts own other n bag trace a f.note r is_limit tallied k fresh.1 fresh.0) in
    let seen : foreseen h f.octets.items ≡ segment_foreseen h r.source s = ap (foreseen_of h) is in
    let once : segment_foreseen h r.source s ≡ Some (pair_of local peer) → find (is_opening_of hs (pair_of local peer) (epoch_of n.openings (pair_of local peer))) n.openings ≡ None =
    λ opens. not-second n.openings hs (pair_of local peer) (epoch_of n.openings (pair_of local peer)) (sym (ap (second_by_frame n hs) (seen ∙ opens)) ∙ fair) in
    let opened = projects-arrived limit hs ts a b own h'.sockets other bag n.openings trace moment isn place local peer s (segment_foreseen h r.source s) sound.table small_isn p refl apart may once (segment-taken h moment isn r.source s answer h' meets) in
    subst (λ o. Opens limit hs ts a b h'.sockets other bag n.openings (noted_opening n.openings hs place o own h'.sockets) trace) (sym k.noted)
    (subst (λ q. Opens limit hs ts a b h'.sockets other bag n.openings (opened_by_frame n.openings hs place q own h'.sockets) trace) (sym named) opened)

-- whatever it is heard as
frame-heard : (limit : ℕ) (hs ts : Side) (a b : Addr) (h h' : HostView) (other : SocketsView) (n : NetworkView) (bag : Bag) (trace : List Happening) (clock : Moment) (isn place : ℕ) (f : Frame) (answer : Result (Unit {0}) DropCause) → n.limit ≡ limit → IsTallied n trace
    → IsSoundHost h → isn < 2 ^ 32 → Projects limit hs ts a b h.sockets other bag n.openings trace → Carries a ts hs bag.arrived f → late_note n (written_at n) f.note ≡ None → second_by_frame n hs (foreseen h f.octets.items) ≡ None
    → IsDelivered h clock isn f.octets.items answer h' → Opens limit hs ts a b h'.sockets other bag n.openings (noted_opening n.openings hs place f.note h.sockets h'.sockets) trace
frame-heard limit hs ts a b h h' other n bag trace clock isn place f answer is_limit tallied sound small_isn p carries late fair = by_meaning (heard_by h f.octets.items) refl
  where
    moment : Moment
    moment = later_moment h.sockets clock

    still : h'.sockets ≡ h.sockets → Opens limit hs ts a b h'.sockets other bag n.openings (noted_opening n.openings hs place f.note h.sockets h'.sockets) trace
    still same = OpensNone (noted-none n.openings hs place f.note h.sockets h'.sockets same) (subst (λ w. Projects limit hs ts a b w other bag n.openings trace) (sym same) p)

    -- an error that is told opens nothing
    tells : (local peer : Endpoint) (number : ℕ) → h'.sockets ≡ after_unreachable h.sockets local peer number
        → Opens limit hs ts a b h'.sockets other bag n.openings (noted_opening n.openings hs place f.note h.sockets h'.sockets) trace
    tells local peer number becomes =
        let next = after_unreachable h.sockets local peer number in
        subst (λ w. Opens limit hs ts a b w other bag n.openings (noted_opening n.openings hs place f.note h.sockets w) trace) (sym becomes)
        (OpensNone (noted-unheld n.openings hs place f.note h.sockets next (unheld-refused h.sockets local peer number)) (projects-told limit hs ts a b h.sockets other bag n.openings trace local peer number p))

    -- nor does a datagram for a UDP socket
    by_user : UserArrived h.sockets h'.sockets → Opens limit hs ts a b h'.sockets other bag n.openings (noted_opening n.openings hs place f.note h.sockets h'.sockets) trace
    by_user (Kept same) = still same
    by_user (Came source d becomes) =
        let next = after_reception h.sockets source d in
        subst (λ w. Opens limit hs ts a b w other bag n.openings (noted_opening n.openings hs place f.note h.sockets w) trace) (sym becomes)
        (OpensNone (noted-unheld n.openings hs place f.note h.sockets next (unheld-received_from h.sockets source d)) (projects-received limit hs ts a b h.sockets other bag n.openings trace source d p))

    by_told : (t : Told) (c : Control) → MeetsMessage t h moment c answer h' → Opens limit hs ts a b h'.sockets other bag n.openings (noted_opening n.openings hs place f.note h.sockets h'.sockets) trace
    by_told Asks c meets = still (ap (λ (w : HostView). w.sockets) meets.1)
    by_told (Refuses quote) c meets = tells quote.source quote.destination quote.number (ap (λ (w : HostView). w.sockets) meets.1)
    by_told Nothing c meets = still (ap (λ (w : HostView). w.sockets) meets.1)

    by_meaning : (m : Result Meaning DropCause) → heard_by h f.octets.items ≡ m → MeetsHeard m h moment isn answer h'
        → Opens limit hs ts a b h'.sockets other bag n.openings (noted_opening n.openings hs place f.note h.sockets h'.sockets) trace
    by_meaning (Ok (Arp packet)) is meets = still (ap (λ (w : HostView). w.sockets) meets.1)
    by_meaning (Ok (Tcp r)) is meets = segment-arrives limit hs ts a b h h' other n bag trace moment isn place f r answer is_limit tallied sound small_isn p carries late fair is meets
    by_meaning (Ok (Icmp c)) is meets = by_told (told_by c.message) c meets
    by_meaning (Ok (Other d)) is meets = still (ap (λ (w : HostView). w.sockets) meets.1)
    by_meaning (Ok (Udp r)) is meets = by_user (user-arrived (reception h.sockets r.datagram) h h' moment r.carrier.source r.datagram (quote_of r.carrier) meets.1)
    by_meaning (Ok (UdpFragment d)) is meets = by_user (fragment-arrived (fragment_outcome moment d (pool_for h.sockets.manner.guards d h.pool)) (is_late_copy h moment d) h h' moment d answer meets)
    by_meaning (Err cause) is meets = still (ap (λ (w : HostView). w.sockets) meets.1)

-- and whatever the host answers
pub frame-arrived : (limit : ℕ) (hs ts : Side) (a b : Addr) (h h' : HostView) (other : SocketsView) (n : NetworkView) (bag : Bag) (trace : List Happening) (clock : Moment) (isn place : ℕ) (f : Frame) (answer : Answer) → n.limit ≡ limit → IsTallied n trace
    → IsSoundHost h → isn < 2 ^ 32 → Projects limit hs ts a b h.sockets other bag n.openings trace → Carries a ts hs bag.arrived f → late_note n (written_at n) f.note ≡ None → second_by_frame n hs (foreseen h f.octets.items) ≡ None
    → MeetsFrame h clock isn f.octets.items answer h' → Opens limit hs ts a b h'.sockets other bag n.openings (noted_opening n.openings hs place f.note h.sockets h'.sockets) trace
frame-arrived limit hs ts a b h h' other n bag trace clock isn place f reply.Taken is_limit tallied sound small_isn p carries late fair meets = frame-heard limit hs ts a b h h' other n bag trace clock isn place f (Ok tt) is_limit tallied sound small_isn p carries late fair meets
frame-arrived limit hs ts a b h h' other n bag trace clock isn place f (reply.Dropped cause) is_limit tallied sound small_isn p carries late fair meets = frame-heard limit hs ts a b h h' other n bag trace clock isn place f (Err cause) is_limit tallied sound small_isn p carries late fair meets
frame-arrived limit hs ts a b h h' other n bag trace clock isn place f _ is_limit tallied sound small_isn p carries late fair meets = absurd meets
