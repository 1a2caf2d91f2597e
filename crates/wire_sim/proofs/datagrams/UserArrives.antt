-- What a frame that carries what was accepted makes of the host that takes it: a datagram that is queued was accepted for this host, and what
-- stays in the pool is of what was.
use Rattle.std.proofs.Common.{◌≡◌, ◌⊎◌, inl, inr, ℕ, ◌&&◌, Bool, true, false, cond, List, take, Option, Some, None, is_none, option_map, Result, Ok, Err, refl, sym, ◌∙◌, ap, subst}
use Rattle.ipv4.specs.declared.addr.Addr.{Addr}
use Rattle.ipv4.specs.declared.addr.Endpoint.{Endpoint}
use Rattle.ipv4.specs.Datagram.{Datagram}
use Rattle.clock.specs.declared.moment.Moment.{Moment}
use Rattle.tcp_segment.specs.Segment.{Segment}
use Rattle.frames.specs.declared.drop.DropCause.{DropCause}
use Rattle.frames.specs.declared.meaning.Control.{Control}
use Rattle.frames.specs.declared.meaning.Meaning.{Meaning}
use Rattle.frames.specs.declared.meaning.Meaning.TheVariants.{Arp, Tcp, Icmp, Udp, Other, UdpFragment}
use Rattle.frames.specs.declared.meaning.ReceivedDatagram.{ReceivedDatagram}
use Rattle.frames.proofs.Hearers.{users_from_others, users_are_carried, fragments_from_others}
use Rattle.interface.specs.Ways.{is_routed}
use Rattle.reassembly.specs.Events.Event.{Takes as taken, GivesWay}
use Rattle.reassembly.specs.Fragments.{quote_of}
use Rattle.reassembly.specs.Places.{after_take, fits, outcome_at, place_for, without_oldest}
use Rattle.reassembly.specs.Reassembly.{Outcome, PoolView}
use Rattle.reassembly.specs.Reassembly.Outcome.{Waits, Completes, GivesUp}
use Rattle.udp.specs.declared.fault.UdpFault.{UdpFault}
use Rattle.udp.specs.Datagram.{UserDatagram}
use Rattle.udp.specs.Reading.{datagram_or_fault}
use Rattle.sockets.specs.declared.datagrams.Reception.{Reception}
use Rattle.sockets.specs.declared.datagrams.Reception.TheVariants as reception
use Rattle.sockets.specs.Arrival.{Arrival, Becomes, Opens, NoRoom, Answers, arrival}
use Rattle.sockets.specs.Datagrams.{reception, after_reception}
use Rattle.sockets.specs.SocketsView.{SocketsView, later_moment}
use Rattle.sockets.specs.Unreachable.{after_unreachable}
use Rattle.host.specs.Arrival.{fragment_outcome, is_late_copy, pool_for, with_noted, MeetsSegment, arrival_by_route, segment_arrival, MeetsMessage, MeetsHeard, MeetsFragment, IsDelivered, after_user_datagram, after_payload, after_outcome}
use Rattle.host.specs.Heard.{heard_by}
use Rattle.host.proofs.Guarded.{meant_by}
use Rattle.host.specs.HostView.{HostView, with_pool}
use Rattle.host.specs.Messages.{Told, Asks, Refuses, Nothing, told_by}
use Rattle.datagram_law.specs.Accepted.{Accepted, AreInTurn, AreFew, CameFrom}
use Rattle.datagram_law.specs.Carried.{IsOfOne, IsWholeOfOne}
use Rattle.datagram_law.specs.Pools.{IsPoolOf}
use Rattle.datagram_law.proofs.Completing.{completed}
use Rattle.datagram_law.proofs.Gathering.{one_event}
use Rattle.datagram_law.proofs.Parting.{no_fragment}
use Rattle.datagram_law.proofs.Reading.{came}
use Rattle.wire_sim.proofs.datagrams.PartsGoOut.{KeepsTo}

-- a UDP datagram from an address was accepted by the other host for ours, while it accepted few
abbrev pub WasSent : List Accepted → Addr → Addr → UserDatagram → Type 0
WasSent other source ours d = AreFew other → CameFrom other (record { addr = source; port = d.source }) (record { addr = ours; port = d.destination }) d.payload

-- What a table took of a frame: nothing, a UDP datagram, a segment, or an error that tells of one.
pub data TableTakes (other : List Accepted) (own own' : SocketsView) : Type 0 where
  Stays : own' ≡ own → TableTakes other own own'
  Queues : (source : Addr) (d : UserDatagram) → WasSent other source own.addr d → own' ≡ after_reception own source d → TableTakes other own own'
  Hears : (moment : Moment) (isn : ℕ) (source : Addr) (s : Segment) (next : SocketsView) → (arrival own moment isn source s ≡ Becomes next) ⊎ (arrival own moment isn source s ≡ Opens next) → own' ≡ next → TableTakes other own own'
  Learns : (local peer : Endpoint) (number : ℕ) → own' ≡ after_unreachable own local peer number → TableTakes other own own'

-- what a host took of it
pub record HostTakes (other : List Accepted) (h h' : HostView) : Type 0 where
  pub table : TableTakes other h.sockets h'.sockets
  pub pool : IsPoolOf other h'.pool

-- the pool is as it was
with-pool-kept : (other : List Accepted) (h h' : HostView) → h'.pool ≡ h.pool → IsPoolOf other h.pool → TableTakes other h.sockets h'.sockets → HostTakes other h h'
with-pool-kept other h h' same pool takes = record { table = takes; pool = subst (IsPoolOf other) (sym same) pool }

-- nothing of it
aside : (other : List Accepted) (h h' : HostView) → h'.sockets ≡ h.sockets → h'.pool ≡ h.pool → IsPoolOf other h.pool → HostTakes other h h'
aside other h h' same pools pool = with-pool-kept other h h' pools pool (Stays same)

-- A segment.
segment-takes : (other : List Accepted) (h h' : HostView) (moment : Moment) (isn : ℕ) (source : Addr) (s : Segment) (answer : Result (Unit {0}) DropCause) → IsPoolOf other h.pool → MeetsSegment (segment_arrival h moment isn source s) h moment source answer h'
    → HostTakes other h h'
segment-takes other h h' moment isn source s answer pool = by_arrival (is_routed h.interface source) (arrival h.sockets moment isn source s) refl
  where
    still : h' ≡ h → HostTakes other h h'
    still same = aside other h h' (ap (λ (w : HostView). w.sockets) same) (ap (λ (w : HostView). w.pool) same) pool

    by_answer : (next : SocketsView) → arrival h.sockets moment isn source s ≡ Opens next → (r : Result (Unit {0}) DropCause) → MeetsSegment (Opens next) h moment source r h' → HostTakes other h h'
    by_answer next is (Ok v) meets = with-pool-kept other h h' (ap (λ (w : HostView). w.pool) meets) pool (Hears moment isn source s next (inr is) (ap (λ (w : HostView). w.sockets) meets))
    by_answer next is (Err cause) meets = still meets.1

    by_arrival : (routed : Bool) (a : Arrival) → arrival h.sockets moment isn source s ≡ a → MeetsSegment (arrival_by_route routed a) h moment source answer h' → HostTakes other h h'
    by_arrival true (Opens next) is meets = by_answer next is answer meets
    by_arrival false (Opens next) is meets = still meets.1
    by_arrival routed (Becomes next) is meets = with-pool-kept other h h' (ap (λ (w : HostView). w.pool) meets.1) pool (Hears moment isn source s next (inl is) (ap (λ (w : HostView). w.sockets) meets.1))
    by_arrival routed NoRoom is meets = still meets.1
    by_arrival routed (Answers head) is meets = aside other h h' (ap (λ (w : HostView). w.sockets) meets.1) (ap (λ (w : HostView). w.pool) meets.1) pool

-- A UDP datagram.
user-takes : (other : List Accepted) (r : Reception) (h h' : HostView) (moment : Moment) (source : Addr) (d : UserDatagram) (quote : List ℕ) → WasSent other source h.sockets.addr d → IsPoolOf other h.pool → h' ≡ after_user_datagram r h moment source d quote
    → HostTakes other h h'
user-takes other reception.Queued h h' moment source d quote sent pool becomes = with-pool-kept other h h' (ap (λ (w : HostView). w.pool) becomes) pool (Queues source d sent (ap (λ (w : HostView). w.sockets) becomes))
user-takes other reception.NoRoom h h' moment source d quote sent pool becomes = aside other h h' (ap (λ (w : HostView). w.sockets) becomes) (ap (λ (w : HostView). w.pool) becomes) pool
user-takes other reception.NoSocket h h' moment source d quote sent pool becomes = aside other h h' (ap (λ (w : HostView). w.sockets) becomes) (ap (λ (w : HostView). w.pool) becomes) pool

-- what was put together is read as one that was sent
whole-sent : (other : List Accepted) (d : Datagram) (payload : List ℕ) (u : UserDatagram) (ours : Addr) → AreInTurn other → (AreFew other → IsWholeOfOne other d payload) → d.destination ≡ ours → datagram_or_fault d.source d.destination payload ≡ Ok u
    → WasSent other d.source ours u
whole-sent other d payload u ours turn whole at read few =
    subst (λ (x : Addr). CameFrom other (record { addr = d.source; port = u.source }) (record { addr = x; port = u.destination }) u.payload) at (came other d payload u turn (whole few) read)

-- A fragment. On guard the oldest of the pool may give way to it.
made-room : (other : List Accepted) (guards : Bool) (d : Datagram) (pool : PoolView) → IsPoolOf other pool → IsPoolOf other (pool_for guards d pool)
made-room other guards d pool of = by_test (guards && fits pool d && is_none (place_for d pool))
  where
    by_test : (b : Bool) → IsPoolOf other (cond b (without_oldest pool) pool)
    by_test true = one_event other pool GivesWay of (tt {0})
    by_test false = of

fragment-takes : (other : List Accepted) (h h' : HostView) (moment : Moment) (d : Datagram) (answer : Result (Unit {0}) DropCause) → AreInTurn other → IsPoolOf other h.pool → IsOfOne other d → d.destination ≡ h.sockets.addr
    → MeetsFragment (fragment_outcome moment d (pool_for h.sockets.manner.guards d h.pool)) (is_late_copy h moment d) h moment d answer h' → HostTakes other h h'
fragment-takes other h h' moment d answer turn pool of at = by_place (place_for d (pool_for h.sockets.manner.guards d h.pool)) (is_late_copy h moment d) refl
  where
    room : PoolView
    room = pool_for h.sockets.manner.guards d h.pool

    next : HostView
    next = with_pool h (after_take moment d room)

    with_room : IsPoolOf other room
    with_room = made-room other h.sockets.manner.guards d h.pool pool

    next_pool : IsPoolOf other (after_take moment d room)
    next_pool = one_event other room (taken moment d) with_room of

    noted : HostView
    noted = with_noted next moment d

    -- the same table
    from_next : HostTakes other noted h' → HostTakes other h h'
    from_next takes = record { table = takes.table; pool = takes.pool }

    after_it : h' ≡ noted → HostTakes other h h'
    after_it same = from_next (aside other noted h' (ap (λ (w : HostView). w.sockets) same) (ap (λ (w : HostView). w.pool) same) next_pool)

    still : h' ≡ next → HostTakes other h h'
    still same = from_next (aside other noted h' (ap (λ (w : HostView). w.sockets) same) (ap (λ (w : HostView). w.pool) same) next_pool)

    by_payload : (payload quote : List ℕ) → (AreFew other → IsWholeOfOne other d payload) → (r : Result UserDatagram UdpFault) → datagram_or_fault d.source d.destination payload ≡ r → h' ≡ after_payload r noted moment d.source quote → HostTakes other h h'
    by_payload payload quote whole (Ok u) read becomes =
        from_next (user-takes other (reception h.sockets u) noted h' moment d.source u (take 68 quote) (whole-sent other d payload u h.sockets.addr turn whole at read) next_pool becomes)
    by_payload payload quote whole (Err fault) read becomes = after_it becomes

    by_outcome : (place : ℕ) → place_for d room ≡ Some place → (x : Outcome) → outcome_at moment d room place ≡ x → h' ≡ after_outcome x next moment d → HostTakes other h h'
    by_outcome place placed (Waits r) is becomes = still becomes
    by_outcome place placed GivesUp is becomes = still becomes
    by_outcome place placed (Completes payload quote) is becomes =
        by_payload payload quote (λ few. completed other room moment d place payload quote turn few with_room of placed is) (datagram_or_fault d.source d.destination payload) refl becomes

    by_place : (o : Option ℕ) (late : Bool) → place_for d room ≡ o → MeetsFragment (option_map (outcome_at moment d room) o) late h moment d answer h' → HostTakes other h h'
    by_place None late placed meets = aside other h h' (ap (λ (w : HostView). w.sockets) meets.1) (ap (λ (w : HostView). w.pool) meets.1) pool
    by_place (Some place) true placed meets = aside other h h' (ap (λ (w : HostView). w.sockets) meets.1) (ap (λ (w : HostView). w.pool) meets.1) pool
    by_place (Some place) false placed meets = by_outcome place placed (outcome_at moment d room place) refl meets.1

-- Whatever a frame is heard as.
pub frame-takes : (other : List Accepted) (h h' : HostView) (clock : Moment) (isn : ℕ) (octets : List ℕ) (answer : Result (Unit {0}) DropCause) → h.interface.addr ≡ h.sockets.addr → AreInTurn other → IsPoolOf other h.pool → KeepsTo other octets
    → IsDelivered h clock isn octets answer h' → HostTakes other h h'
frame-takes other h h' clock isn octets answer own turn pool keeps = by_meaning (heard_by h octets) refl
  where
    moment : Moment
    moment = later_moment h.sockets clock

    still : h'.sockets ≡ h.sockets → h'.pool ≡ h.pool → HostTakes other h h'
    still same pools = aside other h h' same pools pool

    whole : (r : ReceivedDatagram) → heard_by h octets ≡ Ok (Udp r) → AreFew other → IsWholeOfOne other r.carrier r.carrier.payload
    whole r is few =
        let says = meant_by h octets (Udp r) is in
        let told = users_are_carried h.interface.mac h.interface.addr octets r says in
        no_fragment other r.carrier (keeps.whole h.interface.mac h.interface.addr r says) told.1.0 told.1.1

    by_told : (t : Told) (c : Control) → MeetsMessage t h moment c answer h' → HostTakes other h h'
    by_told Asks c meets = still (ap (λ (w : HostView). w.sockets) meets.1) (ap (λ (w : HostView). w.pool) meets.1)
    by_told (Refuses quote) c meets = with-pool-kept other h h' (ap (λ (w : HostView). w.pool) meets.1) pool (Learns quote.source quote.destination quote.number (ap (λ (w : HostView). w.sockets) meets.1))
    by_told Nothing c meets = still (ap (λ (w : HostView). w.sockets) meets.1) (ap (λ (w : HostView). w.pool) meets.1)

    by_meaning : (m : Result Meaning DropCause) → heard_by h octets ≡ m → MeetsHeard m h moment isn answer h' → HostTakes other h h'
    by_meaning (Ok (Arp packet)) is meets = still (ap (λ (w : HostView). w.sockets) meets.1) (ap (λ (w : HostView). w.pool) meets.1)
    by_meaning (Ok (Tcp r)) is meets = segment-takes other h h' moment isn r.source r.segment answer pool meets
    by_meaning (Ok (Icmp c)) is meets = by_told (told_by c.message) c meets
    by_meaning (Ok (Other d)) is meets = still (ap (λ (w : HostView). w.sockets) meets.1) (ap (λ (w : HostView). w.pool) meets.1)
    by_meaning (Ok (Udp r)) is meets =
        let says = meant_by h octets (Udp r) is in
        let from = users_from_others h.interface.mac h.interface.addr octets r says in
        let told = users_are_carried h.interface.mac h.interface.addr octets r says in
        user-takes other (reception h.sockets r.datagram) h h' moment r.carrier.source r.datagram (quote_of r.carrier)
        (whole-sent other r.carrier r.carrier.payload r.datagram h.sockets.addr turn (whole r is) (from.1 ∙ own) told.3) pool meets.1
    by_meaning (Ok (UdpFragment d)) is meets =
        let says = meant_by h octets (UdpFragment d) is in
        let from = fragments_from_others h.interface.mac h.interface.addr octets d says in
        fragment-takes other h h' moment d answer turn pool (keeps.fragment h.interface.mac h.interface.addr d says) (from.1 ∙ own) meets
    by_meaning (Err cause) is meets = still (ap (λ (w : HostView). w.sockets) meets.1) (ap (λ (w : HostView). w.pool) meets.1)
