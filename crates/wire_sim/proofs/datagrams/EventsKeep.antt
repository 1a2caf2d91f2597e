-- What an event makes of two hosts that keep to what both accepted, and of the frames between them.
use Rattle.std.proofs.Common.{◌≡◌, ◌⊎◌, inl, inr, ℕ, false, List, [], ◌∷◌, ◌++◌, length, length-append, Option, Some, None, Ok, Err, refl, sym, ◌∙◌, ap, subst, arith, Contains}
use Rattle.std.specs.List.{slice_get, AllByRecursion}
use Rattle.std.proofs.lemmas.List.Elements.{Contains-append_right}
use Rattle.ipv4.specs.declared.addr.Addr.{Addr}
use Rattle.ipv4.specs.declared.addr.Endpoint.{Endpoint}
use Rattle.clock.specs.declared.moment.Moment.{Moment}
use Rattle.tcp_segment.specs.declared.seq.Seq.{Seq}
use Rattle.interface.specs.Ways.{is_routed}
use Rattle.reassembly.specs.Events.Event.{Ages}
use Rattle.sockets.specs.SocketsView.{later_moment}
use Rattle.sockets.specs.Ticks as table_ticks
use Rattle.host.specs.Emission.{Emission, Replies, Sends, Asks, Nothing, emission, goes_out_from, left_by, after_emission}
use Rattle.host.specs.HostView.{HostView}
use Rattle.host.specs.Sound.{IsSoundHost}
use Rattle.host.specs.Ticks as host_ticks
use Rattle.datagram_law.specs.Accepted.{Accepted, AreFew, CameFrom}
use Rattle.datagram_law.specs.Pools.{IsPoolOf}
use Rattle.datagram_law.proofs.Gathering.{one_event, pool_still}
use Rattle.datagram_law.proofs.InTurn.{still, each_came}
use Rattle.sides.specs.declared.side.Side.{Side}
use Rattle.wire_sim.specs.declared.event.Call.{Call}
use Rattle.wire_sim.specs.declared.event.Call.TheVariants as call
use Rattle.wire_sim.specs.declared.event.Event.TheVariants as event
use Rattle.wire_sim.specs.declared.event.Answer.{Answer}
use Rattle.wire_sim.specs.declared.event.Answer.TheVariants as reply
use Rattle.wire_sim.specs.declared.event.Opening.{Opening}
use Rattle.wire_sim.specs.declared.world.bag.Frame.{Frame}
use Rattle.wire_sim.specs.declared.world.bag.Note.{Note}
use Rattle.wire_sim.specs.declared.world.station.Station.{Station}
use Rattle.wire_sim.specs.Datagrams.{accepted_by_call}
use Rattle.wire_sim.specs.Fairness.{unfair_frame, unfair_counted}
use Rattle.wire_sim.specs.Runs.{IsNumbered}
use Rattle.sides.specs.Sides.{same_side, other_side}
use Rattle.wire_sim.specs.Steps.{with_station, with_host, with_opening, station_after_tick, after_call, after_delivery, MeetsFrame, DeliversFrame, MeetsEmission, Steps}
use Rattle.wire_sim.specs.WorldView.{NetworkView, station_of, host_of, table_of, clock_of, written_at}
use Rattle.wire_sim.proofs.lists.FoundAfterChange.{All-at, All-added, All-weaker}
use Rattle.wire_sim.proofs.runs.RunsAreLawful.{frames-with, own-with, other-with, own-again, fair_sender, not_own}
use Rattle.wire_sim.proofs.datagrams.CallsKeep.{call-kept}
use Rattle.wire_sim.proofs.datagrams.PartsGoOut.{KeepsTo}
use Rattle.wire_sim.proofs.datagrams.TablesInTime.{kept-segment, kept-opening, kept-unreachable, kept-tick, kept-giving_up, kept-going_out}
use Rattle.wire_sim.proofs.datagrams.TablesKeepToAccepted.{IsTableOf}
use Rattle.wire_sim.proofs.datagrams.TablesOfCalls.{kept-more}
use Rattle.wire_sim.proofs.datagrams.TablesOfDatagrams.{kept-reception}
use Rattle.wire_sim.proofs.datagrams.UserArrives.{TableTakes, Stays, Queues, Hears, Learns, HostTakes, frame-takes}
use Rattle.wire_sim.proofs.datagrams.UserFrames.{frame-kept}

-- A host keeps to what it accepted, and to what it heard, which is what the other one accepted as long as that is few; its pool holds
-- fragments of that.
pub record IsHostOf (own other : List Accepted) (h : HostView) : Type 0 where
  pub heard : List Accepted
  pub table : IsTableOf own heard h.sockets
  pub few : AreFew other → IsTableOf own other h.sockets
  pub pool : IsPoolOf other h.pool

-- a frame is of one of two sides, and carries what that accepted
abbrev pub IsFrameOf : Side → Side → List Accepted → List Accepted → Frame → Type 0
IsFrameOf hs ts own other f = ((f.sender ≡ hs) × KeepsTo own f.octets.items) ⊎ ((f.sender ≡ ts) × KeepsTo other f.octets.items)

-- so do both hosts, and the frames
pub record AreHostsOf (hs ts : Side) (own other : List Accepted) (n : NetworkView) : Type 0 where
  pub here : IsHostOf own other (host_of n hs)
  pub there : IsHostOf other own (host_of n ts)
  pub frames : AllByRecursion (IsFrameOf hs ts own other) n.frames

-- as the other side sees it
frame-swapped : (hs ts : Side) (own other : List Accepted) (f : Frame) → IsFrameOf hs ts own other f → IsFrameOf ts hs other own f
frame-swapped hs ts own other f (inl k) = inr k
frame-swapped hs ts own other f (inr k) = inl k

pub hosts-swapped : (hs ts : Side) (own other : List Accepted) (n : NetworkView) → AreHostsOf hs ts own other n → AreHostsOf ts hs other own n
hosts-swapped hs ts own other n w = record { here = w.there; there = w.here; frames = All-weaker (IsFrameOf hs ts own other) (IsFrameOf ts hs other own) (frame-swapped hs ts own other) n.frames w.frames }

-- Where more is accepted.

pub few-before : (accepted more : List Accepted) → AreFew (accepted ++ more) → AreFew accepted
few-before accepted more few = omega (arith, few, length-append accepted more)

host-more : (own other more : List Accepted) (h : HostView) → IsHostOf own other h → IsHostOf own (other ++ more) h
host-more own other more h w = record {
  heard = w.heard;
  table = w.table;
  few = λ few. kept-more own other more h.sockets (w.few (few-before other more few));
  pool = pool_still other more h.pool w.pool;
}

keeps-more : (own more : List Accepted) (octets : List ℕ) → KeepsTo own octets → KeepsTo (own ++ more) octets
keeps-more own more octets k = record { whole = λ mac ours r e. still _ own more (k.whole mac ours r e); fragment = λ mac ours d e. still _ own more (k.fragment mac ours d e) }

frame-more : (hs ts : Side) (own other more : List Accepted) (f : Frame) → IsFrameOf hs ts own other f → IsFrameOf hs ts (own ++ more) other f
frame-more hs ts own other more f (inl k) = inl (k.0, keeps-more own more f.octets.items k.1)
frame-more hs ts own other more f (inr k) = inr k

-- What a host does.

-- its table takes a step that keeps to whatever was heard, and accepts what is added
host-step : (own other more : List Accepted) (h h' : HostView) → ((heard : List Accepted) → IsTableOf own heard h.sockets → IsTableOf (own ++ more) heard h'.sockets) → (IsPoolOf other h.pool → IsPoolOf other h'.pool)
    → IsHostOf own other h → IsHostOf (own ++ more) other h'
host-step own other more h h' step pool w = record { heard = w.heard; table = step w.heard w.table; few = λ few. step other (w.few few); pool = pool w.pool }

-- and accepts nothing
host-quiet : (own other : List Accepted) (h h' : HostView) → ((heard : List Accepted) → IsTableOf own heard h.sockets → IsTableOf own heard h'.sockets) → (IsPoolOf other h.pool → IsPoolOf other h'.pool)
    → IsHostOf own other h → IsHostOf own other h'
host-quiet own other h h' step pool w = record { heard = w.heard; table = step w.heard w.table; few = λ few. step other (w.few few); pool = pool w.pool }

-- what it took of a frame
host-takes : (own other : List Accepted) (h h' : HostView) → HostTakes other h h' → IsHostOf own other h → IsHostOf own other h'
host-takes own other h h' takes w = by_table takes.table
  where
    quiet : ((heard : List Accepted) → IsTableOf own heard h.sockets → IsTableOf own heard h'.sockets) → IsHostOf own other h'
    quiet step = host-quiet own other h h' step (λ pool. takes.pool) w

    by_table : TableTakes other h.sockets h'.sockets → IsHostOf own other h'
    by_table (Stays same) = quiet (λ heard t. subst (IsTableOf own heard) (sym same) t)
    by_table (Hears moment isn source s next (inl is) becomes) = quiet (λ heard t. subst (IsTableOf own heard) (sym becomes) (kept-segment own heard h.sockets next moment isn source s is t))
    by_table (Hears moment isn source s next (inr is) becomes) = quiet (λ heard t. subst (IsTableOf own heard) (sym becomes) (kept-opening own heard h.sockets next moment isn source s is t))
    by_table (Learns local peer number becomes) = quiet (λ heard t. subst (IsTableOf own heard) (sym becomes) (kept-unreachable own heard h.sockets local peer number t))
    by_table (Queues source d sent becomes) =
        let from : Endpoint = record { addr = source; port = d.source } in
        let to : Endpoint = record { addr = h.sockets.addr; port = d.destination } in
        let a : Accepted = record { source = from; peer = to; identification = 0; octets = d.payload } in
        let itself : Contains (a ∷ []) a = (0, omega arith, refl) in
        let came : CameFrom (w.heard ++ a ∷ []) from to d.payload = each_came (w.heard ++ a ∷ []) a (Contains-append_right w.heard (a ∷ []) a itself) in
        record {
          heard = w.heard ++ a ∷ [];
          table = subst (IsTableOf own (w.heard ++ a ∷ [])) (sym becomes) (kept-reception own (w.heard ++ a ∷ []) h.sockets source d came (kept-more own w.heard (a ∷ []) h.sockets w.table));
          few = λ few. subst (IsTableOf own other) (sym becomes) (kept-reception own other h.sockets source d (sent few) (w.few few));
          pool = takes.pool;
        }

-- a tick
host-ticked : (own other : List Accepted) (h : HostView) (clock : Moment) → IsHostOf own other h → IsHostOf own other (host_ticks.after_tick h clock)
host-ticked own other h clock w =
    let moment = later_moment h.sockets clock in
    host-quiet own other h (host_ticks.after_tick h clock)
    (λ heard t. kept-giving_up own heard (table_ticks.after_tick h.sockets moment) (host_ticks.lacks_hop h moment) moment (kept-tick own heard h.sockets moment t))
    (λ pool. one_event other h.pool (Ages moment) pool (tt {0})) w

-- what goes out
host-emitted : (own other : List Accepted) (h : HostView) (clock : Moment) → IsHostOf own other h → IsHostOf own other (after_emission h clock)
host-emitted own other h clock w = by_emission (emission h moment)
  where
    moment : Moment
    moment = later_moment h.sockets clock

    by_emission : (x : Emission) → IsHostOf own other (left_by h moment x)
    by_emission (Replies place) = record { heard = w.heard; table = w.table; few = w.few; pool = w.pool }
    by_emission (Sends mac to) = host-quiet own other h (left_by h moment (Sends mac to)) (λ heard t. kept-going_out own heard h.sockets (goes_out_from h moment) moment t) (λ pool. pool) w
    by_emission (Asks hop) = record { heard = w.heard; table = w.table; few = w.few; pool = w.pool }
    by_emission Nothing = w

-- A network by its parts.
hosts-of : (hs ts : Side) (own other : List Accepted) (here there : HostView) (frames : List Frame) (n : NetworkView) → host_of n hs ≡ here → host_of n ts ≡ there → n.frames ≡ frames → IsHostOf own other here → IsHostOf other own there
    → AllByRecursion (IsFrameOf hs ts own other) frames → AreHostsOf hs ts own other n
hosts-of hs ts own other here there frames n is_here is_there is_frames h t f = record {
  here = subst (IsHostOf own other) (sym is_here) h;
  there = subst (IsHostOf other own) (sym is_there) t;
  frames = subst (AllByRecursion (IsFrameOf hs ts own other)) (sym is_frames) f;
}

-- What a call leaves of the network: the frames, and the other host.
record Leaves (hs ts : Side) (n m : NetworkView) : Type 0 where
  frames : m.frames ≡ n.frames
  other : host_of m ts ≡ host_of n ts

opening-leaves : (hs ts : Side) (n : NetworkView) (o : Option Opening) → Leaves hs ts n (with_opening n o)
opening-leaves hs ts n None = record { frames = refl; other = refl }
opening-leaves hs ts n (Some o) = record { frames = refl; other = own-again n (with_opening n (Some o)) ts refl refl }

station-leaves : (hs ts : Side) (n : NetworkView) (x : Station) → ts ≡ other_side hs → Leaves hs ts n (with_station n hs x)
station-leaves hs ts n x opposite = record { frames = frames-with n hs x; other = other-with n hs ts x opposite }

leaves-both : (hs ts : Side) (n m k : NetworkView) → Leaves hs ts n m → Leaves hs ts m k → Leaves hs ts n k
leaves-both hs ts n m k x y = record { frames = y.frames ∙ x.frames; other = y.other ∙ x.other }

host-leaves : (hs ts : Side) (n : NetworkView) (host : HostView) → ts ≡ other_side hs → Leaves hs ts n (with_host n hs host)
host-leaves hs ts n host opposite = let s = station_of n hs in station-leaves hs ts n (record s { host = host }) opposite

call-leaves : (hs ts : Side) (c : Call) (answer : Answer) (place : ℕ) (n : NetworkView) (host : HostView) → ts ≡ other_side hs → Leaves hs ts n (after_call hs c answer place n host)
call-leaves hs ts (call.Connect isn id peer) reply.Started place n host opposite = leaves-both hs ts n (with_host n hs host) _ (host-leaves hs ts n host opposite) (opening-leaves hs ts (with_host n hs host) _)
call-leaves hs ts (call.Send id octets) (reply.Sent count) place n host opposite =
    let m = with_host n hs host in
    let x = host-leaves hs ts n host opposite in
    record { frames = x.frames; other = own-again m (after_call hs (call.Send id octets) (reply.Sent count) place n host) ts refl refl ∙ x.other }
call-leaves hs ts c answer place n host opposite = host-leaves hs ts n host opposite

-- Each event of a side.

pub hosts-called : (hs ts : Side) (own other : List Accepted) (old new : NetworkView) (place : ℕ) (c : Call) (answer : Answer) → ts ≡ other_side hs → IsNumbered (event.Call hs c) → IsSoundHost (host_of old hs) → Steps (event.Call hs c) place answer old new
    → AreHostsOf hs ts own other old → AreHostsOf hs ts (own ++ accepted_by_call c answer (table_of old hs) (table_of new hs)) other new
hosts-called hs ts own other old new place c answer opposite numbered sound step w =
    let host = host_of old hs in
    let host' = host_of new hs in
    let more = accepted_by_call c answer host.sockets host'.sockets in
    let left = call-leaves hs ts c answer place old host' opposite in
    let width : length host.sockets.addr.0 ≡ 4 = ap (λ (x : Addr). length x.0) (sym sound.own) ∙ sound.interface.addr in
    hosts-of hs ts (own ++ more) other host' (host_of old ts) old.frames new refl (ap (λ m. host_of m ts) step.1 ∙ left.other) (ap (λ (m : NetworkView). m.frames) step.1 ∙ left.frames)
    (host-step own other more host host' (λ heard t. call-kept own heard (is_routed host.interface) _ c host.sockets host'.sockets answer width numbered step.0.table t)
    (λ pool. subst (IsPoolOf other) (sym (ap (λ (x : HostView). x.pool) step.0.others)) pool) w.here)
    (host-more other own more (host_of old ts) w.there)
    (All-weaker (IsFrameOf hs ts own other) (IsFrameOf hs ts (own ++ more) other) (frame-more hs ts own other more) old.frames w.frames)

pub hosts-ticked : (hs ts : Side) (own other : List Accepted) (old new : NetworkView) (place : ℕ) (moment : Moment) (answer : Answer) → ts ≡ other_side hs → Steps (event.Tick hs moment) place answer old new
    → AreHostsOf hs ts own other old → AreHostsOf hs ts own other new
hosts-ticked hs ts own other old new place moment answer opposite step w =
    let x = station_after_tick (station_of old hs) moment in
    let left = station-leaves hs ts old x opposite in
    hosts-of hs ts own other (host_ticks.after_tick (host_of old hs) moment) (host_of old ts) old.frames new (ap (λ m. host_of m hs) step.1 ∙ own-with old hs x) (ap (λ m. host_of m ts) step.1 ∙ left.other)
    (ap (λ (m : NetworkView). m.frames) step.1 ∙ left.frames) (host-ticked own other (host_of old hs) moment w.here) w.there w.frames

pub hosts-emitted : (hs ts : Side) (own other : List Accepted) (old new : NetworkView) (answer : Answer) → ts ≡ other_side hs → IsSoundHost (host_of old hs) → MeetsEmission hs answer old new
    → AreHostsOf hs ts own other old → AreHostsOf hs ts own other new
hosts-emitted hs ts own other old new (reply.Frame i l) opposite sound step w =
    let station = station_of old hs in
    let host = host_of old hs in
    let host' = after_emission host station.clock in
    let x : Station = record station { host = host' } in
    let next : NetworkView = record (with_station old hs x) { frames = old.frames ++ step.frame ∷ [] } in
    let kept : KeepsTo own (let f = step.frame in f.octets.items) = subst (KeepsTo own) (sym step.octets) (frame-kept own w.here.heard host station.clock sound w.here.table) in
    hosts-of hs ts own other host' (host_of old ts) (old.frames ++ step.frame ∷ []) new
    (ap (λ m. host_of m hs) step.after ∙ (own-again (with_station old hs x) next hs refl refl ∙ own-with old hs x))
    (ap (λ m. host_of m ts) step.after ∙ (own-again (with_station old hs x) next ts refl refl ∙ other-with old hs ts x opposite))
    (ap (λ (m : NetworkView). m.frames) step.after) (host-emitted own other host station.clock w.here) w.there
    (All-added (IsFrameOf hs ts own other) old.frames step.frame w.frames (inl (step.sender, kept)))
hosts-emitted hs ts own other old new reply.NoFrame opposite sound step w = subst (AreHostsOf hs ts own other) (sym step.after) w
hosts-emitted hs ts own other old new _ opposite sound step w = absurd step

pub hosts-delivered : (hs ts : Side) (own other : List Accepted) (old new : NetworkView) (place : ℕ) (index : ℕ) (isn : Seq) (answer : Answer) → ts ≡ other_side hs → IsSoundHost (host_of old hs)
    → unfair_counted old (event.Deliver hs index isn) ≡ None → Steps (event.Deliver hs index isn) place answer old new → AreHostsOf hs ts own other old → AreHostsOf hs ts own other new
hosts-delivered hs ts own other old new place index isn answer opposite sound fair step w = of_frame (slice_get old.frames index) refl fair step
  where
    host' : HostView
    host' = host_of new hs

    delivery-leaves : (o : Option Note) → Leaves hs ts old (after_delivery hs place o old host')
    delivery-leaves None = host-leaves hs ts old host' opposite
    delivery-leaves (Some note) = leaves-both hs ts old (with_host old hs host') _ (host-leaves hs ts old host' opposite) (opening-leaves hs ts (with_host old hs host') _)

    of_takes : (f : Frame) → HostTakes other (host_of old hs) host' → new ≡ after_delivery hs place f.note old host' → AreHostsOf hs ts own other new
    of_takes f takes becomes =
        let left = delivery-leaves f.note in
        hosts-of hs ts own other host' (host_of old ts) old.frames new refl (ap (λ m. host_of m ts) becomes ∙ left.other) (ap (λ (m : NetworkView). m.frames) becomes ∙ left.frames)
        (host-takes own other (host_of old hs) host' takes w.here) w.there w.frames

    of_kept : (f : Frame) → KeepsTo other f.octets.items → (answer : Answer) → MeetsFrame (host_of old hs) (clock_of old hs) isn.0 f.octets.items answer host' → HostTakes other (host_of old hs) host'
    of_kept f kept reply.Taken meets = frame-takes other (host_of old hs) host' (clock_of old hs) isn.0 f.octets.items (Ok tt) sound.own w.there.table.in_turn w.here.pool kept meets
    of_kept f kept (reply.Dropped cause) meets = frame-takes other (host_of old hs) host' (clock_of old hs) isn.0 f.octets.items (Err cause) sound.own w.there.table.in_turn w.here.pool kept meets
    of_kept f kept _ meets = absurd meets

    of_sender : (f : Frame) → IsFrameOf hs ts own other f → same_side f.sender hs ≡ false → MeetsFrame (host_of old hs) (clock_of old hs) isn.0 f.octets.items answer host' → new ≡ after_delivery hs place f.note old host' → AreHostsOf hs ts own other new
    of_sender f (inl k) not_ours meets becomes = absurd (not_own hs (ap (λ s. same_side s hs) (sym k.0) ∙ not_ours))
    of_sender f (inr k) not_ours meets becomes = of_takes f (of_kept f k.1 answer meets) becomes

    of_frame : (o : Option Frame) → slice_get old.frames index ≡ o → unfair_frame old (written_at old) hs o ≡ None → DeliversFrame hs isn.0 place answer old new o → AreHostsOf hs ts own other new
    of_frame None at fair step = absurd step
    of_frame (Some f) at fair step = of_sender f (All-at (IsFrameOf hs ts own other) old.frames index f w.frames at) (fair_sender old hs f fair).0 step.0 step.1
