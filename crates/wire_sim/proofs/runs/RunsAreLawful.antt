-- Every run of a world keeps the law of the stream.
use Rattle.std.proofs.Common.{◌≡◌, ℕ, ◌<◌, ◌≤◌, ◌^◌, inl, inr, Bool, true, false, cond, List, [], ◌∷◌, ◌++◌, length, Option, Some, None, refl, sym, ◌∙◌, ap, subst}
use Rattle.std.specs.List.{find, AllByRecursion, slice_get}
use Rattle.std.specs.Option.{option_or}
use Rattle.std.proofs.lemmas.Bool.{or_parts}
use Rattle.ipv4.specs.declared.addr.Pair.{Pair}
use Rattle.ipv4.specs.declared.addr.Addr.{Addr}
use Rattle.tcp_segment.specs.declared.seq.Seq.{Seq}
use Rattle.clock.specs.declared.moment.Moment.{Moment}
use Rattle.sides.specs.declared.side.Side.{Side}
use Rattle.sides.specs.declared.side.Side.TheVariants.{A, B}
use Rattle.wire_sim.specs.declared.event.Call.{Call}
use Rattle.wire_sim.specs.declared.event.Event.{Event}
use Rattle.wire_sim.specs.declared.event.Event.TheVariants as event
use Rattle.wire_sim.specs.declared.event.Answer.{Answer}
use Rattle.wire_sim.specs.declared.event.Answer.TheVariants as reply
use Rattle.wire_sim.specs.declared.event.Opening.{Opening}
use Rattle.wire_sim.specs.declared.event.Happening.{Happening}
use Rattle.wire_sim.specs.declared.event.Unfair.{Unfair}
use Rattle.wire_sim.specs.declared.event.Unfair.TheVariants.{NoSuchFrame}
use Rattle.wire_sim.specs.declared.world.bag.Frame.{Frame}
use Rattle.wire_sim.specs.declared.world.bag.Note.{Note}
use Rattle.wire_sim.specs.declared.world.station.Station.{Station}
use Rattle.sockets.specs.declared.entry.Entry.{Entry}
use Rattle.ipv4.specs.Addresses.{same_addr}
use Rattle.sockets.specs.declared.role.Role.{Role}
use Rattle.wire_sim.specs.Fairness.{late_note, second_by_frame, unfair_frame, unfair_call, unfair_counted}
use Rattle.frames.specs.Meaning.{same_mac}
use Rattle.sockets.specs.SocketsView.{SocketsView, later_moment}
use Rattle.sockets.specs.Ticks as table_ticks
use Rattle.host.specs.Arrival.{foreseen}
use Rattle.host.specs.ConfigView.{ConfigView}
use Rattle.host.specs.HostView.{HostView}
use Rattle.host.specs.Ticks as host_ticks
use Rattle.host.specs.Emission as host_emission
use Rattle.stream_law.specs.Pairing.{IsStream}
use Rattle.window_law.specs.Windows.{begins}
use Rattle.window_law.proofs.Run.{meets}
use Rattle.wire_sim.specs.Runs.{IsNumbered, IsStep, IsReached}
use Rattle.host.specs.Sound.{IsSoundHost}
use Rattle.wire_sim.specs.Runs as runs
use Rattle.sides.specs.Sides.{same_side, other_side}
use Rattle.wire_sim.specs.Steps.{with_station, with_host, with_opening, station_after_tick, after_delivery, MeetsFrame, DeliversFrame, Steps}
use Rattle.stream_law.specs.Begins.{Begins}
use Rattle.wire_sim.specs.Trace.{closed_on, read_on, ended_on, of_opening, written, closed, read, ended, StreamLaw}
use Rattle.wire_sim.specs.Tallies.{is_opening_of, written_by, counts_after}
use Rattle.wire_sim.specs.WorldView.{NetworkView, WorldView, station_of, host_of, table_of, clock_of, written_at, fresh_network, are_alike}
use Rattle.wire_sim.proofs.tables.PairOfPorts.{same_addr-other}
use Rattle.stream_law.proofs.PairingLaw.{pairing_lawful}
use Rattle.wire_sim.proofs.pairing.EndMoves.{pairing}
use Rattle.wire_sim.proofs.fairness.CountedAsTraced.{same_unfair}
use Rattle.wire_sim.proofs.pairing.WorldAsPairings.{told, Bag, turned, Projects, projects-swapped}
use Rattle.wire_sim.proofs.pairing.ArrivalIsMove.{Opens, OpensNone, OpensOne}
use Rattle.wire_sim.proofs.pairing.CallsAreMoves.{IsSilent, projects-silent}
use Rattle.wire_sim.proofs.lists.FoundAfterChange.{All-at, All-weaker}
use Rattle.wire_sim.proofs.carried.FramesCarry.{IsTallied, Carried, carried-swapped}
use Rattle.wire_sim.proofs.carried.FramesGoOut.{frame-went-out}
use Rattle.wire_sim.proofs.carried.FramesArrive.{noted_opening, frame-arrived}
use Rattle.wire_sim.proofs.pairing.CallsOfNetwork.{GoesPlain, GoesCounted, GoesOpened, projects-called}
use Rattle.wire_sim.proofs.pairing.EmissionIsMove.{written-end}
use Rattle.wire_sim.proofs.pairing.TickIsMoves.{projects-ticked, projects-given_up}
use Rattle.wire_sim.proofs.tables.TableById.{end_of, end_at}
use Rattle.wire_sim.proofs.told.TraceAndOneMore.{tallies, written_by-tallies, tallies-quiet, tallies-opened, quiet-tick, quiet-emit, quiet-deliver}

-- what holds of a world after every event, as one side sees it
pub record IsOrderly (limit : ℕ) (hs ts : Side) (n : NetworkView) (trace : List Happening) : Type 0 where
  pub a : Addr
  pub b : Addr
  pub is_limit : n.limit ≡ limit
  pub tallied : n.written ≡ tallies trace n.openings
  pub bag : Bag
  pub projects : Projects limit hs ts a b (table_of n hs) (table_of n ts) bag n.openings trace
  pub carried : AllByRecursion (Carried hs ts a b bag) n.frames

pub orderly-swapped : (limit : ℕ) (hs ts : Side) (n : NetworkView) (trace : List Happening) → IsOrderly limit hs ts n trace → IsOrderly limit ts hs n trace
orderly-swapped limit hs ts n trace w = record {
  a = w.b;
  b = w.a;
  is_limit = w.is_limit;
  tallied = w.tallied;
  bag = turned w.bag;
  projects = projects-swapped limit hs ts w.a w.b (table_of n hs) (table_of n ts) w.bag n.openings trace w.projects;
  carried = All-weaker (Carried hs ts w.a w.b w.bag) (Carried ts hs w.b w.a (turned w.bag)) (carried-swapped hs ts w.a w.b w.bag) n.frames w.carried;
}

-- the counts are those of the trace
pub orderly-tallied : (limit : ℕ) (hs ts : Side) (n : NetworkView) (trace : List Happening) → IsOrderly limit hs ts n trace → IsTallied n trace
orderly-tallied limit hs ts n trace w side pair epoch = ap (λ ws. written_by n.openings ws side pair epoch) w.tallied ∙ written_by-tallies trace n.openings side pair epoch

-- a network by its parts
orderly-of : (limit : ℕ) (hs ts : Side) (a b : Addr) (own other : SocketsView) (bag : Bag) (frames : List Frame) (openings : List Opening) (trace : List Happening) (n : NetworkView) → n.limit ≡ limit → table_of n hs ≡ own → table_of n ts ≡ other → n.frames ≡ frames
    → n.openings ≡ openings → n.written ≡ tallies trace openings → Projects limit hs ts a b own other bag openings trace → AllByRecursion (Carried hs ts a b bag) frames → IsOrderly limit hs ts n trace
orderly-of limit hs ts a b own other bag frames openings trace n is_limit is_own is_other is_frames is_openings is_written p carried = record {
  a = a;
  b = b;
  is_limit = is_limit;
  tallied = is_written ∙ ap (tallies trace) (sym is_openings);
  bag = bag;
  projects = subst (λ x. Projects limit hs ts a b x (table_of n ts) bag n.openings trace) (sym is_own)
      (subst (λ x. Projects limit hs ts a b own x bag n.openings trace) (sym is_other)
      (subst (λ x. Projects limit hs ts a b own other bag x trace) (sym is_openings) p));
  carried = subst (AllByRecursion (Carried hs ts a b bag)) (sym is_frames) carried;
}

-- the table of a host
abbrev table_in : HostView → SocketsView
table_in h = h.sockets

-- What a station that is put into the network leaves as it was.

limit-with : (n : NetworkView) (s : Side) (x : Station) → (let m = with_station n s x in m.limit) ≡ n.limit
limit-with n A x = refl
limit-with n B x = refl

pub frames-with : (n : NetworkView) (s : Side) (x : Station) → (let m = with_station n s x in m.frames) ≡ n.frames
frames-with n A x = refl
frames-with n B x = refl

pub openings-with : (n : NetworkView) (s : Side) (x : Station) → (let m = with_station n s x in m.openings) ≡ n.openings
openings-with n A x = refl
openings-with n B x = refl

written-with : (n : NetworkView) (s : Side) (x : Station) → (let m = with_station n s x in m.written) ≡ n.written
written-with n A x = refl
written-with n B x = refl

pub own-with : (n : NetworkView) (s : Side) (x : Station) → host_of (with_station n s x) s ≡ x.host
own-with n A x = refl
own-with n B x = refl

pub other-with : (n : NetworkView) (s t : Side) (x : Station) → t ≡ other_side s → host_of (with_station n s x) t ≡ host_of n t
other-with n A A x e = cc
other-with n A B x e = refl
other-with n B A x e = refl
other-with n B B x e = cc

pub own-again : (n m : NetworkView) (s : Side) → m.a ≡ n.a → m.b ≡ n.b → host_of m s ≡ host_of n s
own-again n m A is_a is_b = ap (λ (x : Station). x.host) is_a
own-again n m B is_a is_b = ap (λ (x : Station). x.host) is_b

-- Each event of a side.

orderly-called : (limit : ℕ) (hs ts : Side) (old new : NetworkView) (trace : List Happening) (c : Call) (answer : Answer) → ts ≡ other_side hs → IsNumbered (event.Call hs c) → IsSoundHost (host_of old hs) → unfair_call old hs c ≡ None → Steps (event.Call hs c) (length trace) answer old new
    → IsOrderly limit hs ts old trace → IsOrderly limit hs ts new (trace ++ record { event = event.Call hs c; answer = answer } ∷ [])
orderly-called limit hs ts old new trace c answer opposite numbered sound fair step w =
    let host' = host_of new hs in
    let own' = table_of new hs in
    let station = station_of old hs in
    let x : Station = record station { host = host' } in
    let e : Happening = record { event = event.Call hs c; answer = answer } in
    elim (projects-called limit hs ts w.a w.b (host_of old hs) host' (table_of old ts) old w.bag (length trace) trace _ c answer sound.table opposite refl (ap (table_of old) opposite) numbered fair step.0.table w.projects) [
      | GoesPlain is p t ↦
          let whole : new ≡ with_station old hs x = step.1 ∙ is in
          orderly-of limit hs ts w.a w.b own' (table_of old ts) w.bag old.frames old.openings (trace ++ e ∷ []) new
          (ap (λ (m : NetworkView). m.limit) whole ∙ (limit-with old hs x ∙ w.is_limit)) refl (ap (λ m. table_of m ts) whole ∙ ap table_in (other-with old hs ts x opposite))
          (ap (λ (m : NetworkView). m.frames) whole ∙ frames-with old hs x) (ap (λ (m : NetworkView). m.openings) whole ∙ openings-with old hs x)
          (ap (λ (m : NetworkView). m.written) whole ∙ (written-with old hs x ∙ (w.tallied ∙ sym t))) p w.carried
      | GoesCounted id count is p t ↦
          let next : NetworkView = record (with_station old hs x) { written = counts_after old.openings old.written hs id count } in
          let whole : new ≡ next = step.1 ∙ is in
          orderly-of limit hs ts w.a w.b own' (table_of old ts) w.bag old.frames old.openings (trace ++ e ∷ []) new
          (ap (λ (m : NetworkView). m.limit) whole ∙ (limit-with old hs x ∙ w.is_limit)) refl (ap (λ m. table_of m ts) whole ∙ ap table_in (own-again (with_station old hs x) next ts refl refl ∙ other-with old hs ts x opposite))
          (ap (λ (m : NetworkView). m.frames) whole ∙ frames-with old hs x) (ap (λ (m : NetworkView). m.openings) whole ∙ openings-with old hs x)
          (ap (λ (m : NetworkView). m.written) whole ∙ (ap (λ ws. counts_after old.openings ws hs id count) w.tallied ∙ t)) p w.carried
      | GoesOpened o is p t ↦
          let next : NetworkView = with_opening (with_station old hs x) (Some o) in
          let whole : new ≡ next = step.1 ∙ is in
          orderly-of limit hs ts w.a w.b own' (table_of old ts) w.bag old.frames (old.openings ++ o ∷ []) (trace ++ e ∷ []) new
          (ap (λ (m : NetworkView). m.limit) whole ∙ (limit-with old hs x ∙ w.is_limit)) refl (ap (λ m. table_of m ts) whole ∙ ap table_in (own-again (with_station old hs x) next ts refl refl ∙ other-with old hs ts x opposite))
          (ap (λ (m : NetworkView). m.frames) whole ∙ frames-with old hs x) (ap (λ (m : NetworkView). m.openings) whole ∙ ap (λ l. l ++ o ∷ []) (openings-with old hs x))
          (ap (λ (m : NetworkView). m.written) whole ∙ (ap (λ ws. ws ++ 0 ∷ []) (written-with old hs x ∙ w.tallied) ∙ sym t)) p w.carried
    ]

orderly-ticked : (limit : ℕ) (hs ts : Side) (old new : NetworkView) (trace : List Happening) (moment : Moment) (answer : Answer) → ts ≡ other_side hs → Steps (event.Tick hs moment) (length trace) answer old new
    → IsOrderly limit hs ts old trace → IsOrderly limit hs ts new (trace ++ record { event = event.Tick hs moment; answer = answer } ∷ [])
orderly-ticked limit hs ts old new trace moment answer opposite step w =
    let x = station_after_tick (station_of old hs) moment in
    let e : Happening = record { event = event.Tick hs moment; answer = answer } in
    let own = table_of old hs in
    let now = later_moment own moment in
    let ticked = table_ticks.after_tick own now in
    let own' : SocketsView = host_ticks.table_after_tick (host_of old hs) now in
    let p = projects-silent limit hs ts w.a w.b own' (table_of old ts) w.bag old.openings trace e (λ s i. quiet-tick hs moment answer s i)
    (projects-given_up limit hs ts w.a w.b ticked (table_of old ts) w.bag old.openings trace (host_ticks.lacks_hop (host_of old hs) now) now
    (projects-ticked limit hs ts w.a w.b own (table_of old ts) w.bag old.openings trace now w.projects)) in
    orderly-of limit hs ts w.a w.b own' (table_of old ts) w.bag old.frames old.openings (trace ++ e ∷ []) new
    (ap (λ (m : NetworkView). m.limit) step.1 ∙ (limit-with old hs x ∙ w.is_limit)) (ap (λ m. table_of m hs) step.1 ∙ ap table_in (own-with old hs x)) (ap (λ m. table_of m ts) step.1 ∙ ap table_in (other-with old hs ts x opposite))
    (ap (λ (m : NetworkView). m.frames) step.1 ∙ frames-with old hs x) (ap (λ (m : NetworkView). m.openings) step.1 ∙ openings-with old hs x)
    (ap (λ (m : NetworkView). m.written) step.1 ∙ (written-with old hs x ∙ (w.tallied ∙ sym (tallies-quiet trace old.openings e (λ s i. (quiet-tick hs moment answer s i).0))))) p w.carried

-- nothing but the trace changed
orderly-silent : (limit : ℕ) (hs ts : Side) (old new : NetworkView) (trace : List Happening) (e : Happening) → IsSilent e → new ≡ old → IsOrderly limit hs ts old trace → IsOrderly limit hs ts new (trace ++ e ∷ [])
orderly-silent limit hs ts old new trace e silent same w =
    subst (λ m. IsOrderly limit hs ts m (trace ++ e ∷ [])) (sym same) (record {
      a = w.a;
      b = w.b;
      is_limit = w.is_limit;
      tallied = w.tallied ∙ sym (tallies-quiet trace old.openings e (λ s i. (silent s i).0));
      bag = w.bag;
      projects = projects-silent limit hs ts w.a w.b (table_of old hs) (table_of old ts) w.bag old.openings trace e silent w.projects;
      carried = w.carried;
    })

orderly-emitted : (limit : ℕ) (hs ts : Side) (old new : NetworkView) (trace : List Happening) (answer : Answer) → ts ≡ other_side hs → IsSoundHost (host_of old hs) → Steps (event.Emit hs) (length trace) answer old new
    → IsOrderly limit hs ts old trace → IsOrderly limit hs ts new (trace ++ record { event = event.Emit hs; answer = answer } ∷ [])
orderly-emitted limit hs ts old new trace (reply.Socket id) opposite sound step w = absurd step
orderly-emitted limit hs ts old new trace reply.Done opposite sound step w = absurd step
orderly-emitted limit hs ts old new trace (reply.Accepted i p) opposite sound step w = absurd step
orderly-emitted limit hs ts old new trace reply.Started opposite sound step w = absurd step
orderly-emitted limit hs ts old new trace (reply.Sent m) opposite sound step w = absurd step
orderly-emitted limit hs ts old new trace (reply.Octets o) opposite sound step w = absurd step
orderly-emitted limit hs ts old new trace (reply.Datagram o f) opposite sound step w = absurd step
orderly-emitted limit hs ts old new trace reply.EndOfStream opposite sound step w = absurd step
orderly-emitted limit hs ts old new trace (reply.State s) opposite sound step w = absurd step
orderly-emitted limit hs ts old new trace (reply.Ready r) opposite sound step w = absurd step
orderly-emitted limit hs ts old new trace (reply.Info r) opposite sound step w = absurd step
orderly-emitted limit hs ts old new trace (reply.Endpoint x) opposite sound step w = absurd step
orderly-emitted limit hs ts old new trace (reply.Frame i l) opposite sound step w =
    let answer : Answer = reply.Frame i l in
    let station = station_of old hs in
    let host' = host_emission.after_emission (host_of old hs) station.clock in
    let x : Station = record station { host = host' } in
    let e : Happening = record { event = event.Emit hs; answer = answer } in
    let next : NetworkView = record (with_station old hs x) { frames = old.frames ++ step.frame ∷ [] } in
    let went = frame-went-out limit hs ts w.a w.b (host_of old hs) (table_of old ts) old w.bag trace station.clock l step.frame (orderly-tallied limit hs ts old trace w) sound step.due step.sender step.octets step.note w.projects w.carried in
    let p = projects-silent limit hs ts w.a w.b host'.sockets (table_of old ts) went.bag old.openings trace e (λ s i. quiet-emit hs answer s i) went.projects in
    orderly-of limit hs ts w.a w.b host'.sockets (table_of old ts) went.bag (old.frames ++ step.frame ∷ []) old.openings (trace ++ e ∷ []) new
    (ap (λ (m : NetworkView). m.limit) step.after ∙ (limit-with old hs x ∙ w.is_limit)) (ap (λ m. table_of m hs) step.after ∙ ap table_in (own-again (with_station old hs x) next hs refl refl ∙ own-with old hs x))
    (ap (λ m. table_of m ts) step.after ∙ ap table_in (own-again (with_station old hs x) next ts refl refl ∙ other-with old hs ts x opposite))
    (ap (λ (m : NetworkView). m.frames) step.after) (ap (λ (m : NetworkView). m.openings) step.after ∙ openings-with old hs x)
    (ap (λ (m : NetworkView). m.written) step.after ∙ (written-with old hs x ∙ (w.tallied ∙ sym (tallies-quiet trace old.openings e (λ s i. (quiet-emit hs answer s i).0))))) p went.carried
orderly-emitted limit hs ts old new trace reply.NoFrame opposite sound step w = orderly-silent limit hs ts old new trace (record { event = event.Emit hs; answer = reply.NoFrame }) (λ s i. quiet-emit hs reply.NoFrame s i) step.after w
orderly-emitted limit hs ts old new trace reply.Taken opposite sound step w = absurd step
orderly-emitted limit hs ts old new trace (reply.Dropped c) opposite sound step w = absurd step
orderly-emitted limit hs ts old new trace (reply.Refused e) opposite sound step w = absurd step

-- a frame that may be delivered to a side is of the other side, has nothing against it, and opens no pair a second time
pub fair_sender : (n : NetworkView) (s : Side) (f : Frame) → unfair_frame n (written_at n) s (Some f) ≡ None
    → (same_side f.sender s ≡ false) × (late_note n (written_at n) f.note ≡ None) × (second_by_frame n s (foreseen (host_of n s) f.octets.items) ≡ None)
fair_sender n s f fair = step (same_side f.sender s) refl (late_note n (written_at n) f.note) refl fair
  where
    step : (b : Bool) → same_side f.sender s ≡ b → (late : Option Unfair) → late_note n (written_at n) f.note ≡ late → cond b (Some NoSuchFrame) (option_or late (second_by_frame n s (foreseen (host_of n s) f.octets.items))) ≡ None
        → (same_side f.sender s ≡ false) × (late_note n (written_at n) f.note ≡ None) × (second_by_frame n s (foreseen (host_of n s) f.octets.items) ≡ None)
    step true is late was e = cc
    step false is None was e = (is, was, e)
    step false is (Some x) was e = cc

pub not_own : (s : Side) → same_side s s ≡ false → ⊥
not_own A e = cc
not_own B e = cc

orderly-delivered : (limit : ℕ) (hs ts : Side) (old new : NetworkView) (trace : List Happening) (index : ℕ) (isn : Seq) (answer : Answer) → ts ≡ other_side hs → isn.0 < 2 ^ 32 → IsSoundHost (host_of old hs)
    → unfair_counted old (event.Deliver hs index isn) ≡ None → Steps (event.Deliver hs index isn) (length trace) answer old new
    → IsOrderly limit hs ts old trace → IsOrderly limit hs ts new (trace ++ record { event = event.Deliver hs index isn; answer = answer } ∷ [])
orderly-delivered limit hs ts old new trace index isn answer opposite numbered sound fair step w = of_frame (slice_get old.frames index) refl fair step
  where
    host' : HostView
    host' = host_of new hs

    x : Station
    x = let station = station_of old hs in record station { host = host_of new hs }

    e : Happening
    e = record { event = event.Deliver hs index isn; answer = answer }

    -- the opening is added that is noted
    delivered-as : (o : Option Note) → after_delivery hs (length trace) o old host' ≡ with_opening (with_host old hs host') (noted_opening old.openings hs (length trace) o (table_of old hs) host'.sockets)
    delivered-as None = refl
    delivered-as (Some note) = refl

    opened : (f : Frame) → new ≡ after_delivery hs (length trace) f.note old host'
        → Opens limit hs ts w.a w.b host'.sockets (table_of old ts) w.bag old.openings (noted_opening old.openings hs (length trace) f.note (table_of old hs) host'.sockets) trace → IsOrderly limit hs ts new (trace ++ e ∷ [])
    opened f becomes (OpensNone none p) =
        let whole : new ≡ with_station old hs x = becomes ∙ (delivered-as f.note ∙ ap (with_opening (with_host old hs host')) none) in
        orderly-of limit hs ts w.a w.b host'.sockets (table_of old ts) w.bag old.frames old.openings (trace ++ e ∷ []) new
        (ap (λ (m : NetworkView). m.limit) whole ∙ (limit-with old hs x ∙ w.is_limit)) refl (ap (λ m. table_of m ts) whole ∙ ap table_in (other-with old hs ts x opposite))
        (ap (λ (m : NetworkView). m.frames) whole ∙ frames-with old hs x) (ap (λ (m : NetworkView). m.openings) whole ∙ openings-with old hs x)
        (ap (λ (m : NetworkView). m.written) whole ∙ (written-with old hs x ∙ (w.tallied ∙ sym (tallies-quiet trace old.openings e (λ s i. (quiet-deliver hs index isn answer s i).0)))))
        (projects-silent limit hs ts w.a w.b host'.sockets (table_of old ts) w.bag old.openings trace e (λ s i. quiet-deliver hs index isn answer s i) p) w.carried
    opened f becomes (OpensOne o one unsent p) =
        let next : NetworkView = with_opening (with_station old hs x) (Some o) in
        let whole : new ≡ next = becomes ∙ (delivered-as f.note ∙ ap (with_opening (with_host old hs host')) one) in
        orderly-of limit hs ts w.a w.b host'.sockets (table_of old ts) w.bag old.frames (old.openings ++ o ∷ []) (trace ++ e ∷ []) new
        (ap (λ (m : NetworkView). m.limit) whole ∙ (limit-with old hs x ∙ w.is_limit)) refl (ap (λ m. table_of m ts) whole ∙ ap table_in (own-again (with_station old hs x) next ts refl refl ∙ other-with old hs ts x opposite))
        (ap (λ (m : NetworkView). m.frames) whole ∙ frames-with old hs x) (ap (λ (m : NetworkView). m.openings) whole ∙ ap (λ l. l ++ o ∷ []) (openings-with old hs x))
        (ap (λ (m : NetworkView). m.written) whole ∙ (ap (λ ws. ws ++ 0 ∷ []) (written-with old hs x ∙ w.tallied)
        ∙ sym (tallies-quiet trace (old.openings ++ o ∷ []) e (λ s i. (quiet-deliver hs index isn answer s i).0) ∙ tallies-opened trace old.openings o unsent)))
        (projects-silent limit hs ts w.a w.b host'.sockets (table_of old ts) w.bag (old.openings ++ o ∷ []) trace e (λ s i. quiet-deliver hs index isn answer s i) p) w.carried

    of_sender : (f : Frame) → Carried hs ts w.a w.b w.bag f → same_side f.sender hs ≡ false → late_note old (written_at old) f.note ≡ None → second_by_frame old hs (foreseen (host_of old hs) f.octets.items) ≡ None
        → MeetsFrame (host_of old hs) (clock_of old hs) isn.0 f.octets.items answer host' → new ≡ after_delivery hs (length trace) f.note old host' → IsOrderly limit hs ts new (trace ++ e ∷ [])
    of_sender f (inl c) not_ours timely second meets becomes = absurd (not_own hs (ap (λ s. same_side s hs) (sym c.0) ∙ not_ours))
    of_sender f (inr c) not_ours timely second meets becomes =
        opened f becomes
        (frame-arrived limit hs ts w.a w.b (host_of old hs) host' (table_of old ts) old w.bag trace (clock_of old hs) isn.0 (length trace) f answer w.is_limit (orderly-tallied limit hs ts old trace w) sound numbered w.projects c.1 timely second meets)

    of_frame : (o : Option Frame) → slice_get old.frames index ≡ o → unfair_frame old (written_at old) hs o ≡ None → DeliversFrame hs isn.0 (length trace) answer old new o → IsOrderly limit hs ts new (trace ++ e ∷ [])
    of_frame None at fair step = absurd step
    of_frame (Some f) at fair step =
        let both = fair_sender old hs f fair in
        of_sender f (All-at (Carried hs ts w.a w.b w.bag) old.frames index f w.carried at) both.0 both.1 both.2 step.0 step.1

-- every event
pub orderly-step : (limit : ℕ) (old new : WorldView) (happens : Event) (answer : Answer) → IsStep happens answer old new → IsOrderly limit A B old.network old.trace
    → IsOrderly limit A B new.network (old.trace ++ record { event = happens; answer = answer } ∷ [])
orderly-step limit old new (event.Call A c) answer step w = orderly-called limit A B old.network new.network old.trace c answer refl step.numbered step.sound_a step.fair step.network w
orderly-step limit old new (event.Call B c) answer step w =
    orderly-swapped limit B A new.network (old.trace ++ record { event = event.Call B c; answer = answer } ∷ []) (orderly-called limit B A old.network new.network old.trace c answer refl step.numbered step.sound_b step.fair step.network (orderly-swapped limit A B old.network old.trace w))
orderly-step limit old new (event.Tick A moment) answer step w = orderly-ticked limit A B old.network new.network old.trace moment answer refl step.network w
orderly-step limit old new (event.Tick B moment) answer step w =
    orderly-swapped limit B A new.network (old.trace ++ record { event = event.Tick B moment; answer = answer } ∷ []) (orderly-ticked limit B A old.network new.network old.trace moment answer refl step.network (orderly-swapped limit A B old.network old.trace w))
orderly-step limit old new (event.Emit A) answer step w = orderly-emitted limit A B old.network new.network old.trace answer refl step.sound_a step.network w
orderly-step limit old new (event.Emit B) answer step w =
    orderly-swapped limit B A new.network (old.trace ++ record { event = event.Emit B; answer = answer } ∷ []) (orderly-emitted limit B A old.network new.network old.trace answer refl step.sound_b step.network (orderly-swapped limit A B old.network old.trace w))
orderly-step limit old new (event.Deliver A index isn) answer step w = orderly-delivered limit A B old.network new.network old.trace index isn answer refl step.numbered step.sound_a (same_unfair old (event.Deliver A index isn) (orderly-tallied limit A B old.network old.trace w) ∙ step.fair) step.network w
orderly-step limit old new (event.Deliver B index isn) answer step w =
    orderly-swapped limit B A new.network (old.trace ++ record { event = event.Deliver B index isn; answer = answer } ∷ []) (orderly-delivered limit B A old.network new.network old.trace index isn answer refl step.numbered step.sound_b (same_unfair old (event.Deliver B index isn) (orderly-tallied limit A B old.network old.trace w) ∙ step.fair) step.network (orderly-swapped limit A B old.network old.trace w))

-- two hosts on which nothing happened
pub orderly-fresh : (limit : ℕ) (a b : ConfigView) → are_alike a b ≡ false → limit ≤ 2 ^ 30 → IsOrderly limit A B (fresh_network a b limit) []
orderly-fresh limit a b apart small = record {
  a = a.addr;
  b = b.addr;
  is_limit = refl;
  tallied = refl;
  bag = record { out = λ pair epoch. []; arrived = λ pair epoch. [] };
  projects = record {
    opposite = refl;
    back = refl;
    small = small;
    distinct = distinct;
    distinct_back = same_addr-other a.addr b.addr distinct;
    own_addr = refl;
    other_addr = refl;
    ledger = record { by_id = λ side id. tt; by_epoch = λ side pair epoch. tt; past = λ side pair epoch later. refl };
    own_table = record { sole = λ i. tt; bound = λ id r at. absurd (nothing r at); noted = λ id r at. absurd (nothing r at); later = λ id above. refl; silent = λ id none may. refl };
    other_table = record { sole = λ i. tt; bound = λ id r at. absurd (nothing r at); noted = λ id r at. absurd (nothing r at); later = λ id above. refl; silent = λ id none may. refl };
    talks = λ pair epoch. begins;
  };
  carried = tt;
}
  where
    distinct : same_addr a.addr b.addr ≡ false
    distinct = (or_parts (same_addr a.addr b.addr) (same_mac a.mac b.mac) apart).0

    nothing : (r : Role) → None ≡ Some r → ⊥
    nothing r at = cc

pub orderly : (limit : ℕ) (w : WorldView) → IsReached limit w → IsOrderly limit A B w.network w.trace
orderly limit _ (runs.begins a b a_is b_is apart small) = orderly-fresh limit a b apart small
orderly limit _ (runs.goes_on w v happens answer reached step) = subst (λ t. IsOrderly limit A B v.network t) (sym step.trace) (orderly-step limit w v happens answer step (orderly limit w reached))

-- What the trace tells of a pair in an epoch is what its end does.

closed-end : (side : Side) (trace : List Happening) (os : List Opening) (xs : List Entry) (pair : Pair) (epoch : ℕ) → closed trace os side pair epoch ≡ (end_at side os xs (told side trace) pair epoch).closed
closed-end side trace os xs pair epoch = by_found (find (is_opening_of side pair epoch) os)
  where
    by_found : (o : Option Opening) → of_opening false (λ o. closed_on side o.id trace) o ≡ (end_of xs (told side trace) o).closed
    by_found None = refl
    by_found (Some o) = refl

read-end : (side : Side) (trace : List Happening) (os : List Opening) (xs : List Entry) (pair : Pair) (epoch : ℕ) → read trace os side pair epoch ≡ (end_at side os xs (told side trace) pair epoch).read
read-end side trace os xs pair epoch = by_found (find (is_opening_of side pair epoch) os)
  where
    by_found : (o : Option Opening) → of_opening [] (λ o. read_on side o.id trace) o ≡ (end_of xs (told side trace) o).read
    by_found None = refl
    by_found (Some o) = refl

ended-end : (side : Side) (trace : List Happening) (os : List Opening) (xs : List Entry) (pair : Pair) (epoch : ℕ) → ended trace os side pair epoch ≡ (end_at side os xs (told side trace) pair epoch).ended
ended-end side trace os xs pair epoch = by_found (find (is_opening_of side pair epoch) os)
  where
    by_found : (o : Option Opening) → of_opening false (λ o. ended_on side o.id trace) o ≡ (end_of xs (told side trace) o).ended
    by_found None = refl
    by_found (Some o) = refl

-- the law of one pair in one epoch, where its two ends keep it
pub record Keeps (reader writer : Side) (trace : List Happening) (os : List Opening) (pair : Pair) (epoch : ℕ) : Type 0 where
  pub begins : Begins (read trace os reader pair epoch) (written trace os writer pair epoch)
  pub end : ended trace os reader pair epoch ≡ true → (closed trace os writer pair epoch ≡ true) × (read trace os reader pair epoch ≡ written trace os writer pair epoch)

keeps : (reader writer : Side) (trace : List Happening) (os : List Opening) (here there : List Entry) (pair : Pair) (epoch : ℕ)
    → IsStream (end_at reader os here (told reader trace) pair epoch) (end_at writer os there (told writer trace) pair epoch) → Keeps reader writer trace os pair epoch
keeps reader writer trace os here there pair epoch s = record {
  begins = subst (λ x. Begins x (written trace os writer pair epoch)) (sym (read-end reader trace os here pair epoch))
      (subst (λ x. Begins (end_at reader os here (told reader trace) pair epoch).read x) (sym (written-end writer trace os there pair epoch)) s.begins);
  end = λ e.
      let both = s.end (sym (ended-end reader trace os here pair epoch) ∙ e) in
      (closed-end writer trace os there pair epoch ∙ both.0, read-end reader trace os here pair epoch ∙ (both.1 ∙ sym (written-end writer trace os there pair epoch)));
}

-- the law of the stream, of every world that was reached
pub run_lawful : (limit : ℕ) (w : WorldView) → IsReached limit w → StreamLaw w.trace w.network.openings
run_lawful limit w reached = of_writer
  where
    o : IsOrderly limit A B w.network w.trace
    o = orderly limit w reached

    both : (pair : Pair) (epoch : ℕ) → IsStream (end_at A w.network.openings w.network.a.host.sockets.entries (told A w.trace) pair epoch) (end_at B w.network.openings w.network.b.host.sockets.entries (told B w.trace) pair epoch)
        × IsStream (end_at B w.network.openings w.network.b.host.sockets.entries (told B w.trace) pair epoch) (end_at A w.network.openings w.network.a.host.sockets.entries (told A w.trace) pair epoch)
    both pair epoch =
        let p = o.projects in
        pairing_lawful limit p.small (pairing (end_at A w.network.openings w.network.a.host.sockets.entries (told A w.trace) pair epoch) (end_at B w.network.openings w.network.b.host.sockets.entries (told B w.trace) pair epoch) (o.bag.out pair epoch) (o.bag.arrived pair epoch)) (meets limit _ (p.talks pair epoch))

    of_writer : StreamLaw w.trace w.network.openings
    of_writer A pair epoch = let k = keeps B A w.trace w.network.openings w.network.b.host.sockets.entries w.network.a.host.sockets.entries pair epoch (both pair epoch).1 in record { begins = k.begins; end = k.end }
    of_writer B pair epoch = let k = keeps A B w.trace w.network.openings w.network.a.host.sockets.entries w.network.b.host.sockets.entries pair epoch (both pair epoch).0 in record { begins = k.begins; end = k.end }

-- its counts are those of the trace
pub run_tallied : (limit : ℕ) (w : WorldView) → IsReached limit w → IsTallied w.network w.trace
run_tallied limit w reached = orderly-tallied limit A B w.network w.trace (orderly limit w reached)
