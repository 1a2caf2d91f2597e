-- A round is an exchange of its two hosts, and then reads of the reader.
use Rattle.std.proofs.Common.{◌≡◌, ◌⊎◌, inl, inr, ◌<◌, ℕ, List, [], ◌∷◌, ◌++◌, length, Some, None, is_some, Result, Ok, Err, refl, sym, ◌∙◌, ap, subst, arith}
use Rattle.std.specs.List.{slice_get}
use Rattle.clock.specs.declared.moment.Moment.{Moment}
use Rattle.frames.specs.declared.drop.DropCause.{DropCause}
use Rattle.sockets.specs.declared.entry.SocketId.{SocketId}
use Rattle.host.specs.Arrival.{IsDelivered}
use Rattle.host.specs.Emission.{after_emission, emission_len, emission_octets}
use Rattle.host.specs.HostView.{HostView}
use Rattle.host.specs.Sound.{IsSoundHost}
use Rattle.host.specs.Ticks.{after_tick}
use Rattle.round_law.specs.Exchange as law
use Rattle.round_law.specs.Exchange.{IsOut, AreOut, AreBrought, IsCarried, IsExchange, after_minute, isn_of_exchange}
use Rattle.sides.specs.declared.side.Side.{Side}
use Rattle.sides.specs.declared.side.Side.TheVariants.{A, B}
use Rattle.sides.specs.Sides.{other_side}
use Rattle.wire_sim.specs.declared.event.Answer.{Answer}
use Rattle.wire_sim.specs.declared.event.Answer.TheVariants as reply
use Rattle.wire_sim.specs.declared.event.Event.{Event}
use Rattle.wire_sim.specs.declared.event.Event.TheVariants as event
use Rattle.wire_sim.specs.declared.world.bag.Frame.{Frame}
use Rattle.wire_sim.specs.declared.world.station.Station.{Station}
use Rattle.wire_sim.specs.Exchanges.{EveryRoundIsAnExchange, hosts_from}
use Rattle.wire_sim.specs.Rounds.{isn_of_round, minute_past, most_frames, PassesMinute, Sends, Emits, IsBrought, Brings, Carries, Receives, none, one_more, Reads, IsRound}
use Rattle.wire_sim.specs.Runs.{IsReached, goes_on, IsStep}
use Rattle.wire_sim.specs.Steps.{with_host, station_after_tick, EmitsFrame, EmitsNothing, MeetsFrame, DeliversFrame}
use Rattle.wire_sim.specs.WorldView.{NetworkView, WorldView, station_of, host_of, table_of, clock_of}
use Rattle.wire_sim.proofs.HostsRun.{frames-stay, sound-at}
use Rattle.wire_sim.proofs.openings.HoldingsAreNoted.{other-stays}
use Rattle.wire_sim.proofs.openings.OpeningIsFound.{other-twice}
use Rattle.wire_sim.proofs.rounds.FramesInTime.{IsFresh, like-emitted, like-delivered, still-fresh, fresh-out, refused-opens}
use Rattle.wire_sim.proofs.runs.ClocksAreKept.{clocks-kept, hosts-kept}
use Rattle.wire_sim.proofs.runs.RunsAreLawful.{IsOrderly, orderly, own-again, own-with}

-- Both hosts of a world are sound: an event finds them so, and they are as they were where none is taken.

abbrev AreSound : WorldView → Type 0
AreSound w = (side : Side) → IsSoundHost (host_of w.network side)

sound-before : {happens : Event} {answer : Answer} (w v : WorldView) → IsStep happens answer w v → AreSound w
sound-before w v step = sound-at w v step

sends-sound : (side : Side) (frames : List ℕ) (w v : WorldView) → Sends side frames w v → AreSound v → AreSound w
sends-sound side [] w v sends sound = subst AreSound sends sound
sends-sound side (index ∷ rest) w v sends sound = sound-before w sends.1 sends.2

emits-sound : (side : Side) (frames : List ℕ) (w v : WorldView) → Emits most_frames side frames w v → AreSound w
emits-sound side frames w v emits = elim emits.ends [
  | inl last ↦ sends-sound side frames w emits.sent emits.out (sound-before emits.sent v last.1)
  | inr all ↦ by_frames frames all.0 emits.out
]
  where
    by_frames : (fs : List ℕ) → length fs ≡ most_frames → Sends side fs w emits.sent → AreSound w
    by_frames [] many sends = cc
    by_frames (index ∷ rest) many sends = sound-before w sends.1 sends.2

frame-sound : (side : Side) (index : ℕ) (w v : WorldView) → IsBrought side index w v → AreSound v → AreSound w
frame-sound side index w v (inl told) sound = sound-before w v told.1
frame-sound side index w v (inr broken) sound = subst AreSound broken.2 sound

brings-sound : (side : Side) (frames : List ℕ) (w v : WorldView) → Brings side frames w v → AreSound v → AreSound w
brings-sound side [] w v brings sound = subst AreSound brings sound
brings-sound side (index ∷ rest) w v brings sound = frame-sound side index w brings.0 brings.1 (brings-sound side rest brings.0 v brings.2 sound)

receives-sound : (side : Side) (id : SocketId) (count : ℕ) (w v : WorldView) → Receives side id count w v → AreSound v → AreSound w
receives-sound side id count w v (none x) sound = sound
receives-sound side id count w v (one_more n octets old m new so_far step) sound = receives-sound side id n old m so_far (sound-before m new step)

reads-sound : (side : Side) (id : SocketId) (count : ℕ) (w v : WorldView) → Reads side id count w v → AreSound w
reads-sound side id count w v reads = receives-sound side id count w reads.read reads.octets (sound-before reads.read v reads.ends)

-- A minute.

-- the host of the side whose minute passes
minute-host : (limit : ℕ) (w v : WorldView) → IsReached limit w → (side : Side) → PassesMinute side w v → host_of v.network side ≡ after_minute (host_of w.network side)
minute-host limit w v run side step =
    ap (λ (n : NetworkView). host_of n side) step.network.1
    ∙ (own-with w.network side (station_after_tick (station_of w.network side) (minute_past (clock_of w.network side)))
    ∙ ap (λ (m : Moment). after_tick (host_of w.network side) (minute_past m)) (clocks-kept limit w run side))

-- the host of the other side
minute-other : (w v : WorldView) (side other : Side) → other ≡ other_side side → PassesMinute side w v → host_of v.network other ≡ host_of w.network other
minute-other w v side other opposite step = other-stays (event.Tick side (minute_past (clock_of w.network side))) (length w.trace) reply.Done w.network v.network other opposite step.network

-- Frames that go out.

out-once : (limit : ℕ) (w v : WorldView) → IsReached limit w → (side : Side) (index len : ℕ) → IsStep (event.Emit side) (reply.Frame index len) w v
    → IsOut (emission_octets (host_of w.network side) (clock_of w.network side)) (host_of w.network side) (host_of v.network side)
out-once limit w v run side index len step = record {
  kept = hosts-kept limit w run side (sound-at w v step side);
  some = ap (λ (m : Moment). is_some (emission_len h m)) (sym kept) ∙ ap is_some emits.due;
  octets_of = ap (emission_octets h) kept;
  left = goes ∙ ap (after_emission h) kept;
}
  where
    n : NetworkView
    n = w.network

    h : HostView
    h = host_of n side

    emits : EmitsFrame side index len n v.network
    emits = step.network

    kept : clock_of n side ≡ (let t = table_of n side in t.kept)
    kept = clocks-kept limit w run side

    next : HostView
    next = after_emission h (clock_of n side)

    goes : host_of v.network side ≡ next
    goes =
        let x : Station = let t = station_of n side in record t { host = next } in
        let all : NetworkView = record (with_host n side next) { frames = n.frames ++ emits.frame ∷ [] } in
        ap (λ (k : NetworkView). host_of k side) emits.after ∙ (own-again (with_host n side next) all side refl refl ∙ own-with n side x)

-- each of these went out with these octets, and is in time
abbrev AreFresh : Side → NetworkView → List ℕ → List (List ℕ) → Type 0
AreFresh side n [] [] = Unit {0}
AreFresh side n (index ∷ frames) (octets ∷ rest) = IsFresh side n index octets × AreFresh side n frames rest
AreFresh side n _ _ = ⊥

-- as long as frames go out
fresh-still : (limit : ℕ) (side : Side) (frames : List ℕ) (w v : WorldView) → Sends side frames w v → (index : ℕ) (octets : List ℕ) → IsFresh side w.network index octets → IsFresh side v.network index octets
fresh-still limit side [] w v sends index octets fresh = subst (λ (x : WorldView). IsFresh side x.network index octets) (sym sends) fresh
fresh-still limit side (i ∷ rest) w v sends index octets fresh =
    let step = sends.2 in
    let m = sends.1 in
    fresh-still limit side rest m v sends.3 index octets
    (still-fresh side w.network m.network index octets (like-emitted side i sends.0 w.network m.network step.network) (frames-stay (event.Emit side) (length w.trace) (reply.Frame i sends.0) w.network m.network step.network) fresh)

record Went (limit : ℕ) (side : Side) (frames : List ℕ) (w v : WorldView) : Type 0 where
  octets : List (List ℕ)
  many : length octets ≡ length frames
  out : AreOut octets (host_of w.network side) (host_of v.network side)
  fresh : AreFresh side v.network frames octets
  reached : IsReached limit v
  other : host_of v.network (other_side side) ≡ host_of w.network (other_side side)

within-limit : (limit : ℕ) (w : WorldView) → IsReached limit w → 0 < limit → (let n = w.network in 0 < n.limit)
within-limit limit w run some = let o : IsOrderly limit A B w.network w.trace = orderly limit w run in let is = o.is_limit in omega (arith, is, some)

all-out : (limit : ℕ) (side : Side) (frames : List ℕ) (w v : WorldView) → 0 < limit → IsReached limit w → Sends side frames w v → Went limit side frames w v
all-out limit side [] w v some run sends = record {
  octets = [];
  many = refl;
  out = ap (λ (x : WorldView). host_of x.network side) sends;
  fresh = tt;
  reached = subst (IsReached limit) (sym sends) run;
  other = ap (λ (x : WorldView). host_of x.network (other_side side)) sends;
}
all-out limit side (index ∷ rest) w v some run sends =
    let m : WorldView = sends.1 in
    let step : IsStep (event.Emit side) (reply.Frame index sends.0) w m = sends.2 in
    let more : Went limit side rest m v = all-out limit side rest m v some (goes_on w m (event.Emit side) (reply.Frame index sends.0) run step) sends.3 in
    let octets : List ℕ = emission_octets (host_of w.network side) (clock_of w.network side) in
    record {
      octets = octets ∷ more.octets;
      many = (let rest_many = more.many in omega (arith, rest_many));
      out = (host_of m.network side, out-once limit w m run side index sends.0 step, more.out);
      fresh = (fresh-still limit side rest m v sends.3 index octets (fresh-out side index sends.0 w.network m.network (within-limit limit w run some) step.network), more.fresh);
      reached = more.reached;
      other = more.other ∙ other-stays (event.Emit side) (length w.trace) (reply.Frame index sends.0) w.network m.network (other_side side) refl step.network;
    }

-- none is left, or as many as may went out
abbrev Ends : Side → List (List ℕ) → WorldView → Type 0
Ends side octets v = ((length octets < law.most_frames) × (let h = host_of v.network side in emission_len h h.sockets.kept ≡ None)) ⊎ (length octets ≡ law.most_frames)

record Emitted (limit : ℕ) (side : Side) (frames : List ℕ) (w v : WorldView) : Type 0 where
  went : Went limit side frames w v
  ends : Ends side went.octets v

all-emitted : (limit : ℕ) (side : Side) (frames : List ℕ) (w v : WorldView) → 0 < limit → IsReached limit w → Emits most_frames side frames w v → Emitted limit side frames w v
all-emitted limit side frames w v some run emits = elim emits.ends [
  | inl last ↦
      let nothing : EmitsNothing side m.network v.network = last.1.network in
      let count = went.many in
      record {
        went = on_same v nothing.after (goes_on m v (event.Emit side) reply.NoFrame went.reached last.1);
        ends = inl (
          omega (arith, count, last.0),
          subst (λ (n : NetworkView). let h = host_of n side in emission_len h h.sockets.kept ≡ None) (sym nothing.after)
              (subst (λ (at : Moment). emission_len (host_of m.network side) at ≡ None) (clocks-kept limit m went.reached side) nothing.due),
        );
      }
  | inr all ↦ let count = went.many in record { went = on_same v (ap (λ (x : WorldView). x.network) all.1) (subst (IsReached limit) (sym all.1) went.reached); ends = inr (count ∙ all.0) }
]
  where
    m : WorldView
    m = emits.sent

    went : Went limit side frames w m
    went = all-out limit side frames w m some run emits.out

    on_same : (v : WorldView) → v.network ≡ m.network → IsReached limit v → Went limit side frames w v
    on_same v same reached = record {
      octets = went.octets;
      many = went.many;
      out = subst (λ (n : NetworkView). AreOut went.octets (host_of w.network side) (host_of n side)) (sym same) went.out;
      fresh = subst (λ (n : NetworkView). AreFresh side n frames went.octets) (sym same) went.fresh;
      reached = reached;
      other = ap (λ (n : NetworkView). host_of n (other_side side)) same ∙ went.other;
    }

-- Frames that come.

-- a frame is taken or dropped, at the kept moment
arrives-once : (limit : ℕ) (w v : WorldView) → IsReached limit w → (to : Side) (index : ℕ) (f : Frame) (octets : List ℕ) (told : Answer) → slice_get w.network.frames index ≡ Some f → f.octets.items ≡ octets
    → IsStep (event.Deliver to index isn_of_round) told w v
    → (answer : Result (Unit {0}) DropCause) × (let h = host_of w.network to in IsDelivered h h.sockets.kept isn_of_exchange octets answer (host_of v.network to))
arrives-once limit w v run to index f octets told there carries step =
    let meets : DeliversFrame to 0 (length w.trace) told w.network v.network (Some f) = subst (DeliversFrame to 0 (length w.trace) told w.network v.network) there step.network in
    by_answer told (subst (λ (os : List ℕ). MeetsFrame h h.sockets.kept 0 os told (host_of v.network to)) carries (subst (λ (at : Moment). MeetsFrame h at 0 f.octets.items told (host_of v.network to)) (clocks-kept limit w run to) meets.0))
  where
    h : HostView
    h = host_of w.network to

    by_answer : (told : Answer) → MeetsFrame h h.sockets.kept 0 octets told (host_of v.network to) → (answer : Result (Unit {0}) DropCause) × IsDelivered h h.sockets.kept isn_of_exchange octets answer (host_of v.network to)
    by_answer reply.Taken meets = (Ok tt, meets)
    by_answer (reply.Dropped cause) meets = (Err cause, meets)
    by_answer _ meets = absurd meets

-- one frame, and what is left of a world by it
record Came (limit : ℕ) (side : Side) (octets : List ℕ) (w v : WorldView) : Type 0 where
  brought : law.IsBrought octets (host_of w.network (other_side side)) (host_of v.network (other_side side))
  own : host_of v.network side ≡ host_of w.network side
  reached : IsReached limit v
  still : (i : ℕ) (os : List ℕ) → IsFresh side w.network i os → IsFresh side v.network i os

comes : (limit : ℕ) (side : Side) (index : ℕ) (octets : List ℕ) (w v : WorldView) → IsReached limit w → AreSound w → IsFresh side w.network index octets → IsBrought (other_side side) index w v → Came limit side octets w v
comes limit side index octets w v run sound fresh (inl told) =
    let to = other_side side in
    let step : IsStep (event.Deliver to index isn_of_round) told.0 w v = told.1 in
    record {
      brought = (hosts-kept limit w run to (sound to), inl (arrives-once limit w v run to index fresh.frame octets told.0 fresh.there fresh.carries step));
      own = other-stays (event.Deliver to index isn_of_round) (length w.trace) told.0 w.network v.network side (other-twice side) step.network;
      reached = goes_on w v (event.Deliver to index isn_of_round) told.0 run step;
      still = λ i os at. still-fresh side w.network v.network i os (like-delivered limit w run to 0 (length w.trace) told.0 v.network (slice_get w.network.frames index) step.network)
          (frames-stay (event.Deliver to index isn_of_round) (length w.trace) told.0 w.network v.network step.network) at;
    }
comes limit side index octets w v run sound fresh (inr broken) =
    let to = other_side side in
    let opens = refused-opens limit w run side index octets broken.0 fresh broken.1 in
    record {
      brought = (hosts-kept limit w run to (sound to), inr (opens.0, opens.1, ap (λ (x : WorldView). host_of x.network to) broken.2));
      own = ap (λ (x : WorldView). host_of x.network side) broken.2;
      reached = subst (IsReached limit) (sym broken.2) run;
      still = λ i os at. subst (λ (x : WorldView). IsFresh side x.network i os) (sym broken.2) at;
    }

-- all of them
record AllCame (limit : ℕ) (side : Side) (octets : List (List ℕ)) (w v : WorldView) : Type 0 where
  brought : AreBrought octets (host_of w.network (other_side side)) (host_of v.network (other_side side))
  own : host_of v.network side ≡ host_of w.network side
  reached : IsReached limit v

each-fresh : (side : Side) (n m : NetworkView) → ((i : ℕ) (os : List ℕ) → IsFresh side n i os → IsFresh side m i os) → (frames : List ℕ) (octets : List (List ℕ)) → AreFresh side n frames octets → AreFresh side m frames octets
each-fresh side n m still [] [] all = tt
each-fresh side n m still (i ∷ is) (os ∷ rest) all = (still i os all.0, each-fresh side n m still is rest all.1)
each-fresh side n m still [] (os ∷ rest) all = absurd all
each-fresh side n m still (i ∷ is) [] all = absurd all

all-come : (limit : ℕ) (side : Side) (frames : List ℕ) (octets : List (List ℕ)) (w v : WorldView) → IsReached limit w → AreFresh side w.network frames octets → Brings (other_side side) frames w v → AreSound v → AllCame limit side octets w v
all-come limit side [] [] w v run fresh brings sound = record {
  brought = ap (λ (x : WorldView). host_of x.network (other_side side)) brings;
  own = ap (λ (x : WorldView). host_of x.network side) brings;
  reached = subst (IsReached limit) (sym brings) run;
}
all-come limit side [] (os ∷ rest) w v run fresh brings sound = absurd fresh
all-come limit side (i ∷ is) [] w v run fresh brings sound = absurd fresh
all-come limit side (i ∷ is) (os ∷ rest) w v run fresh brings sound =
    let m : WorldView = brings.0 in
    let later : AreSound m = brings-sound (other_side side) is m v brings.2 sound in
    let one : Came limit side os w m = comes limit side i os w m run (frame-sound (other_side side) i w m brings.1 later) fresh.0 brings.1 in
    let more : AllCame limit side rest m v = all-come limit side is rest m v one.reached (each-fresh side w.network m.network one.still is rest fresh.1) brings.2 sound in
    record { brought = (host_of m.network (other_side side), one.brought, more.brought); own = more.own ∙ one.own; reached = more.reached }

-- All that is due at a side.

record HasCarried (limit : ℕ) (side : Side) (w v : WorldView) : Type 0 where
  carried : IsCarried (host_of w.network side) (host_of w.network (other_side side)) (host_of v.network side) (host_of v.network (other_side side))
  reached : IsReached limit v

carries : (limit : ℕ) (side : Side) (w v : WorldView) → 0 < limit → IsReached limit w → AreSound v → Carries side w v → HasCarried limit side w v
carries limit side w v some run sound c =
    let m : WorldView = c.out in
    let emitted : Emitted limit side c.frames w m = all-emitted limit side c.frames w m some run c.emission in
    let went : Went limit side c.frames w m = emitted.went in
    let came : AllCame limit side went.octets m v = all-come limit side c.frames went.octets m v went.reached went.fresh c.bringing sound in
    record {
      carried = record {
        kept = hosts-kept limit w run side (emits-sound side c.frames w m c.emission side);
        frames = went.octets;
        out = subst (AreOut went.octets (host_of w.network side)) (sym came.own) went.out;
        ends = subst (λ (h : HostView). ((length went.octets < law.most_frames) × (emission_len h h.sockets.kept ≡ None)) ⊎ (length went.octets ≡ law.most_frames)) (sym came.own) emitted.ends;
        brought = subst (λ (h : HostView). AreBrought went.octets h (host_of v.network (other_side side))) went.other came.brought;
      };
      reached = came.reached;
    }

-- The whole round.

pub round-exchange : (limit : ℕ) (writer : Side) (reader_id : SocketId) (count : ℕ) (old new : WorldView) → 0 < limit → IsReached limit old → (round : IsRound writer reader_id count old new)
    → IsReached limit round.answered × IsExchange (hosts_from writer old) (hosts_from writer round.answered)
round-exchange limit writer reader_id count old new some run round = (second.reached, record { between = hosts_from writer round.brought; bringing = bringing; answering = answering })
  where
    reader : Side
    reader = other_side writer

    later_reached : IsReached limit round.later
    later_reached = goes_on old round.later _ _ run round.minute_of_writer

    ticked_reached : IsReached limit round.ticked
    ticked_reached = goes_on round.later round.ticked _ _ later_reached round.minute_of_reader

    there : Carries (other_side writer) round.brought round.answered
    there = round.answering

    first : HasCarried limit writer round.ticked round.brought
    first = carries limit writer round.ticked round.brought some ticked_reached (emits-sound reader there.frames round.brought there.out there.emission) round.bringing

    second : HasCarried limit reader round.brought round.answered
    second = carries limit reader round.brought round.answered some first.reached (reads-sound reader reader_id count round.answered new round.reading) round.answering

    of_writer : host_of round.ticked.network writer ≡ after_minute (host_of old.network writer)
    of_writer =
        minute-other round.later round.ticked reader writer (other-twice writer) round.minute_of_reader
        ∙ minute-host limit old round.later run writer round.minute_of_writer

    of_reader : host_of round.ticked.network reader ≡ after_minute (host_of old.network reader)
    of_reader =
        minute-host limit round.later round.ticked later_reached reader round.minute_of_reader
        ∙ ap after_minute (minute-other old round.later writer reader refl round.minute_of_writer)

    bringing : IsCarried (after_minute (host_of old.network writer)) (after_minute (host_of old.network reader)) (host_of round.brought.network writer) (host_of round.brought.network reader)
    bringing =
        subst (λ (h : HostView). IsCarried h (after_minute (host_of old.network reader)) (host_of round.brought.network writer) (host_of round.brought.network reader)) of_writer
        (subst (λ (h : HostView). IsCarried (host_of round.ticked.network writer) h (host_of round.brought.network writer) (host_of round.brought.network reader)) of_reader first.carried)

    answering : IsCarried (host_of round.brought.network reader) (host_of round.brought.network writer) (host_of round.answered.network reader) (host_of round.answered.network writer)
    answering =
        subst (λ (s : Side). IsCarried (host_of round.brought.network reader) (host_of round.brought.network s) (host_of round.answered.network reader) (host_of round.answered.network s)) (sym (other-twice writer)) second.carried

pub rounds-exchange : EveryRoundIsAnExchange
rounds-exchange limit writer reader_id count old new some run round =
    let both = round-exchange limit writer reader_id count old new some run round in
    (round.answered, both.0, both.1, round.reading)
