-- Which events of a round may want memory, and how much room those before its reads take up.
use Rattle.std.proofs.Common.{◌≡◌, ℕ, ◌+◌, ◌≤◌, inl, inr, true, false, List, [], ◌∷◌, ◌++◌, length, length-append, Result, Ok, Err, refl, ap, arith}
use Rattle.std.specs.Result.{IfOk, IfErr, OnErr}
use Rattle.sockets.specs.declared.entry.SocketId.{SocketId}
use Rattle.sides.specs.declared.side.Side.{Side}
use Rattle.sides.specs.Sides.{other_side}
use Rattle.wire_sim.specs.declared.event.Answer.{Answer}
use Rattle.wire_sim.specs.declared.event.Answer.TheVariants as answer
use Rattle.wire_sim.specs.declared.event.Call.TheVariants as call
use Rattle.wire_sim.specs.declared.event.Event.{Event}
use Rattle.wire_sim.specs.declared.event.Event.TheVariants as event
use Rattle.wire_sim.specs.declared.event.Unfair.{Unfair}
use Rattle.wire_sim.specs.declared.event.Unfair.TheVariants.{NoMemory}
use Rattle.wire_sim.specs.RoomyRuns.{MayWantMemory, IsStopped, most_before_reads, EveryRoundHasRoom, IsRoundWithRoom}
use Rattle.wire_sim.specs.Rounds.{isn_of_round, read_at_once, most_frames, minute_of, PassesMinute, Sends, Emits, IsBrought, Brings, Carries, IsRound, BeginsToCarry, emitting, bringing, IsBegun, at_minute_of_writer, at_minute_of_reader, at_bringing, at_answering, at_reading}
use Rattle.wire_sim.specs.Runs.{IsStep}
use Rattle.wire_sim.specs.Steps.{recv_len}
use Rattle.wire_sim.specs.WorldRoom.{ListRoom, RoomyWorld, HasRoomFor, IsPlain}
use Rattle.wire_sim.specs.WorldView.{WorldView}
use Rattle.wire_sim.proofs.runs.RoomLasts.{room-lasts, keeps-all}

-- Which events may want memory.

pub emission-wants : (side : Side) (old new : RoomyWorld) → MayWantMemory (event.Emit side) old new
emission-wants side old new = λ plain room. let bad : true ≡ false = plain.unsent in cc

pub receive-wants : (side : Side) (id : SocketId) (old new : RoomyWorld) → MayWantMemory (event.Call side (call.Recv id read_at_once)) old new
receive-wants side id old new = λ plain room. let none : recv_len read_at_once ≡ 0 = plain.unread in omega (arith, none)

-- How much room they take up.

-- no list is longer by more than so many elements
pub record IsLonger (most : ℕ) (old new : WorldView) : Type 0 where
  pub frames : length new.network.frames ≤ length old.network.frames + most
  pub openings : length new.network.openings ≤ length old.network.openings + most
  pub written : length new.network.written ≤ length old.network.written + most
  pub trace : length new.trace ≤ length old.trace + most

longer-still : (n m most : ℕ) (w v u : WorldView) → n + m ≤ most → IsLonger n w v → IsLonger m v u → IsLonger most w u
longer-still n m most w v u few first second = record {
  frames = omega (arith, few, first.frames, second.frames);
  openings = omega (arith, few, first.openings, second.openings);
  written = omega (arith, few, first.written, second.written);
  trace = omega (arith, few, first.trace, second.trace);
}

as-long : (w v : WorldView) → v ≡ w → IsLonger 0 w v
as-long w v same = record {
  frames = omega (arith, ap (λ (x : WorldView). length x.network.frames) same);
  openings = omega (arith, ap (λ (x : WorldView). length x.network.openings) same);
  written = omega (arith, ap (λ (x : WorldView). length x.network.written) same);
  trace = omega (arith, ap (λ (x : WorldView). length x.trace) same);
}

-- room for one element more in each list
abbrev one_more : WorldView → ListRoom
one_more w = record {
  network = record { frames = length w.network.frames + 1; openings = length w.network.openings + 1; written = length w.network.written + 1 };
  trace = length w.trace + 1;
}

by_step : (e : Event) (a : Answer) (w v : WorldView) → IsStep e a w v → IsLonger 1 w v
by_step e a w v step =
    let old : RoomyWorld = record { seen = w; room = one_more w } in
    let new : RoomyWorld = record { seen = v; room = one_more w } in
    let room : HasRoomFor (0 + 1) old = record { frames = omega arith; openings = omega arith; written = omega arith; trace = omega arith } in
    let left : HasRoomFor 0 new = room-lasts 0 e a old new room step (keeps-all (one_more w)) in
    record { frames = omega (arith, left.frames); openings = omega (arith, left.openings); written = omega (arith, left.written); trace = omega (arith, left.trace) }

by_frames : (side : Side) (frames : List ℕ) (w v : WorldView) → Sends side frames w v → IsLonger (length frames) w v
by_frames side [] w v sends = as-long w v sends
by_frames side (index ∷ rest) w v sends =
    longer-still 1 (length rest) (length (index ∷ rest)) w sends.1 v (omega arith) (by_step (event.Emit side) (answer.Frame index sends.0) w sends.1 sends.2) (by_frames side rest sends.1 v sends.3)

by_emission : (side : Side) (frames : List ℕ) (w v : WorldView) → Emits most_frames side frames w v → IsLonger 64 w v × (length frames ≤ 64)
by_emission side frames w v emits = elim emits.ends [
  | inl last ↦ (longer-still (length frames) 1 64 w emits.sent v (omega (arith, last.0)) (by_frames side frames w emits.sent emits.out) (by_step (event.Emit side) answer.NoFrame emits.sent v last.1), omega (arith, last.0))
  | inr all ↦ (longer-still (length frames) 0 64 w emits.sent v (omega (arith, all.0)) (by_frames side frames w emits.sent emits.out) (as-long emits.sent v all.1), omega (arith, all.0))
]

by_frame : (side : Side) (index : ℕ) (w v : WorldView) → IsBrought side index w v → IsLonger 1 w v
by_frame side index w v (inl told) = by_step (event.Deliver side index isn_of_round) told.0 w v told.1
by_frame side index w v (inr broken) = longer-still 0 0 1 w w v (omega arith) (as-long w w refl) (as-long w v broken.2)

by_bringing : (side : Side) (frames : List ℕ) (w v : WorldView) → Brings side frames w v → IsLonger (length frames) w v
by_bringing side [] w v brings = as-long w v brings
by_bringing side (index ∷ rest) w v brings =
    longer-still 1 (length rest) (length (index ∷ rest)) w brings.0 v (omega arith) (by_frame side index w brings.0 brings.1) (by_bringing side rest brings.0 v brings.2)

by_carrying : (side : Side) (w v : WorldView) → Carries side w v → IsLonger 128 w v
by_carrying side w v carries =
    let out = by_emission side carries.frames w carries.out carries.emission in
    longer-still 64 (length carries.frames) 128 w carries.out v (omega (arith, out.1)) out.0 (by_bringing (other_side side) carries.frames carries.out v carries.bringing)

by_minutes : (side : Side) (w m v : WorldView) → PassesMinute side w m → PassesMinute (other_side side) m v → IsLonger 2 w v
by_minutes side w m v first second = longer-still 1 1 2 w m v (omega arith) (by_step (minute_of side w) answer.Done w m first) (by_step (minute_of (other_side side) m) answer.Done m v second)

-- up to a delivery
by_beginning : (side : Side) (next : Event) (w v : WorldView) → BeginsToCarry side w next v → IsPlain next → IsLonger 127 w v
by_beginning side next w v (emitting frames new few sends) = λ plain. let bad : true ≡ false = plain.unsent in cc
by_beginning side next w v (bringing brought left index out new emits brings fair) = λ plain.
    let sent = by_emission side (brought ++ index ∷ left) w out emits in
    let one_less : length (brought ++ index ∷ left) ≡ length brought + length (index ∷ left) = length-append brought (index ∷ left) in
    longer-still 64 (length brought) 127 w out new (omega (arith, sent.1, one_less)) sent.0 (by_bringing (other_side side) brought out new brings)

-- up to a tick or a delivery
by_begun : (writer : Side) (id : SocketId) (w : WorldView) (next : Event) (v : WorldView) → IsBegun writer id w next v → IsPlain next → IsLonger 257 w v
by_begun writer id w next v at_minute_of_writer = λ plain. longer-still 0 0 257 w w w (omega arith) (as-long w w refl) (as-long w w refl)
by_begun writer id w next v (at_minute_of_reader later first) = λ plain. longer-still 1 0 257 w later later (omega arith) (by_step (minute_of writer w) answer.Done w later first) (as-long later later refl)
by_begun writer id w next v (at_bringing later ticked new following first second part) = λ plain.
    longer-still 2 127 257 w ticked new (omega arith) (by_minutes writer w later ticked first second) (by_beginning writer following ticked new part plain)
by_begun writer id w next v (at_answering later ticked brought new following first second there part) = λ plain.
    longer-still 130 127 257 w brought new (omega arith) (longer-still 2 128 130 w ticked brought (omega arith) (by_minutes writer w later ticked first second) (by_carrying writer ticked brought there))
    (by_beginning (other_side writer) following brought new part plain)
by_begun writer id w next v (at_reading later ticked brought answered new count first second there back part) = λ plain. let none : recv_len read_at_once ≡ 0 = plain.unread in absurd (omega (arith, none))

-- so the room for 258 events isn't used up by then
pub rounds-have-room : EveryRoundHasRoom
rounds-have-room writer id old new room stop = λ plain.
    let longer = by_begun writer id old.seen stop.next new.seen stop.begun plain in
    stop.memory plain (record {
      frames = omega (arith, room.frames, longer.frames);
      openings = omega (arith, room.openings, longer.openings);
      written = omega (arith, room.written, longer.written);
      trace = omega (arith, room.trace, longer.trace);
    })

-- what is told of one that there was room for up to its reads
pub told-with-room : (writer : Side) (id : SocketId) (r : Result ℕ Unfair) (old new : RoomyWorld) → HasRoomFor most_before_reads old → IfOk r (λ count. IsRound writer id count old.seen new.seen)
    → IfErr r (λ refusal. refusal ≡ NoMemory) → OnErr r (IsStopped writer id old new) → IsRoundWithRoom writer id r old.seen new.seen
told-with-room writer id (Ok count) old new room rounds refused stopped = rounds
told-with-room writer id (Err refusal) old new room rounds refused stopped = (refused, stopped.next, stopped.begun, rounds-have-room writer id old new room stopped)
