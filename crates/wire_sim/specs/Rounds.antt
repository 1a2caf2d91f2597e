-- A round without loss: a minute passes at both sides, what is due at the writer's goes to the other, what that answers goes back, and the other side
-- reads.
use Rattle.std.specs.Prelude.{◌≡◌, ◌⊎◌, ℕ, ◌+◌, ◌-◌, ◌^◌, ◌<◌, min, List, [], ◌∷◌, ◌++◌, length, None, Some, Result, Ok, Err}
use Rattle.std.specs.Global.{Vec}
use Rattle.tcp_segment.specs.declared.seq.Seq.{Seq}
use Rattle.clock.specs.declared.moment.Moment.{Moment}
use Rattle.sockets.specs.declared.entry.SocketId.{SocketId}
use Rattle.sides.specs.declared.side.Side.{Side}
use Rattle.sides.specs.Sides.{other_side}
use Rattle.wire_sim.specs.declared.event.Call.TheVariants as call
use Rattle.wire_sim.specs.declared.event.Event.{Event}
use Rattle.wire_sim.specs.declared.event.Event.TheVariants as event
use Rattle.wire_sim.specs.declared.event.Answer.{Answer}
use Rattle.wire_sim.specs.declared.event.Answer.TheVariants as answer
use Rattle.wire_sim.specs.declared.event.Unfair.{Unfair}
use Rattle.wire_sim.specs.declared.event.Unfair.TheVariants.{NoMemory}
use Rattle.wire_sim.specs.Runs.{unfair, IsStep, RunsTo}
use Rattle.wire_sim.specs.WorldView.{WorldView, clock_of}

-- the milliseconds that pass in a round
abbrev pub a_minute : ℕ
a_minute = 60000

-- how many frames of one side go out in a round at most
abbrev pub most_frames : ℕ
most_frames = 64

-- how many octets each receive of a round has room for
abbrev pub read_at_once : ℕ
read_at_once = 4096

-- the number that a connection begins with which a round opens
abbrev pub isn_of_round : Seq
isn_of_round = record { 0 = 0 }

-- the moment a minute later, or the last that 64 bits can tell
abbrev pub minute_past : Moment → Moment
minute_past now = record { 0 = min (now.0 + a_minute) (2 ^ 64 - 1) }

-- the tick by which a minute passes at a side
abbrev pub minute_of : Side → WorldView → Event
minute_of side w = event.Tick side (minute_past (clock_of w.network side))

-- a minute passes at a side
abbrev pub PassesMinute : Side → WorldView → WorldView → Type 0
PassesMinute side old new = IsStep (minute_of side old) answer.Done old new

-- these frames went out of a side in turn
abbrev pub Sends : Side → List ℕ → WorldView → WorldView → Type 0
Sends side [] old new = new ≡ old
Sends side (index ∷ rest) old new = (len : ℕ) × (w : WorldView) × IsStep (event.Emit side) (answer.Frame index len) old w × Sends side rest w new

-- a side emits until it has no frame, so many times at most, and these go out
pub record Emits (most : ℕ) (side : Side) (frames : List ℕ) (old new : WorldView) : Type 0 where
  pub sent : WorldView
  pub out : Sends side frames old sent
  pub ends : ((length frames < most) × IsStep (event.Emit side) answer.NoFrame sent new) ⊎ ((length frames ≡ most) × (new ≡ sent))

-- a frame comes to a side, whose host takes or drops it; or a rule refuses that, and the world is as it was
abbrev pub IsBrought : Side → ℕ → WorldView → WorldView → Type 0
IsBrought side index old new =
    ((told : Answer) × IsStep (event.Deliver side index isn_of_round) told old new)
    ⊎ ((refusal : Unfair) × (unfair old (event.Deliver side index isn_of_round) ≡ Some refusal) × (new ≡ old))

-- these frames come to it in order
abbrev pub Brings : Side → List ℕ → WorldView → WorldView → Type 0
Brings side [] old new = new ≡ old
Brings side (index ∷ rest) old new = (w : WorldView) × IsBrought side index old w × Brings side rest w new

-- all that is due at a side goes to the other
pub record Carries (side : Side) (old new : WorldView) : Type 0 where
  pub frames : List ℕ
  pub out : WorldView
  pub emission : Emits most_frames side frames old out
  pub bringing : Brings (other_side side) frames out new

-- receives of a side on a socket read so many octets together
pub data Receives (side : Side) (id : SocketId) : ℕ → WorldView → WorldView → Type 0 where
  none : (w : WorldView) → Receives side id 0 w w
  one_more : (count : ℕ) (octets : Vec ℕ) (old w new : WorldView) → Receives side id count old w →
      IsStep (event.Call side (call.Recv id read_at_once)) (answer.Octets octets) w new → Receives side id (count + length octets.items) old new

-- an answer by which a reader reads no more: it is refused, or the stream has ended
abbrev pub EndsReading : Answer → Type 0
EndsReading (answer.Refused refusal) = Unit {0}
EndsReading answer.EndOfStream = Unit {0}
EndsReading _ = ⊥

-- a side reads on a socket until it is refused or the stream ends: so many octets
pub record Reads (side : Side) (id : SocketId) (count : ℕ) (old new : WorldView) : Type 0 where
  pub read : WorldView
  pub octets : Receives side id count old read
  pub told : Answer
  pub last : EndsReading told
  pub ends : IsStep (event.Call side (call.Recv id read_at_once)) told read new

-- One round, in which the other side than the writer's reads so many octets.
pub record IsRound (writer : Side) (reader_id : SocketId) (count : ℕ) (old new : WorldView) : Type 0 where
  pub later : WorldView
  pub ticked : WorldView
  pub brought : WorldView
  pub answered : WorldView
  pub minute_of_writer : PassesMinute writer old later
  pub minute_of_reader : PassesMinute (other_side writer) later ticked
  pub bringing : Carries writer ticked brought
  pub answering : Carries (other_side writer) brought answered
  pub reading : Reads (other_side writer) reader_id count answered new

-- Beginnings, where memory ran out for the event that came next. Not all that is due went out; or it did, and the event is the delivery of a frame that no
-- rule keeps from the other side.
pub data BeginsToCarry (side : Side) (old : WorldView) : Event → WorldView → Type 0 where
  emitting : (frames : List ℕ) (new : WorldView) → length frames < most_frames → Sends side frames old new → BeginsToCarry side old (event.Emit side) new
  bringing : (brought left : List ℕ) (index : ℕ) (out new : WorldView) → Emits most_frames side (brought ++ index ∷ left) old out →
      Brings (other_side side) brought out new → unfair new (event.Deliver (other_side side) index isn_of_round) ≡ None →
      BeginsToCarry side old (event.Deliver (other_side side) index isn_of_round) new

-- the beginning of a round: the stages that are done, and the event at which it stopped
pub data IsBegun (writer : Side) (reader_id : SocketId) (old : WorldView) : Event → WorldView → Type 0 where
  at_minute_of_writer : IsBegun writer reader_id old (minute_of writer old) old
  at_minute_of_reader : (later : WorldView) → PassesMinute writer old later → IsBegun writer reader_id old (minute_of (other_side writer) later) later
  at_bringing : (later ticked new : WorldView) (next : Event) → PassesMinute writer old later → PassesMinute (other_side writer) later ticked →
      BeginsToCarry writer ticked next new → IsBegun writer reader_id old next new
  at_answering : (later ticked brought new : WorldView) (next : Event) → PassesMinute writer old later → PassesMinute (other_side writer) later ticked →
      Carries writer ticked brought → BeginsToCarry (other_side writer) brought next new → IsBegun writer reader_id old next new
  at_reading : (later ticked brought answered new : WorldView) (count : ℕ) → PassesMinute writer old later → PassesMinute (other_side writer) later ticked →
      Carries writer ticked brought → Carries (other_side writer) brought answered → Receives (other_side writer) reader_id count answered new →
      IsBegun writer reader_id old (event.Call (other_side writer) (call.Recv reader_id read_at_once)) new

-- what is told of a round: how many octets were read in it, or that memory ran out on the way
abbrev pub IsRoundOutcome : Side → SocketId → Result ℕ Unfair → WorldView → WorldView → Type 0
IsRoundOutcome writer reader_id (Ok count) old new = IsRound writer reader_id count old new
IsRoundOutcome writer reader_id (Err refusal) old new = (refusal ≡ NoMemory) × (next : Event) × IsBegun writer reader_id old next new

-- A round, and a beginning of one, is a list of events given in turn: what is so at each moment of a run is so at each moment within it.
abbrev pub EveryRoundIsARun : Type 0
EveryRoundIsARun = (writer : Side) (reader_id : SocketId) (told : Result ℕ Unfair) (old new : WorldView) → IsRoundOutcome writer reader_id told old new
    → (events : List Event) × (outcomes : List (Result Answer Unfair)) × RunsTo events outcomes old new
