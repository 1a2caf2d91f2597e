-- A list of events that is given in turn to a world with its room: where memory may be wanted, and what room lasts for.
use Rattle.std.specs.Prelude.{◌≡◌, ℕ, ◌+◌, List, [], ◌∷◌, length, All, None, Result, Ok, Err, IsOk}
use Rattle.wire_sim.specs.declared.event.Event.{Event}
use Rattle.wire_sim.specs.declared.event.Answer.{Answer}
use Rattle.wire_sim.specs.declared.event.Unfair.{Unfair}
use Rattle.wire_sim.specs.declared.event.Unfair.TheVariants.{NoMemory}
use Rattle.sides.specs.declared.side.Side.{Side}
use Rattle.sockets.specs.declared.entry.SocketId.{SocketId}
use Rattle.wire_sim.specs.Rounds.{IsRound, IsBegun}
use Rattle.wire_sim.specs.Runs.{unfair, IsStep, SameEvent, IsOutcome, RunsTo}
use Rattle.wire_sim.specs.WorldRoom.{RoomyWorld, HasRoomFor, HasRoom, KeepsRoom, IsPlain, event_octets}
use Rattle.wire_sim.specs.WorldView.{WorldView}

-- What is told of an event that was given to a world: as of a world without its room, and no list has less room than it had. An event that breaks
-- no rule is taken where each list has room for one element more, but for one that wants octets of its own, or owns some of which a copy is made.
pub record IsRoomyOutcome (happens : Event) (told : Result Answer Unfair) (old new : RoomyWorld) : Type 0 where
  pub outcome : (given : Event) × SameEvent given happens × IsOutcome given told old.seen new.seen
  pub memory : unfair old.seen happens ≡ None → HasRoom old → IsPlain happens → event_octets happens ≡ None → IsOk told
  pub room : KeepsRoom old.room new.room

-- a list of events was given in turn, each with its outcome
abbrev pub RoomyRunsTo : List Event → List (Result Answer Unfair) → RoomyWorld → RoomyWorld → Type 0
RoomyRunsTo [] [] old new = new ≡ old
RoomyRunsTo (happens ∷ more) (outcome ∷ outcomes) old new = (between : RoomyWorld) × IsRoomyOutcome happens outcome old between × RoomyRunsTo more outcomes between new
RoomyRunsTo _ _ old new = ⊥

-- What is seen of such a run is one of worlds without their room.
abbrev pub EveryRoomyRunIsARun : Type 0
EveryRoomyRunIsARun = (events : List Event) (outcomes : List (Result Answer Unfair)) (old new : RoomyWorld) → RoomyRunsTo events outcomes old new → RunsTo events outcomes old.seen new.seen

-- A step takes up the room of one element in each list at most.
abbrev pub EveryStepLeavesRoom : Type 0
EveryStepLeavesRoom = (more : ℕ) (happens : Event) (answer : Answer) (old new : RoomyWorld) → HasRoomFor (more + 1) old → IsStep happens answer old.seen new.seen → KeepsRoom old.room new.room → HasRoomFor more new

-- A run takes up room for as many elements as it has events, at most.
abbrev pub EveryRunLeavesRoom : Type 0
EveryRunLeavesRoom = (more : ℕ) (events : List Event) (outcomes : List (Result Answer Unfair)) (old new : RoomyWorld) → HasRoomFor (length events + more) old → RoomyRunsTo events outcomes old new → HasRoomFor more new

-- the event wants no octets of its own and owns none
pub record IsBare (happens : Event) : Type 0 where
  pub plain : IsPlain happens
  pub owned : event_octets happens ≡ None

-- Where a world has room for a list of such events, none of them is refused for want of memory.
abbrev pub EveryBareRunHasRoom : Type 0
EveryBareRunHasRoom = (events : List Event) (outcomes : List (Result Answer Unfair)) (old new : RoomyWorld) → HasRoomFor (length events) old → All IsBare events → RoomyRunsTo events outcomes old new
    → All (λ (outcome : Result Answer Unfair). ¬ (outcome ≡ Err NoMemory)) outcomes

-- Where something began in the first of these worlds and stopped in the second for want of memory, the event that came next wants octets of its own, or one of
-- the lists is as long by then as it had room for at first.
abbrev pub MayWantMemory : Event → RoomyWorld → RoomyWorld → Type 0
MayWantMemory next old new = IsPlain next → ¬ HasRoom (record { seen = new.seen; room = old.room })

-- a round stopped for want of memory
pub record IsStopped (writer : Side) (reader_id : SocketId) (old new : RoomyWorld) : Type 0 where
  pub next : Event
  pub begun : IsBegun writer reader_id old.seen next new.seen
  pub memory : MayWantMemory next old new

-- how many events of a round come before its reads at most: two ticks, and 64 emissions of each side with as many deliveries
abbrev pub most_before_reads : ℕ
most_before_reads = 258

-- So one that begins with room for those stops for want of memory only at an emission or a receive.
abbrev pub EveryRoundHasRoom : Type 0
EveryRoundHasRoom = (writer : Side) (reader_id : SocketId) (old new : RoomyWorld) → HasRoomFor most_before_reads old → (stop : IsStopped writer reader_id old new) → ¬ IsPlain stop.next

-- what is told of one: how many octets were read in it, or that memory ran out on the way for an event that wants octets of its own
abbrev pub IsRoundWithRoom : Side → SocketId → Result ℕ Unfair → WorldView → WorldView → Type 0
IsRoundWithRoom writer reader_id (Ok count) old new = IsRound writer reader_id count old new
IsRoundWithRoom writer reader_id (Err refusal) old new = (refusal ≡ NoMemory) × (next : Event) × IsBegun writer reader_id old next new × ¬ IsPlain next
