-- Every run of a world: one fair event after another, in any order and of any kind, each answered by its host as the host's own
-- definitions say. A frame may be delivered never, once or often, in any order.
use Rattle.std.specs.Prelude.{◌≡◌, ℕ, ◌<◌, ◌≤◌, ◌^◌, false, List, [], ◌∷◌, ◌++◌, length, take, drop, Option, None, Some, ◌⊎◌, ◌↔◌, Result, Ok, Err}
use Rattle.ipv4.specs.declared.addr.Pair.{Pair}
use Rattle.sides.specs.declared.side.Side.{Side}
use Rattle.wire_sim.specs.declared.event.Call.{Call}
use Rattle.wire_sim.specs.declared.event.Call.TheVariants as call
use Rattle.wire_sim.specs.declared.event.Event.{Event}
use Rattle.wire_sim.specs.declared.event.Event.TheVariants as event
use Rattle.wire_sim.specs.declared.event.Answer.{Answer}
use Rattle.wire_sim.specs.declared.event.Unfair.{Unfair}
use Rattle.wire_sim.specs.declared.event.Unfair.TheVariants.{NoMemory}
use Rattle.sockets.specs.Sound.{IsEndpoint}
use Rattle.host.specs.ConfigView.{ConfigView, IsConfig}
use Rattle.host.specs.Sound.{IsSoundHost}
use Rattle.wire_sim.specs.Fairness.{Amount, unfair_event, IsFair}
use Rattle.wire_sim.specs.WorldView.{WorldView, SameAnswer, written_at, fresh_world, are_alike}
use Rattle.wire_sim.specs.Steps.{Steps}
use Rattle.wire_sim.specs.Trace.{written, StreamLaw}

-- what is handed in is of its width: an initial sequence number has 32 bits, an address 4 octets and a port 16 bits
abbrev pub IsNumberedCall : Call → Type 0
IsNumberedCall (call.Connect isn id peer) = isn.0 < 2 ^ 32
IsNumberedCall (call.Bind id local) = IsEndpoint local
IsNumberedCall (call.SendTo id peer octets) = IsEndpoint peer
IsNumberedCall _ = Unit {0}

abbrev pub IsNumbered : Event → Type 0
IsNumbered (event.Call side c) = IsNumberedCall c
IsNumbered (event.Deliver side index isn) = isn.0 < 2 ^ 32
IsNumbered _ = Unit {0}

-- how much was written at each side, read off the trace
abbrev pub written_len : WorldView → Amount
written_len w side pair epoch = length (written w.trace w.network.openings side pair epoch)

-- why an event is refused, but for want of memory
abbrev pub unfair : WorldView → Event → Option Unfair
unfair w happens = unfair_event w.network (written_len w) happens

-- by what the trace says, an event is fair exactly where none of the rules refuses it
abbrev pub FairIsUnrefused : Type 0
FairIsUnrefused = (w : WorldView) (happens : Event) → (unfair w happens ≡ None) ↔ IsFair w.network (written_len w) happens

-- one event that is fair, and its answer, in the trace
pub record IsStep (happens : Event) (answer : Answer) (old new : WorldView) : Type 0 where
  pub fair : unfair old happens ≡ None
  pub numbered : IsNumbered happens
  pub sound_a : IsSoundHost old.network.a.host
  pub sound_b : IsSoundHost old.network.b.host
  pub network : Steps happens (length old.trace) answer old.network new.network
  pub trace : new.trace ≡ old.trace ++ record { event = happens; answer = answer } ∷ []

-- what a world of two hosts of different addresses and MACs may come to, each set up as a host can be
pub data IsReached (limit : ℕ) : WorldView → Type 0 where
  begins : (a b : ConfigView) → IsConfig a → IsConfig b → are_alike a b ≡ false → limit ≤ 2 ^ 30 → IsReached limit (fresh_world a b limit)
  goes_on : (w v : WorldView) (happens : Event) (answer : Answer) → IsReached limit w → IsStep happens answer w v → IsReached limit v

-- the law of the stream, over every run
abbrev pub EveryRunIsLawful : Type 0
EveryRunIsLawful = (limit : ℕ) (w : WorldView) → IsReached limit w → StreamLaw w.trace w.network.openings

-- What is counted beside the openings is how much was written, read off the trace.
abbrev pub EveryRunIsTallied : Type 0
EveryRunIsTallied = (limit : ℕ) (w : WorldView) → IsReached limit w → (side : Side) (pair : Pair) (epoch : ℕ) → written_at w.network side pair epoch ≡ written_len w side pair epoch

-- the same call or event, whose octets may stand elsewhere in memory
abbrev pub SameCall : Call → Call → Type 0
SameCall (call.Send i octets) (call.Send j others) = (i ≡ j) × (octets.items ≡ others.items)
SameCall (call.SendTo i p octets) (call.SendTo j q others) = (i ≡ j) × (p ≡ q) × (octets.items ≡ others.items)
SameCall a b = a ≡ b

abbrev pub SameEvent : Event → Event → Type 0
SameEvent (event.Call s a) (event.Call t b) = (s ≡ t) × SameCall a b
SameEvent a b = a ≡ b

-- What is told of an event that was given to a world: it was taken with that answer, or the world is as it was and the event was refused: by
-- the first of the rules that it breaks, and for want of memory only where it breaks none.
abbrev pub IsOutcome : Event → Result Answer Unfair → WorldView → WorldView → Type 0
IsOutcome happens (Ok told) old new = (answer : Answer) × SameAnswer told answer × IsStep happens answer old new
IsOutcome happens (Err refusal) old new = (new ≡ old) × ((unfair old happens ≡ Some refusal) ⊎ ((unfair old happens ≡ None) × (refusal ≡ NoMemory)))

-- a list of events was given in turn, each with its outcome
abbrev pub RunsTo : List Event → List (Result Answer Unfair) → WorldView → WorldView → Type 0
RunsTo [] [] old new = new ≡ old
RunsTo (happens ∷ more) (outcome ∷ outcomes) old new =
    (given : Event) × (between : WorldView) × SameEvent given happens × IsOutcome given outcome old between × RunsTo more outcomes between new
RunsTo _ _ old new = ⊥

-- A list of events that is given to a world that was reached leads to one that was.
abbrev pub EveryRunIsReached : Type 0
EveryRunIsReached = (limit : ℕ) (events : List Event) (outcomes : List (Result Answer Unfair)) (old new : WorldView) → IsReached limit old → RunsTo events outcomes old new → IsReached limit new

-- After each of its events stands a world, between the events so far and those to come, that was reached and keeps the law of the stream.
abbrev pub EveryMomentIsLawful : Type 0
EveryMomentIsLawful = (limit : ℕ) (events : List Event) (outcomes : List (Result Answer Unfair)) (old new : WorldView) → IsReached limit old → RunsTo events outcomes old new → (count : ℕ)
    → (between : WorldView) × RunsTo (take count events) (take count outcomes) old between × RunsTo (drop count events) (drop count outcomes) between new × IsReached limit between × StreamLaw between.trace between.network.openings
