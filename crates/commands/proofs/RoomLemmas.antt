-- What room of a world its events take up, and what comes of one that there is room for.
use Rattle.std.proofs.Common.{◌≡◌, ℕ, ◌+◌, ◌≤◌, [], ◌∷◌, None, Result, Err, refl, arith}
use Rattle.std.specs.Result.{IfErr, IfOk, IsOk, OnErr}
use Rattle.std.specs.Option.{MatchOption}
use Rattle.wire_sim.specs.declared.event.Event.{Event}
use Rattle.wire_sim.specs.declared.event.Answer.{Answer}
use Rattle.wire_sim.specs.declared.event.Unfair.{Unfair}
use Rattle.wire_sim.specs.declared.event.Unfair.TheVariants.{NoMemory}
use Rattle.wire_sim.specs.RoomyRuns.{IsRoomyOutcome}
use Rattle.wire_sim.specs.Runs.{unfair, IsStep}
use Rattle.wire_sim.specs.WorldRoom.{RoomyWorld, HasRoomFor, HasRoom, IsPlain, KeepsRoom}
use Rattle.wire_sim.specs.WorldView.{SameAnswer}
use Rattle.wire_sim.proofs.RunGiven.{same_event, step-outcome}
use Rattle.wire_sim.proofs.runs.RoomyRunsLast.{runs-leave}
use Rattle.commands.specs.Play.{ComesTo}
use Rattle.commands.specs.Room.{TakesUp}

-- room for more is room for fewer
pub room_for_fewer : (n m : ℕ) (w : RoomyWorld) → m ≤ n → HasRoomFor n w → HasRoomFor m w
room_for_fewer n m w fewer room = record {
  frames = omega (arith, room.frames, fewer);
  openings = omega (arith, room.openings, fewer);
  written = omega (arith, room.written, fewer);
  trace = omega (arith, room.trace, fewer);
}

-- no event takes up none
pub none_taken_up : (w : RoomyWorld) → TakesUp 0 w w
none_taken_up w = record { left = λ more room. room_for_fewer (0 + more) more w (omega arith) room }

-- what so few events take up, and then so few
pub more_taken_up : (n m most : ℕ) (w v u : RoomyWorld) → n + m ≤ most → TakesUp n w v → TakesUp m v u → TakesUp most w u
more_taken_up n m most w v u few first second = record {
  left = λ more room. second.left more (first.left (m + more) (room_for_fewer (most + more) (n + (m + more)) w (omega (arith, few)) room));
}

-- no more than so many
pub fewer_taken_up : (n most : ℕ) (w v : RoomyWorld) → n ≤ most → TakesUp n w v → TakesUp most w v
fewer_taken_up n most w v few up = record { left = λ more room. up.left more (room_for_fewer (most + more) (n + more) w (omega (arith, few)) room) }

-- what room is left of it
pub room_left : (all n left : ℕ) (w v : RoomyWorld) → n + left ≤ all → HasRoomFor all w → TakesUp n w v → HasRoomFor left v
room_left all n left w v few room up = up.left left (room_for_fewer all (n + left) w few room)

-- an event that there was room for
pub comes_to : (e : Event) (r : Result Answer Unfair) (old new : RoomyWorld) → HasRoom old →
    MatchOption (unfair old.seen e) (IfErr r (λ refusal. refusal ≡ NoMemory)) (λ refusal. r ≡ Err refusal) → OnErr r (new.seen ≡ old.seen) →
    IfOk r (λ told. (answer : Answer) × SameAnswer told answer × IsStep e answer old.seen new.seen) →
    (unfair old.seen e ≡ None → HasRoom old → IsPlain e → IsOk r) → ComesTo e r old.seen new.seen
comes_to e r old new room refused kept taken memory = record {
  outcome = step-outcome e r old.seen new.seen refused kept taken;
  memory = λ fair bare. memory fair room bare;
}

-- takes up that of one
pub one_taken_up : (e : Event) (r : Result Answer Unfair) (old new : RoomyWorld) →
    MatchOption (unfair old.seen e) (IfErr r (λ refusal. refusal ≡ NoMemory)) (λ refusal. r ≡ Err refusal) → OnErr r (new.seen ≡ old.seen) →
    IfOk r (λ told. (answer : Answer) × SameAnswer told answer × IsStep e answer old.seen new.seen) →
    (unfair old.seen e ≡ None → HasRoom old → IsPlain e → IsOk r) → KeepsRoom old.room new.room → TakesUp 1 old new
one_taken_up e r old new refused kept taken memory room =
    let one : IsRoomyOutcome e r old new = record {
      outcome = (e, same_event e, step-outcome e r old.seen new.seen refused kept taken);
      memory = λ fair has bare owned. memory fair has bare;
      room = room;
    } in
    record { left = λ more left. runs-leave more (e ∷ []) (r ∷ []) old new left (new, one, refl) }
