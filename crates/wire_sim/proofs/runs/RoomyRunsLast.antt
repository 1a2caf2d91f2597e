-- A list of events that is given to a world with its room takes up room for one element of each list an event, and no more.
use Rattle.std.proofs.Common.{◌≡◌, ℕ, ◌+◌, inl, inr, Bool, true, false, not, if◌then◌else◌, [], ◌∷◌, length, Option, Some, None, Result, Ok, Err, sym, ◌∙◌, ap, subst, arith}
use Rattle.std.specs.List.{slice_get}
use Rattle.std.specs.Option.{option_or}
use Rattle.std.specs.Result.{IsOk}
use Rattle.std.proofs.lemmas.List.Elements.{All-nil, All-cons, All-head, All-tail}
use Rattle.wire_sim.specs.declared.event.Answer.{Answer}
use Rattle.wire_sim.specs.declared.event.Call.{Call}
use Rattle.wire_sim.specs.declared.event.Call.TheVariants as call
use Rattle.wire_sim.specs.declared.event.Event.{Event}
use Rattle.wire_sim.specs.declared.event.Event.TheVariants as event
use Rattle.wire_sim.specs.declared.event.Unfair.{Unfair}
use Rattle.wire_sim.specs.declared.event.Unfair.TheVariants.{NoSuchFrame, OtherEpoch, Stale, SecondOpening, NoMemory}
use Rattle.wire_sim.specs.declared.world.bag.Frame.{Frame}
use Rattle.wire_sim.specs.declared.world.bag.Note.{Note}
use Rattle.ipv4.specs.declared.addr.Pair.{Pair}
use Rattle.sides.specs.declared.side.Side.{Side}
use Rattle.wire_sim.specs.Fairness.{Amount, late_note, second_by_frame, second_by_connect, unfair_frame, unfair_event}
use Rattle.wire_sim.specs.RoomyRuns.{IsRoomyOutcome, EveryRoomyRunIsARun, EveryRunLeavesRoom, IsBare, EveryBareRunHasRoom}
use Rattle.wire_sim.specs.Runs.{unfair, written_len, SameCall, SameEvent}
use Rattle.wire_sim.specs.WorldRoom.{RoomyWorld, HasRoomFor, KeepsRoom, event_octets}
use Rattle.wire_sim.specs.WorldView.{NetworkView, WorldView}
use Rattle.wire_sim.proofs.runs.RoomLasts.{room-lasts}

-- what is seen of it is a run
pub runs-seen : EveryRoomyRunIsARun
runs-seen [] [] old new run = ap (λ (w : RoomyWorld). w.seen) run
runs-seen [] (o ∷ os) old new run = absurd run
runs-seen (e ∷ es) [] old new run = absurd run
runs-seen (e ∷ es) (o ∷ os) old new run = let told = run.1.outcome in (told.0, run.0.seen, told.1, told.2, runs-seen es os run.0 new run.2)

-- room for as many
for_as_many : (n m : ℕ) (w : RoomyWorld) → n ≡ m → HasRoomFor n w → HasRoomFor m w
for_as_many n m w same room = subst (λ k. HasRoomFor k w) same room

-- the room of a world that is as it was
kept-lasts : (more : ℕ) (old new : RoomyWorld) → new.seen ≡ old.seen → HasRoomFor (more + 1) old → KeepsRoom old.room new.room → HasRoomFor more new
kept-lasts more old new same room kept = record {
  frames = omega (arith, room.frames, ap (λ (w : WorldView). length w.network.frames) same, kept.network.frames);
  openings = omega (arith, room.openings, ap (λ (w : WorldView). length w.network.openings) same, kept.network.openings);
  written = omega (arith, room.written, ap (λ (w : WorldView). length w.network.written) same, kept.network.written);
  trace = omega (arith, room.trace, ap (λ (w : WorldView). length w.trace) same, kept.trace);
}

-- one event
outcome-leaves : (more : ℕ) (e : Event) (told : Result Answer Unfair) (old new : RoomyWorld) → HasRoomFor (more + 1) old → IsRoomyOutcome e told old new → HasRoomFor more new
outcome-leaves more e (Ok told) old new room o = let given = o.outcome in room-lasts more given.0 given.2.0 old new room given.2.2 o.room
outcome-leaves more e (Err refusal) old new room o = let given = o.outcome in kept-lasts more old new given.2.0 room o.room

-- all of them
pub runs-leave : EveryRunLeavesRoom
runs-leave more [] [] old new room run = subst (HasRoomFor more) (sym run) (for_as_many (length {A = Event} [] + more) more old (omega arith) room)
runs-leave more [] (o ∷ os) old new room run = absurd run
runs-leave more (e ∷ es) [] old new room run = absurd run
runs-leave more (e ∷ es) (o ∷ os) old new room run =
    runs-leave more es os run.0 new (outcome-leaves (length es + more) e o old run.0 (for_as_many (length (e ∷ es) + more) (length es + more + 1) old (omega arith) room) run.1) run.2

-- no rule names want of memory

by_second : (b : Bool) → ◌≡◌ {A = Option Unfair} (if b then Some SecondOpening else None) (Some NoMemory) → ⊥
by_second true is = cc
by_second false is = cc

by_note : (risen late : Bool) → ◌≡◌ {A = Option Unfair} (if not risen then Some OtherEpoch else if late then Some Stale else None) (Some NoMemory) → ⊥
by_note true true is = cc
by_note true false is = cc
by_note false late is = cc

by_either : (a b : Option Unfair) → (a ≡ Some NoMemory → ⊥) → (b ≡ Some NoMemory → ⊥) → option_or a b ≡ Some NoMemory → ⊥
by_either None b not_a not_b is = not_b is
by_either (Some u) b not_a not_b is = not_a is

late-names : (n : NetworkView) (now : Amount) (o : Option Note) → late_note n now o ≡ Some NoMemory → ⊥
late-names n now None is = cc
late-names n now (Some note) is = by_note _ _ is

frame-names : (n : NetworkView) (side : Side) (p : Option Pair) → second_by_frame n side p ≡ Some NoMemory → ⊥
frame-names n side None is = cc
frame-names n side (Some pair) is = by_second _ is

connect-names : (n : NetworkView) (side : Side) (p : Option Pair) → second_by_connect n side p ≡ Some NoMemory → ⊥
connect-names n side None is = cc
connect-names n side (Some pair) is = by_second _ is

rules-name : (n : NetworkView) (now : Amount) (e : Event) → unfair_event n now e ≡ Some NoMemory → ⊥
rules-name n now (event.Deliver side index isn) is = by_frame (slice_get n.frames index) is
  where
    by_sender : (b : Bool) (u : Option Unfair) → (u ≡ Some NoMemory → ⊥) → ◌≡◌ {A = Option Unfair} (if b then Some NoSuchFrame else u) (Some NoMemory) → ⊥
    by_sender true u not_u is = cc
    by_sender false u not_u is = not_u is

    by_frame : (o : Option Frame) → unfair_frame n now side o ≡ Some NoMemory → ⊥
    by_frame None is = cc
    by_frame (Some f) is = by_sender _ _ (by_either _ _ (late-names n now f.note) (frame-names n side _)) is
rules-name n now (event.Call side (call.Connect isn id peer)) is = connect-names n side _ is
rules-name n now (event.Call side c) is = cc
rules-name n now (event.Tick side moment) is = cc
rules-name n now (event.Emit side) is = cc

-- the very event, where it owns no octets

same-call : (side : Side) (a b : Call) → SameCall a b → event_octets (event.Call side b) ≡ None → a ≡ b
same-call side (call.Send i octets) (call.Send j others) same none = cc
same-call side (call.SendTo i p octets) (call.SendTo j q others) same none = cc
same-call side a b same none = same

pub same-bare : (given listed : Event) → SameEvent given listed → event_octets listed ≡ None → given ≡ listed
same-bare (event.Call s a) (event.Call t b) same none = let calls : a ≡ b = same-call t a b same.1 none in let sides : s ≡ t = same.0 in cc
same-bare given listed same none = same

-- such an event is not refused for want of memory
bare-taken : (e : Event) (told : Result Answer Unfair) (old new : RoomyWorld) → IsBare e → HasRoomFor 1 old → IsRoomyOutcome e told old new → told ≡ Err NoMemory → ⊥
bare-taken e (Ok answer) old new bare room o is = cc
bare-taken e (Err refusal) old new bare room o is =
    let given = o.outcome in
    let it : given.0 ≡ e = same-bare given.0 e given.1 bare.owned in
    let named : refusal ≡ NoMemory = cc in
    elim given.2.1 [
      | inl broken ↦ rules-name old.seen.network (written_len old.seen) given.0 (broken ∙ ap Some named)
      | inr fair ↦ let taken : IsOk {T = Answer} {E = Unfair} (Err refusal) = o.memory (subst (λ x. unfair old.seen x ≡ None) it fair.0) room bare.plain bare.owned in cc
    ]

-- nor is any of them
pub bare-runs : EveryBareRunHasRoom
bare-runs [] [] old new room bare run = All-nil (λ (outcome : Result Answer Unfair). outcome ≡ Err NoMemory → ⊥)
bare-runs [] (o ∷ os) old new room bare run = absurd run
bare-runs (e ∷ es) [] old new room bare run = absurd run
bare-runs (e ∷ es) (o ∷ os) old new room bare run =
    let one : HasRoomFor 1 old = first (length es) old (for_as_many (length (e ∷ es)) (length es + 1) old (omega arith) room) in
    All-cons (λ (outcome : Result Answer Unfair). outcome ≡ Err NoMemory → ⊥) o os (bare-taken e o old run.0 (All-head IsBare e es bare) one run.1)
    (bare-runs es os run.0 new (outcome-leaves (length es) e o old run.0 (for_as_many (length (e ∷ es)) (length es + 1) old (omega arith) room) run.1) (All-tail IsBare e es bare) run.2)
  where
    first : (n : ℕ) (w : RoomyWorld) → HasRoomFor (n + 1) w → HasRoomFor 1 w
    first n w room = record { frames = omega (arith, room.frames); openings = omega (arith, room.openings); written = omega (arith, room.written); trace = omega (arith, room.trace) }
