-- No action but one that reads octets or emits a frame meets want of memory.
use Rattle.std.proofs.Common.{◌≡◌, ℕ, zero, suc, ◌+◌, ◌<◌, false, [], ◌∷◌, length, None, Result, Err, refl, sym, subst, arith}
use Rattle.std.specs.Result.{IsOk}
use Rattle.std.proofs.lemmas.List.Elements.{All-nil, All-cons, All-head}
use Rattle.wire_sim.specs.declared.event.Call.TheVariants as call
use Rattle.wire_sim.specs.declared.event.Event.{Event}
use Rattle.wire_sim.specs.declared.event.Event.TheVariants as event
use Rattle.wire_sim.specs.declared.event.Answer.{Answer}
use Rattle.wire_sim.specs.declared.event.Unfair.{Unfair}
use Rattle.wire_sim.specs.declared.event.Unfair.TheVariants.{NoMemory}
use Rattle.wire_sim.specs.RoomyRuns.{IsBare, IsRoomyOutcome}
use Rattle.wire_sim.specs.Steps.{event_recv_len, is_emission}
use Rattle.wire_sim.specs.WorldRoom.{RoomyWorld, ListRoom, HasRoomFor, event_octets}
use Rattle.wire_sim.specs.WorldView.{WorldView}
use Rattle.wire_sim.proofs.RunGiven.{same_event}
use Rattle.wire_sim.proofs.runs.RoomyRunsLast.{bare-runs}
use Rattle.script.specs.declared.action.Action.TheVariants.{Socket, Bind, Listen, Accept, Connect, Send, Fill, Recv, Count, SendTo, FillTo, RecvFrom, CountFrom, Shutdown, NoDelay, Close, Abort, State, Ready, Info, Tick, Emit, Deliver}
use Rattle.commands.specs.Play.{ComesTo}
use Rattle.commands.specs.Wanted.{MemoryIsWantedForOctets}

-- room for one element more in each list
room_of : WorldView → ListRoom
room_of w = record {
  network = record { frames = length w.network.frames + 1; openings = length w.network.openings + 1; written = length w.network.written + 1 };
  trace = length w.trace + 1;
}

-- an event that wants no octets and owns none
bare_taken : (e : Event) (w v : WorldView) → IsBare e → ComesTo e (Err NoMemory) w v → ⊥
unfolding room_of
bare_taken e w v bare came =
    let old : RoomyWorld = record { seen = w; room = room_of w } in
    let new : RoomyWorld = record { seen = v; room = room_of w } in
    let outcome : IsRoomyOutcome e (Err NoMemory) old new = record {
      outcome = (e, same_event e, came.outcome);
      memory = λ fair room plain owned. came.memory fair plain;
      room = record { network = record { frames = omega arith; openings = omega arith; written = omega arith }; trace = omega arith };
    } in
    let room : HasRoomFor 1 old = record { frames = omega arith; openings = omega arith; written = omega arith; trace = omega arith } in
    let told = bare-runs (e ∷ []) (Err NoMemory ∷ []) old new room (All-cons IsBare e [] bare (All-nil IsBare)) (new, outcome, refl) in
    All-head (λ (o : Result Answer Unfair). o ≡ Err NoMemory → ⊥) (Err NoMemory) [] told refl

-- an event that is known
bare_is_taken : (e known : Event) (w v : WorldView) → e ≡ known → IsBare known → ComesTo e (Err NoMemory) w v → ⊥
bare_is_taken e known w v is bare came = bare_taken e w v (subst IsBare (sym is) bare) came

-- it reads so many
reads : (e : Event) (w v : WorldView) (most : ℕ) (known : ℕ → Event) → e ≡ known most → IsBare (known 0) → ComesTo e (Err NoMemory) w v → 0 < most
reads e w v zero known is bare came = absurd (bare_is_taken e (known 0) w v is bare came)
reads e w v (suc n) known is bare came = omega arith

-- what makes an event one
bare : (e : Event) → event_recv_len e ≡ 0 → is_emission e ≡ false → event_octets e ≡ None → IsBare e
bare e unread unsent owned = record { plain = record { unread = unread; unsent = unsent }; owned = owned }

-- a refusal is no answer
not_taken : IsOk {T = Answer} {E = Unfair} (Err NoMemory) → ⊥
not_taken taken = cc

-- a send breaks no rule
pub wanted : MemoryIsWantedForOctets
wanted side (Socket kind) e w v is came = absurd (bare_is_taken e _ w v is (bare _ refl refl refl) came)
wanted side (Bind id port) e w v is came = absurd (bare_is_taken e _ w v is (bare _ refl refl refl) came)
wanted side (Listen id backlog) e w v is came = absurd (bare_is_taken e _ w v is (bare _ refl refl refl) came)
wanted side (Accept id) e w v is came = absurd (bare_is_taken e _ w v is (bare _ refl refl refl) came)
wanted side (Connect id port isn) e w v is came = absurd (bare_is_taken e _ w v is (bare _ refl refl refl) came)
wanted side (Send id text) (event.Call s (call.Send i octets)) w v is came = not_taken (came.memory refl (record { unread = refl; unsent = refl }))
wanted side (Send id text) e w v is came = absurd is
wanted side (Fill id count) (event.Call s (call.Send i octets)) w v is came = not_taken (came.memory refl (record { unread = refl; unsent = refl }))
wanted side (Fill id count) e w v is came = absurd is
wanted side (Recv id most) e w v is came = reads e w v most (λ n. event.Call side (call.Recv id n)) is (bare _ refl refl refl) came
wanted side (Count id most) e w v is came = reads e w v most (λ n. event.Call side (call.Recv id n)) is (bare _ refl refl refl) came
wanted side (SendTo id port text) (event.Call s (call.SendTo i peer octets)) w v is came = not_taken (came.memory refl (record { unread = refl; unsent = refl }))
wanted side (SendTo id port text) e w v is came = absurd is
wanted side (FillTo id port count) (event.Call s (call.SendTo i peer octets)) w v is came = not_taken (came.memory refl (record { unread = refl; unsent = refl }))
wanted side (FillTo id port count) e w v is came = absurd is
wanted side (RecvFrom id most) e w v is came = reads e w v most (λ n. event.Call side (call.RecvFrom id n)) is (bare _ refl refl refl) came
wanted side (CountFrom id most) e w v is came = reads e w v most (λ n. event.Call side (call.RecvFrom id n)) is (bare _ refl refl refl) came
wanted side (Shutdown id) e w v is came = absurd (bare_is_taken e _ w v is (bare _ refl refl refl) came)
wanted side (NoDelay id on) e w v is came = absurd (bare_is_taken e _ w v is (bare _ refl refl refl) came)
wanted side (Close id) e w v is came = absurd (bare_is_taken e _ w v is (bare _ refl refl refl) came)
wanted side (Abort id) e w v is came = absurd (bare_is_taken e _ w v is (bare _ refl refl refl) came)
wanted side (State id) e w v is came = absurd (bare_is_taken e _ w v is (bare _ refl refl refl) came)
wanted side (Ready id) e w v is came = absurd (bare_is_taken e _ w v is (bare _ refl refl refl) came)
wanted side (Info id) e w v is came = absurd (bare_is_taken e _ w v is (bare _ refl refl refl) came)
wanted side (Tick moment) e w v is came = absurd (bare_is_taken e _ w v is (bare _ refl refl refl) came)
wanted side Emit e w v is came = tt
wanted side (Deliver index isn) e w v is came = absurd (bare_is_taken e _ w v is (bare _ refl refl refl) came)
