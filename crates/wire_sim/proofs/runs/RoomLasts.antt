-- A step adds one element at most to each list of a world.
use Rattle.std.proofs.Common.{◌≡◌, ℕ, ◌+◌, ◌≤◌, List, [], ◌∷◌, ◌++◌, length, length-append, Option, Some, None, sym, ◌∙◌, ap, subst, arith}
use Rattle.std.specs.List.{slice_get}
use Rattle.host.specs.HostView.{HostView}
use Rattle.sockets.specs.declared.entry.SocketId.{SocketId}
use Rattle.sides.specs.declared.side.Side.{Side}
use Rattle.sides.specs.declared.side.Side.TheVariants.{A, B}
use Rattle.sides.specs.Sides.{other_side}
use Rattle.wire_sim.specs.declared.event.Answer.{Answer}
use Rattle.wire_sim.specs.declared.event.Answer.TheVariants as reply
use Rattle.wire_sim.specs.declared.event.Call.{Call}
use Rattle.wire_sim.specs.declared.event.Call.TheVariants as call
use Rattle.wire_sim.specs.declared.event.Event.{Event}
use Rattle.wire_sim.specs.declared.event.Event.TheVariants as event
use Rattle.wire_sim.specs.declared.event.Happening.{Happening}
use Rattle.wire_sim.specs.declared.event.Opening.{Opening}
use Rattle.wire_sim.specs.declared.world.bag.Frame.{Frame}
use Rattle.wire_sim.specs.declared.world.bag.Note.{Note}
use Rattle.wire_sim.specs.declared.world.station.Station.{Station}
use Rattle.wire_sim.specs.Openings.{opened_by_connect, opened_by_frame}
use Rattle.wire_sim.specs.RoomyRuns.{EveryStepLeavesRoom}
use Rattle.wire_sim.specs.Steps.{with_station, with_opening, after_call, after_delivery, station_after_tick, MeetsEmission, DeliversFrame, Steps}
use Rattle.wire_sim.specs.Tallies.{counts_after}
use Rattle.wire_sim.specs.WorldRoom.{ListRoom, HasRoom, KeepsRoom}
use Rattle.wire_sim.specs.WorldView.{NetworkView, WorldView, station_of, host_of, table_of}

-- no list of a network is longer by more than one element
record IsOneLonger (old new : NetworkView) : Type 0 where
  frames : length new.frames ≤ length old.frames + 1
  openings : length new.openings ≤ length old.openings + 1
  written : length new.written ≤ length old.written + 1

-- a host with its clock became another
moved : (n : NetworkView) (side : Side) (s : Station) → IsOneLonger n (with_station n side s)
moved n A s = record { frames = omega arith; openings = omega arith; written = omega arith }
moved n B s = record { frames = omega arith; openings = omega arith; written = omega arith }

-- it opened a pair, or none
opened : (n : NetworkView) (side : Side) (s : Station) (o : Option Opening) → IsOneLonger n (with_opening (with_station n side s) o)
opened n side s None = moved n side s
opened n A s (Some o) = record { frames = omega arith; openings = omega (arith, length-append n.openings (o ∷ [])); written = omega (arith, length-append n.written (0 ∷ [])) }
opened n B s (Some o) = record { frames = omega arith; openings = omega (arith, length-append n.openings (o ∷ [])); written = omega (arith, length-append n.written (0 ∷ [])) }

-- as many counts
counted-few : (os : List Opening) (ws : List ℕ) (side : Side) (id : SocketId) (n : ℕ) → length (counts_after os ws side id n) ≤ length ws
counted-few [] ws side id n = omega arith
counted-few (o ∷ os) [] side id n = omega arith
counted-few (o ∷ os) (w ∷ ws) side id n = omega (arith, counted-few os ws side id n)

-- it took octets
counted : (n : NetworkView) (side : Side) (s : Station) (id : SocketId) (count : ℕ) → IsOneLonger n (record (with_station n side s) { written = counts_after n.openings n.written side id count })
counted n A s id count = record { frames = omega arith; openings = omega arith; written = omega (arith, counted-few n.openings n.written A id count) }
counted n B s id count = record { frames = omega arith; openings = omega arith; written = omega (arith, counted-few n.openings n.written B id count) }

-- its frame went out
emitted : (n : NetworkView) (side : Side) (s : Station) (f : Frame) → IsOneLonger n (record (with_station n side s) { frames = n.frames ++ f ∷ [] })
emitted n A s f = record { frames = omega (arith, length-append n.frames (f ∷ [])); openings = omega arith; written = omega arith }
emitted n B s f = record { frames = omega (arith, length-append n.frames (f ∷ [])); openings = omega arith; written = omega arith }

-- a call
called : (side : Side) (c : Call) (answer : Answer) (place : ℕ) (n : NetworkView) (h : HostView) → IsOneLonger n (after_call side c answer place n h)
called side (call.Connect isn id peer) reply.Started place n h =
    opened n side (let s = station_of n side in record s { host = h }) (opened_by_connect n.openings side id place h.sockets (table_of n (other_side side)))
called side (call.Send id octets) (reply.Sent count) place n h = counted n side (let s = station_of n side in record s { host = h }) id count
called side _ _ place n h = moved n side (let s = station_of n side in record s { host = h })

-- a frame that was delivered
delivered : (side : Side) (place : ℕ) (o : Option Note) (n : NetworkView) (h : HostView) → IsOneLonger n (after_delivery side place o n h)
delivered side place None n h = moved n side (let s = station_of n side in record s { host = h })
delivered side place (Some note) n h = opened n side (let s = station_of n side in record s { host = h }) (opened_by_frame n.openings side place note.pair (table_of n side) h.sockets)

delivery : (side : Side) (isn place : ℕ) (answer : Answer) (old new : NetworkView) (o : Option Frame) → DeliversFrame side isn place answer old new o → IsOneLonger old new
delivery side isn place answer old new None steps = absurd steps
delivery side isn place answer old new (Some f) steps = subst (IsOneLonger old) (sym steps.1) (delivered side place f.note old (host_of new side))

-- an emission
emission : (side : Side) (answer : Answer) (old new : NetworkView) → MeetsEmission side answer old new → IsOneLonger old new
emission side (reply.Frame index len) old new steps = subst (IsOneLonger old) (sym steps.after) (emitted old side _ steps.frame)
emission side reply.NoFrame old new steps = subst (IsOneLonger old) (sym steps.after) (record { frames = omega arith; openings = omega arith; written = omega arith })
emission side _ old new steps = absurd steps

-- every event
one_longer : (happens : Event) (place : ℕ) (answer : Answer) (old new : NetworkView) → Steps happens place answer old new → IsOneLonger old new
one_longer (event.Call side c) place answer old new steps = subst (IsOneLonger old) (sym steps.1) (called side c answer place old (host_of new side))
one_longer (event.Tick side moment) place answer old new steps = subst (IsOneLonger old) (sym steps.1) (moved old side (station_after_tick (station_of old side) moment))
one_longer (event.Emit side) place answer old new steps = emission side answer old new steps
one_longer (event.Deliver side index isn) place answer old new steps = delivery side isn.0 place answer old new (slice_get old.frames index) steps

-- so room for one element of each list is taken up
pub room-lasts : EveryStepLeavesRoom
room-lasts more happens answer old new room step kept =
    let longer = one_longer happens (length old.seen.trace) answer old.seen.network new.seen.network step.network in
    let traced : length new.seen.trace ≡ length old.seen.trace + 1 = ap (length {A = Happening}) step.trace ∙ length-append old.seen.trace _ in
    record {
      frames = omega (arith, room.frames, longer.frames, kept.network.frames);
      openings = omega (arith, room.openings, longer.openings, kept.network.openings);
      written = omega (arith, room.written, longer.written, kept.network.written);
      trace = omega (arith, room.trace, traced, kept.trace);
    }

-- room that is kept is kept from one moment to the next
pub keeps-all : (r : ListRoom) → KeepsRoom r r
keeps-all r = record { network = record { frames = omega arith; openings = omega arith; written = omega arith }; trace = omega arith }

pub keeps-on : {a b c : ListRoom} → KeepsRoom a b → KeepsRoom b c → KeepsRoom a c
keeps-on first second = record {
  network = record {
    frames = omega (arith, first.network.frames, second.network.frames);
    openings = omega (arith, first.network.openings, second.network.openings);
    written = omega (arith, first.network.written, second.network.written);
  };
  trace = omega (arith, first.trace, second.trace);
}

-- where a list is as long as it has room for now, it is as long as it had room for before
pub full-at-first : (before now : ListRoom) (w v : WorldView) → KeepsRoom before now → v ≡ w → ¬ HasRoom (record { seen = w; room = now }) → ¬ HasRoom (record { seen = v; room = before })
full-at-first before now w v kept same full = λ room. full (record {
  frames = omega (arith, room.frames, kept.network.frames, ap (λ (x : WorldView). length x.network.frames) same);
  openings = omega (arith, room.openings, kept.network.openings, ap (λ (x : WorldView). length x.network.openings) same);
  written = omega (arith, room.written, kept.network.written, ap (λ (x : WorldView). length x.network.written) same);
  trace = omega (arith, room.trace, kept.trace, ap (λ (x : WorldView). length x.trace) same);
})
