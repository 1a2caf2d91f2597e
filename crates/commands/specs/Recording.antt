-- What a capture of a run holds: every frame that went out, with the moment at which it did.
use Rattle.std.specs.Prelude.{ℕ, nat_lt, if◌then◌else◌, List, [], ◌∷◌, ◌++◌, map, Option, Some, None, Result, Ok, Err}
use Rattle.std.specs.List.{flat_map, slice_get}
use Rattle.std.specs.Io.KnownBytes.{Appends}
use Rattle.clock.specs.declared.moment.Moment.{Moment}
use Rattle.capture.specs.declared.format.Order.TheVariants.{Little}
use Rattle.capture.specs.Capture.{Frame as Captured, capture_of, entry_octets, entry_of}
use Rattle.sides.specs.declared.side.Side.{Side}
use Rattle.sides.specs.declared.side.Side.TheVariants.{A, B}
use Rattle.wire_sim.specs.declared.event.Event.{Event}
use Rattle.wire_sim.specs.declared.event.Event.TheVariants as event
use Rattle.wire_sim.specs.declared.event.Answer.{Answer}
use Rattle.wire_sim.specs.declared.event.Answer.TheVariants as answer
use Rattle.wire_sim.specs.declared.event.Happening.{Happening}
use Rattle.wire_sim.specs.declared.world.bag.Frame.{Frame}
use Rattle.wire_sim.specs.WorldView.{WorldView}
use Rattle.commands.specs.declared.fault.TextFault.{TextFault}
use Rattle.commands.specs.declared.fault.TextFault.TheVariants.{Write}
use Rattle.commands.specs.declared.recording.Clocks.{Clocks}
use Rattle.devices.specs.Streams.{TakesFront}

-- the clocks before anything happened
abbrev pub no_time : Clocks
no_time = record { a = record { 0 = 0 }; b = record { 0 = 0 } }

-- the clock of a side
abbrev pub clock_in : Clocks → Side → Moment
clock_in c A = c.a
clock_in c B = c.b

-- the later of two moments
abbrev pub later : Moment → Moment → Moment
later first second = if nat_lt first.0 second.0 then second else first

-- the clocks after an event: a tick moves its side's forward, and none back
abbrev pub clocks_after : Clocks → Event → Clocks
clocks_after c (event.Tick A moment) = record c { a = later c.a moment }
clocks_after c (event.Tick B moment) = record c { b = later c.b moment }
clocks_after c _ = c

-- the clocks after all these things happened
abbrev pub clocks_behind : Clocks → List Happening → Clocks
clocks_behind c [] = c
clocks_behind c (h ∷ hs) = clocks_behind (clocks_after c h.event) hs

-- a frame as it is captured at a moment
abbrev pub captured_at : Moment → Option Frame → List Captured
captured_at moment (Some f) = record { moment = moment; octets = f.octets.items } ∷ []
captured_at moment None = []

-- the frame that went out by an event and its answer, if one did, at the moment of its sender's clock
abbrev pub frame_out : List Frame → Clocks → Event → Answer → List Captured
frame_out frames c (event.Emit side) (answer.Frame index len) = captured_at (clock_in c side) (slice_get frames index)
frame_out frames c _ _ = []

-- every frame that went out as these things happened, in order
abbrev pub frames_out : List Frame → Clocks → List Happening → List Captured
frames_out frames c [] = []
frames_out frames c (h ∷ hs) = frame_out frames c h.event h.answer ++ frames_out frames (clocks_after c h.event) hs

-- every frame that went out in a world
abbrev pub frames_of : WorldView → List Captured
frames_of w = frames_out w.network.frames no_time w.trace

-- the octets of records in turn
abbrev pub records_of : List Captured → List ℕ
records_of frames = flat_map (entry_octets Little) (map entry_of frames)

-- a sink takes the capture of a world's frames, or where it fails a front of that
abbrev pub TakesCapture : Result (Unit {0}) TextFault → WorldView → Option (List ℕ) → Option (List ℕ) → Type 0
TakesCapture (Ok done) w old new = Appends old new (capture_of (frames_of w))
TakesCapture (Err Write) w old new = TakesFront old new (capture_of (frames_of w))
TakesCapture (Err _) w old new = ⊥
