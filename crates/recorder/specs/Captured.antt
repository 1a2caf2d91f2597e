-- What a sink took of a capture.
use Rattle.std.specs.Prelude.{◌≡◌, ℕ, Bool, true, false, List, [], ◌∷◌, ◌++◌, map, Option, Some, None, Result, Ok, Err, ⊤}
use Rattle.std.specs.Io.KnownBytes.{Appends}
use Rattle.clock.specs.declared.moment.Moment.{Moment}
use Rattle.devices.specs.Streams.{TakesFront}
use Rattle.devices.specs.Passages.{Passage, frames_taken}
use Rattle.capture.specs.declared.format.Order.TheVariants.{Little}
use Rattle.capture.specs.Capture.{Frame, capture_of, entry_octets, entry_of}

-- the octets of the record of a frame that went out at this moment
abbrev pub record_octets : Moment → List ℕ → List ℕ
record_octets moment octets = entry_octets Little (entry_of (record { moment = moment; octets = octets }))

-- behind what it had before a sink took the capture of these frames, or where that isn't whole a front of it
abbrev pub Captures : Bool → Option (List ℕ) → Option (List ℕ) → List Frame → Type 0
Captures true before now frames = Appends before now (capture_of frames)
Captures false before now frames = TakesFront before now (capture_of frames)

-- these frames, and then one that went out at this moment
abbrev pub with_frame : List Frame → Moment → List ℕ → List Frame
with_frame frames moment octets = frames ++ record { moment = moment; octets = octets } ∷ []

-- the same where the link took it
abbrev pub with_taken : {E : Type 0} → Result (Unit {0}) E → List Frame → Moment → List ℕ → List Frame
with_taken (Ok done) frames moment octets = with_frame frames moment octets
with_taken (Err fault) frames moment octets = frames

-- a link that tells what passes through it took these frames meanwhile, in order, and no others
abbrev pub HasTaken : Option (List Passage) → Option (List Passage) → List Frame → Type 0
HasTaken None now frames = ⊤
HasTaken (Some told) None frames = ⊥
HasTaken (Some told) (Some longer) frames =
    (passed : List Passage) × (longer ≡ told ++ passed) × (map (λ f. f.octets) frames ≡ map (λ p. p.1) (frames_taken passed))

-- What a link and its capture did meanwhile: behind the capture of the frames of before, the sink took the records of the frames that the link took.
pub record GoesOn (whole_old whole_new : Bool) (taken_old taken_new : Option (List ℕ)) (told_old told_new : Option (List Passage)) : Type 0 where
  pub frames : List Frame
  pub captures : (before : Option (List ℕ)) (earlier : List Frame) → Captures whole_old before taken_old earlier → Captures whole_new before taken_new (earlier ++ frames)
  pub all : HasTaken told_old told_new frames
