-- What a link says of itself: the frames that it took and gave, in order.
use Rattle.std.specs.Prelude.{◌≡◌, ℕ, ◌+◌, ◌≤◌, List, [], ◌∷◌, ◌++◌, length, take, slice_get, Option, Some, None, Result, Ok, Err, ⊤}
use Rattle.sides.specs.declared.side.Side.{Side}
use Rattle.sides.specs.Sides.{other_side}

-- a frame passed into the link, from this side, or out of it, to this side
pub data Passage : Type 0 where
  taken : Side → List ℕ → Passage
  given : Side → List ℕ → Passage

-- the known passages grew by these
abbrev pub Grows : Option (List Passage) → Option (List Passage) → List Passage → Type 0
Grows None new more = ⊤
Grows (Some told) None more = ⊥
Grows (Some told) (Some longer) more = longer ≡ told ++ more

-- a `send` of a frame took it, or nothing where it failed
abbrev pub Takes : {E : Type 0} → Option (List Passage) → Option (List Passage) → Result (Unit {0}) E → Side → List ℕ → Type 0
Takes old new (Ok done) from frame = Grows old new (taken from frame ∷ [])
Takes old new (Err fault) from frame = Grows old new []

-- a `recv` gave a side the front of its buffer, or nothing
abbrev pub Gives : {E : Type 0} → Option (List Passage) → Option (List Passage) → Result (Option ℕ) E → Side → List ℕ → Type 0
Gives old new (Ok (Some len)) to buffer = Grows old new (given to (take len buffer) ∷ [])
Gives old new (Ok None) to buffer = Grows old new []
Gives old new (Err fault) to buffer = Grows old new []

-- the frames that a link took, with the sides that they came from, in order
abbrev pub frames_taken : List Passage → List (Side × List ℕ)
frames_taken [] = []
frames_taken (taken from frame ∷ told) = (from, frame) ∷ frames_taken told
frames_taken (given to frame ∷ told) = frames_taken told

-- how many later frames a link may have taken when it gives one
abbrev pub most_overtaken : ℕ
most_overtaken = 700000

-- After these passages a link may give this frame to a side: it took the frame from the other one, and not too many since.
pub record MayGive (told : List Passage) (to : Side) (frame : List ℕ) : Type 0 where
  pub place : ℕ
  pub frame_there : slice_get (frames_taken told) place ≡ Some (other_side to, frame)
  pub recent : length (frames_taken told) ≤ place + 1 + most_overtaken

-- A link gave only what it may. It may lose frames, repeat them, and give them in another order than it took them.
abbrev pub IsFairLink : List Passage → Type 0
IsFairLink told = (before after : List Passage) (to : Side) (frame : List ℕ) → told ≡ before ++ given to frame ∷ [] ++ after → MayGive before to frame
