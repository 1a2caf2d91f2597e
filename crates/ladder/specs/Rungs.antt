-- The rungs of a ladder: what stands between its two uprights, which are 72 columns apart, behind the number of a frame.
use Rattle.std.specs.Prelude.{ℕ, ◌-◌, Bool, if◌then◌else◌, List, [], ◌++◌, codes, length, replicate}
use Rattle.std.specs.Fmt.{decimal}
use Rattle.frames.specs.Drops.{number_of}
use Rattle.sides.specs.declared.side.Side.{Side}
use Rattle.sides.specs.declared.side.Side.TheVariants.{A, B}
use Rattle.wire_sim.specs.Names.{unfair_text}
use Rattle.ladder.specs.declared.passage.Fate.{Fate}
use Rattle.ladder.specs.declared.passage.Fate.TheVariants.{Taken, Dropped, Refused}
use Rattle.ladder.specs.Passages.{reaches}

-- a frame's number, in six columns at least
abbrev pub number_column : ℕ → List ℕ
number_column index = decimal index ++ replicate (6 - length (decimal index)) 32

-- the head of an arrow, which is `x` where what it stands for doesn't arrive
abbrev pub head_of : Bool → List ℕ → List ℕ
head_of arrives head = if arrives then head else codes "x"

-- an arrow from a side to the other, with a text at its tail: a is on the left
abbrev pub arrow : Side → Bool → List ℕ → List ℕ
arrow A arrives text = codes "|- " ++ (text ++ (codes " " ++ (replicate (68 - length text) 45 ++ (head_of arrives (codes ">") ++ codes "|"))))
arrow B arrives text = codes "|" ++ (head_of arrives (codes "<") ++ (replicate (68 - length text) 45 ++ (codes " " ++ (text ++ codes " -|"))))

-- an arrow's head at a side, with a text at it
abbrev pub landing : Side → Bool → List ℕ → List ℕ
landing A arrives text = codes "| " ++ (text ++ (codes " " ++ (head_of arrives (codes "<") ++ (replicate (69 - length text) 32 ++ codes "|"))))
landing B arrives text = codes "|" ++ (replicate (69 - length text) 32 ++ (head_of arrives (codes ">") ++ (codes " " ++ (text ++ codes " |"))))

-- what a frame came to: `taken`, `drop F9` and so on, or the number and name of why the world refused to deliver it
abbrev pub fate_text : Fate → List ℕ
fate_text Taken = codes "taken"
fate_text (Dropped cause) = codes "drop F" ++ decimal (number_of cause)
fate_text (Refused refusal) = unfair_text refusal

-- the same of a frame that may have reached the host before
abbrev pub told_of : Fate → Bool → List ℕ
told_of fate again = fate_text fate ++ (if again then codes " again" else [])

-- the rung of a frame that goes out
abbrev pub sent_rung : Side → ℕ → Bool → List ℕ → List ℕ
sent_rung side index arrives text = number_column index ++ arrow side arrives text

-- the rung of a frame that is brought to a side
abbrev pub brought_rung : Side → ℕ → Fate → Bool → List ℕ
brought_rung side index fate again = number_column index ++ landing side (reaches fate) (told_of fate again)
