-- Moments of a clock that counts milliseconds in 64 bits, and deadlines.
use Rattle.std.specs.Prelude.{ℕ, ◌+◌, ◌-◌, ◌^◌, min, Bool, true, false, nat_le, if◌then◌else◌, Option, Some, None}
use Rattle.clock.specs.declared.moment.Moment.{Moment}

-- so many milliseconds later, or the last moment where that would lie past it
abbrev pub after : Moment → ℕ → Moment
after moment milliseconds = record { 0 = min (moment.0 + milliseconds) (2 ^ 64 - 1) }

-- whether a deadline has come: it stands at this moment or before it
abbrev pub has_come : Option Moment → Moment → Bool
has_come None now = false
has_come (Some deadline) now = nat_le deadline.0 now.0

-- the sooner of two deadlines, as far as there are any
abbrev pub sooner : Option Moment → Option Moment → Option Moment
sooner None b = b
sooner (Some a) None = Some a
sooner (Some a) (Some b) = if nat_le a.0 b.0 then Some a else Some b

-- a wait is over at a moment: there is none, or its end has come
abbrev pub is_over : Option Moment → Moment → Bool
is_over None now = true
is_over (Some end) now = nat_le end.0 now.0

-- the later of two ends, as far as there are any
abbrev pub later : Option Moment → Option Moment → Option Moment
later None b = b
later (Some a) None = Some a
later (Some a) (Some b) = if nat_le a.0 b.0 then Some b else Some a
