-- One of every so many.
use Rattle.std.specs.Prelude.{◌%◌, ◌==◌, ◌&&◌, ℕ, Bool, nat_le, if◌then◌else◌, Option, Some, None}

-- of how many one may be, where this is such a number
abbrev pub step_in : ℕ → Option ℕ
step_in step = if nat_le 2 step && nat_le step 1000000 then Some step else None

-- the last of every so many has a number that they divide
abbrev pub is_multiple : ℕ → ℕ → Bool
is_multiple step number = number % step == 0
