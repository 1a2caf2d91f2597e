-- What is said of a copy while it runs.
use Rattle.std.specs.Prelude.{ℕ, ◌+◌, ◌-◌, ◌*◌, ◌/◌, ◌^◌, ◌++◌, min, Bool, List, Option, Some, None, codes, nat_lt, nat_le, if◌then◌else◌}
use Rattle.std.specs.Fmt.{decimal}

-- the share of a whole in hundredths, at most 100, where the whole is known and isn't nothing
abbrev pub share_of : ℕ → Option ℕ → Option ℕ
share_of written None = None
share_of written (Some whole) = if nat_lt 0 whole then Some (min (written * 100 / whole) 100) else None

-- how many octets were written, in the place of what the line said before, and which share of the whole they are
abbrev pub text_with : ℕ → ℕ → List ℕ
text_with written share = codes "\rhostd: " ++ decimal written ++ codes " octets, " ++ decimal share ++ codes " %"

-- the same where the share may not be known
abbrev pub text_of : ℕ → Option ℕ → List ℕ
text_of written None = codes "\rhostd: " ++ decimal written ++ codes " octets"
text_of written (Some share) = text_with written share

abbrev pub progress_text : ℕ → Option ℕ → List ℕ
progress_text written whole = text_of written (share_of written whole)

-- it is said again once so many octets more were written
abbrev pub is_due : ℕ → ℕ → Bool
is_due told written = nat_le 65536 (written - told)

-- a count of octets after so many more: 64 bits hold it, and at its last value it stays
abbrev pub more : ℕ → ℕ → ℕ
more count octets = min (count + octets) (2 ^ 64 - 1)
