-- The first of what lies at or behind a place.
use Rattle.std.specs.Prelude.{ℕ, ◌+◌, Bool, List, drop, position, Option, option_map}

-- the first place from this one on at which the test passes
abbrev pub first_from : {T : Type 0} → (T → Bool) → ℕ → List T → Option ℕ
first_from test from items = option_map (λ ahead. from + ahead) (position test (drop from items))
