-- What becomes of a frame by its number.
use Rattle.std.specs.Prelude.{ℕ, Bool, false, List, [], ◌∷◌, if◌then◌else◌, Option, Some, None}
use Rattle.udp_link.specs.Steps.{is_multiple}
use Rattle.udp_link.specs.declared.every.Every.{Every}
use Rattle.udp_link.specs.declared.losses.Fate.{Fate}
use Rattle.udp_link.specs.declared.losses.Fate.TheVariants.{Lost, Once, Twice}
use Rattle.udp_link.specs.declared.losses.Losses.{Losses}

-- the frame of this number is one of every so many, if any are
abbrev pub is_one_of : Option Every → ℕ → Bool
is_one_of None number = false
is_one_of (Some every) number = is_multiple every.step number

-- one of so many is lost, and one of so many that isn't lost is sent twice
abbrev pub fate_by : Losses → ℕ → Fate
fate_by losses number = if is_one_of losses.lose number then Lost else (if is_one_of losses.repeat number then Twice else Once)

-- the datagrams in which a frame goes out
abbrev pub copies : Fate → List ℕ → List (List ℕ)
copies Lost frame = []
copies Once frame = frame ∷ []
copies Twice frame = frame ∷ frame ∷ []
