-- How the fields of a data buffer are seen.
use Rattle.std.specs.Prelude.{◌≡◌, ℕ, ◌≤◌, ◌+◌, Bool, if◌then◌else◌, List, [], ◌∷◌, ◌++◌, length, take, drop, count_by, Option, Some, None}
use Rattle.ipv4.specs.declared.limits.TheConstants.{MAX_PAYLOAD}

-- what a data buffer shows
pub record BufferView : Type 0 where
  -- how many octets it has room for
  pub room : ℕ
  -- the octets by their places, up to the last that came
  pub octets : List (Option ℕ)

-- the octets whose flags are set
abbrev pub known : List ℕ → List Bool → List (Option ℕ)
known [] present = []
known (octet ∷ octets) [] = []
known (octet ∷ octets) (is_present ∷ present) = (if is_present then Some octet else None) ∷ known octets present

-- the flags that are set
abbrev pub count_set : List Bool → ℕ
count_set flags = count_by (λ flag. flag) flags

-- a list in which these items stand from a place on
abbrev pub over : {X : Type 0} → ℕ → List X → List X → List X
over at new items = take at items ++ new ++ drop (at + length new) items

-- room for no more than the longest payload, the places that are in use, and how many of these have their octet
pub record IsBuffer (octets : List ℕ) (present : List Bool) (reach covered : ℕ) : Type 0 where
  pub octets_room : length octets ≤ MAX_PAYLOAD
  pub flags_room : length present ≡ length octets
  pub within : reach ≤ length octets
  pub counted : covered ≡ count_set (take reach present)
