-- What words of 64 bits say of places: of each place one bit.
use Rattle.std.specs.Prelude.{◌≡◌, ℕ, ◌/◌, ◌%◌, ◌<◌, ◌≤◌, Bool, true, false, nat_eq, nat_lt, List, get_or}
use Rattle.std.specs.Int.{bit_at}

-- whether this bit of a word is set
unfoldable pub has_bit : ℕ → ℕ → Bool
has_bit word at = nat_eq (bit_at word at) 1

-- whether the bit of this place is set
unfoldable pub has : List ℕ → ℕ → Bool
has words place = has_bit (get_or words (place / 64) 0) (place % 64)

-- this is the first place from there on whose bit is set
pub record IsFirst (words : List ℕ) (from place : ℕ) : Type 0 where
  pub behind : from ≤ place
  pub found : has words place ≡ true
  pub before : (k : ℕ) → from ≤ k → k < place → has words k ≡ false

-- the bits of the second words say which of the first aren't 0
abbrev pub Summarizes : List ℕ → List ℕ → Type 0
Summarizes summary words = (k : ℕ) → has summary k ≡ nat_lt 0 (get_or words k 0)
