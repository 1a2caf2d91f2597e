-- How the marks of places are stored.
use Rattle.std.specs.Prelude.{◌≡◌, ℕ, ◌*◌, ◌≤◌, Bool, false, List, length, map}
use Rattle.std.specs.List.{range_with_len}
use Rattle.marks.specs.Bits.{has, Summarizes}
use Rattle.marks.specs.declared.TheConstants.{MOST}

-- the marks of so many places, whose bits the words have
abbrev pub marked : List ℕ → ℕ → List Bool
marked words len = map (has words) (range_with_len 0 len)

-- there is room for `most` places, no bit is set behind the last one, and the summary tells which words aren't 0
pub record IsStored (words summary : List ℕ) (len most : ℕ) : Type 0 where
  pub fits : len ≤ most
  pub bounded : most ≤ MOST
  pub room : most ≤ 64 * length words
  pub few : length words ≤ MOST
  pub above : length words ≤ 64 * length summary
  pub fewer : length summary ≤ MOST
  pub clear : (k : ℕ) → len ≤ k → has words k ≡ false
  pub sums : Summarizes summary words
