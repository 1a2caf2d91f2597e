-- How the words are summed: as numbers of 32 bits whose first octet stands low. The public contracts do not rest on this page.
use Rattle.std.specs.Prelude.{◌≡◌, ℕ, zero, suc, ◌+◌, ◌*◌, List, [], ◌∷◌, length, take, drop}
use Rattle.std.specs.Simd.Lanes.{number_l}
use Rattle.inet_sum.specs.Sum.{ones_complement}
use Rattle.inet_sum.specs.declared.lanes.Totals.{Totals}

-- the whole-number sum of the 32-bit words whose first octet stands low, the last one padded with zeros
abbrev pub wide_sum : List ℕ → ℕ
wide_sum [] = 0
wide_sum (a ∷ []) = a
wide_sum (a ∷ b ∷ []) = a + 256 * b
wide_sum (a ∷ b ∷ c ∷ []) = a + 256 * b + 65536 * c
wide_sum (a ∷ b ∷ c ∷ d ∷ rest) = a + 256 * b + 65536 * c + 16777216 * d + wide_sum rest

-- the whole-number sum of so many 64-bit words
abbrev pub words_sum : ℕ → List ℕ → ℕ
words_sum zero octets = 0
words_sum (suc count) octets = number_l 256 (take 8 octets) + words_sum count (drop 8 octets)

-- the same of their upper halves
abbrev pub uppers_sum : ℕ → List ℕ → ℕ
uppers_sum zero octets = 0
uppers_sum (suc count) octets = number_l 256 (take 4 (drop 4 octets)) + uppers_sum count (drop 8 octets)

-- what totals come to
abbrev pub total_of : Totals → ℕ
total_of totals = totals.next + totals.other + totals.carries

-- a number is in one's complement what these octets come to, which are so many words
pub record AreTotals (total count : ℕ) (octets : List ℕ) : Type 0 where
  pub whole : length octets ≡ 8 * count
  pub sum : ones_complement total ≡ ones_complement (words_sum count octets)
