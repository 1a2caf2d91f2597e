-- Words that are read with their first octet low.
use Rattle.std.proofs.Common.{◌≡◌, ℕ, zero, suc, ◌+◌, ◌*◌, ◌≤◌, true, List, [], ◌∷◌, refl, sym, ◌∙◌, ap, arith}
use Rattle.inet_sum.specs.Sum.{word_sum, ones_complement, sum_of, sum_behind, low_word_sum}
use Rattle.inet_sum.specs.Lanes.{wide_sum}
use Rattle.inet_sum.proofs.Words.{ones_complement-add, ones_complement-ones_complement}
use Rattle.inet_sum.proofs.Complements.{sum_fits}
use Rattle.inet_sum.proofs.Joining.{exchanged, exchanged_is, shifted, shifted_is, whole_turns}

-- turns of 65,535 change no number in one's complement, where they are no more than the rest
pub few_turns : (n turns : ℕ) → turns ≤ n → ones_complement (n + 65535 * turns) ≡ ones_complement n
few_turns zero turns few = let none : 0 + 65535 * turns ≡ 0 = omega (arith, few) in ap ones_complement none
few_turns (suc n) turns few = whole_turns (suc n) turns (omega arith)

low_words : (octets : List ℕ) → low_word_sum octets ≡ shifted octets
low_words [] = refl
low_words (low ∷ []) = omega arith
low_words (low ∷ high ∷ []) = omega arith
low_words (low ∷ high ∷ next ∷ rest) = omega (arith, low_words (next ∷ rest))

-- a sum that is read again stays it
itself : (n : ℕ) → n ≤ 65535 → ones_complement n ≡ n
itself zero most = refl
itself (suc n) most = grind arith

-- the octets of a sum are exchanged
pub low_sum : (octets : List ℕ) → ones_complement (low_word_sum octets) ≡ sum_behind true (sum_of octets)
low_sum octets =
    let sum : ℕ = sum_of octets in
    let fits : sum ≤ 65535 = sum_fits (word_sum octets) in
    ap ones_complement (low_words octets) ∙ sym (shifted_is octets) ∙ exchanged_is (word_sum octets) ∙ itself (exchanged sum) (omega (arith, fits))

-- the upper 16 bits of 32-bit words
abbrev uppers : List ℕ → ℕ
uppers [] = 0
uppers (a ∷ []) = 0
uppers (a ∷ b ∷ []) = 0
uppers (a ∷ b ∷ c ∷ []) = c
uppers (a ∷ b ∷ c ∷ d ∷ rest) = c + 256 * d + uppers rest

wide_words : (octets : List ℕ) → (wide_sum octets ≡ low_word_sum octets + 65535 * uppers octets) × (uppers octets ≤ low_word_sum octets)
wide_words [] = (refl, omega arith)
wide_words (a ∷ []) = (omega arith, omega arith)
wide_words (a ∷ b ∷ []) = (omega arith, omega arith)
wide_words (a ∷ b ∷ c ∷ []) = (omega arith, omega arith)
wide_words (a ∷ b ∷ c ∷ d ∷ rest) = let further = wide_words rest in (omega (arith, further.0), omega (arith, further.1))

-- 32-bit words have the same sum in one's complement as the words of 16 bits
pub wide_is_low : (octets : List ℕ) → ones_complement (wide_sum octets) ≡ ones_complement (low_word_sum octets)
wide_is_low octets = ap ones_complement (wide_words octets).0 ∙ few_turns (low_word_sum octets) (uppers octets) (wide_words octets).1

-- exchanged twice, a sum is what it was
pub in_order : (octets : List ℕ) (n : ℕ) → n ≡ ones_complement (wide_sum octets) → sum_behind true n ≡ sum_of octets
in_order octets n is =
    let sum : ℕ = sum_of octets in
    let fits : sum ≤ 65535 = sum_fits (word_sum octets) in
    let low : n ≡ exchanged sum = is ∙ wide_is_low octets ∙ low_sum octets in
    omega (arith, low, fits)

-- a sum of 32-bit words that goes on from a sum
pub wide_goes_on : (total next part rest whole first : ℕ) → next ≡ ones_complement (total + part) → whole ≡ part + rest
    → ones_complement (total + whole) ≡ first → ones_complement (next + rest) ≡ first
wide_goes_on total next part rest whole first is_next is_whole before =
    let split : total + part + rest ≡ total + whole = omega (arith, is_whole) in
    ones_complement-add next (total + part) rest (ap ones_complement is_next ∙ ones_complement-ones_complement (total + part)) ∙ (ap ones_complement split ∙ before)
