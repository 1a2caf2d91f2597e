-- The sum of two lists of octets, one behind the other, from the sum of each.
use Rattle.std.proofs.Common.{◌≡◌, ℕ, zero, suc, ◌+◌, ◌-◌, ◌*◌, ◌/◌, ◌%◌, ◌==◌, ◌<◌, ◌≤◌, Bool, true, false, nat_eq, cond, List, [], ◌∷◌, ◌++◌, length, refl, sym, ◌∙◌, ap, arith}
use Rattle.std.proofs.lemmas.Bool.Decides.{nat_tests}
use Rattle.inet_sum.specs.Sum.{word_sum, ones_complement, sum_of, sum_behind}
use Rattle.inet_sum.proofs.Words.{word_sum-append, ones_complement-add, ones_complement-ones_complement}

-- 65,535 changes no number in one's complement but 0
pub whole_turns : (n turns : ℕ) → 0 < n → ones_complement (n + 65535 * turns) ≡ ones_complement n
whole_turns zero turns some = absurd (omega (arith, some))
whole_turns (suc n) turns some = grind arith

-- the words of octets of which the first stands low
abbrev pub shifted : List ℕ → ℕ
shifted [] = 0
shifted (low ∷ rest) = low + word_sum rest

-- the octets that stand high where the first does
abbrev highs : List ℕ → ℕ
highs [] = 0
highs (high ∷ []) = high
highs (high ∷ low ∷ rest) = high + highs rest

-- the words of an odd number of octets leave half a word to what follows them
word_sum-odd : (first : List ℕ) (words : ℕ) (second : List ℕ) → length first ≡ 2 * words + 1 → word_sum (first ++ second) ≡ word_sum first + shifted second
word_sum-odd [] words second odd = absurd (omega (arith, odd))
word_sum-odd (high ∷ []) words [] odd = omega arith
word_sum-odd (high ∷ []) words (low ∷ rest) odd = omega arith
word_sum-odd (high ∷ low ∷ rest) words second odd =
    let fewer : length rest ≡ 2 * (words - 1) + 1 = omega (arith, odd) in
    omega (arith, word_sum-odd rest (words - 1) second fewer)

-- half a word further is 256 times as much, in one's complement
times_256 : (octets : List ℕ) → (256 * word_sum octets ≡ shifted octets + 65535 * highs octets) × (highs octets ≤ shifted octets)
times_256 [] = (refl, omega arith)
times_256 (high ∷ []) = (omega arith, omega arith)
times_256 (high ∷ low ∷ []) = (omega arith, omega arith)
times_256 (high ∷ low ∷ next ∷ rest) =
    let further = times_256 (next ∷ rest) in
    (omega (arith, further.0), omega (arith, further.1))

pub shifted_is : (octets : List ℕ) → ones_complement (256 * word_sum octets) ≡ ones_complement (shifted octets)
shifted_is octets = by_cases (word_sum octets) (shifted octets) (highs octets) (times_256 octets).0 (times_256 octets).1
  where
    by_cases : (words low high : ℕ) → 256 * words ≡ low + 65535 * high → high ≤ low → ones_complement (256 * words) ≡ ones_complement low
    by_cases words zero high is most = let none : 256 * words ≡ 0 = omega (arith, is, most) in ap ones_complement none
    by_cases words (suc low) high is most = ap ones_complement is ∙ whole_turns (suc low) high (omega arith)

abbrev pub exchanged : ℕ → ℕ
exchanged n = 256 * (n % 256) + n / 256

-- a number with its octets exchanged is 256 times as much, in one's complement
pub exchanged_is : (n : ℕ) → ones_complement (256 * n) ≡ ones_complement (exchanged (ones_complement n))
exchanged_is zero = refl
exchanged_is (suc n) =
    let number : ℕ = 1 + n % 65535 in
    let turns : ℕ = n / 65535 in
    let read : ones_complement (suc n) ≡ number = grind arith in
    let is : 256 * suc n ≡ exchanged number + 65535 * (256 * turns + number / 256) = omega arith in
    ap ones_complement is ∙ whole_turns (exchanged number) (256 * turns + number / 256) (omega arith) ∙ ap (λ (m : ℕ). ones_complement (exchanged m)) (sym read)

-- a sum and what is the same as another in one's complement
both : (a b c : ℕ) → ones_complement b ≡ ones_complement c → ones_complement (a + b) ≡ ones_complement (ones_complement a + c)
both a b c same =
    ones_complement-add a (ones_complement a) b (sym (ones_complement-ones_complement a)) ∙ ap ones_complement (turned (ones_complement a) b)
    ∙ ones_complement-add b c (ones_complement a) same ∙ ap ones_complement (turned c (ones_complement a))
  where
    turned : (x y : ℕ) → x + y ≡ y + x
    turned x y = omega arith

by_length : (a b : List ℕ) (odd : Bool) → nat_eq (length a % 2) 1 ≡ odd → sum_of (a ++ b) ≡ ones_complement (sum_of a + cond odd (exchanged (sum_of b)) (sum_of b))
by_length a b false even =
    ap ones_complement (word_sum-append a (length a / 2) b (grind (arith, nat_tests, even)))
    ∙ both (word_sum a) (word_sum b) (sum_of b) (sym (ones_complement-ones_complement (word_sum b)))
by_length a b true odd =
    ap ones_complement (word_sum-odd a (length a / 2) b (grind (arith, nat_tests, odd)))
    ∙ both (word_sum a) (shifted b) (exchanged (sum_of b)) (sym (shifted_is b) ∙ exchanged_is (word_sum b))

-- two sums, that of the second as it counts behind the first
pub joined : (a b : List ℕ) → sum_of (a ++ b) ≡ ones_complement (sum_of a + sum_behind (length a % 2 == 1) (sum_of b))
joined a b = by_length a b (nat_eq (length a % 2) 1) refl
