-- Sums and their complements.
use Rattle.std.proofs.Common.{◌≡◌, ℕ, zero, suc, ◌+◌, ◌-◌, ◌*◌, ◌^◌, ◌<◌, ◌≤◌, nat_lt, if◌then◌else◌, List, ◌∷◌, ◌++◌, length, refl, ◌∙◌, ap, append_assoc, arith}
use Rattle.std.proofs.lemmas.Bool.Decides.{nat_tests}
use Rattle.byteorder.specs.Endian.{big_bytes}
use Rattle.inet_sum.specs.Sum.{word_sum, ones_complement, sum_of, checksum_of}
use Rattle.inet_sum.proofs.Words.{word_sum-append}

-- a sum and its complement
pub with_complement : (total : ℕ) → ones_complement (total + (65535 - ones_complement total)) ≡ 65535
with_complement zero = refl
with_complement (suc total) = grind arith

-- 0xFFFF changes no sum but that of nothing
pub with_full : (total : ℕ) → 0 < total → ones_complement (total + 65535) ≡ ones_complement total
with_full zero some = absurd (omega (arith, some))
with_full (suc total) some = grind arith

-- a sum is a number of 16 bits
pub sum_fits : (total : ℕ) → ones_complement total ≤ 65535
sum_fits zero = omega arith
sum_fits (suc total) = grind arith

-- no number but the complement, and in its place 0xFFFF, makes the sum right
pub one_complement : (total n : ℕ) → n < 65535 → ones_complement (total + n) ≡ 65535 → n ≡ 65535 - ones_complement total
one_complement zero n below right = grind arith
one_complement (suc total) n below right = grind arith

-- what a number of 16 bits adds to the words, behind an even number of octets
pub word_sum-put : (before after : List ℕ) (words n : ℕ) → length before ≡ 2 * words → n < 2 ^ 16
    → word_sum (before ++ big_bytes 2 n ++ after) ≡ word_sum before + word_sum after + n
word_sum-put before after words n even fits =
    let two : word_sum (big_bytes 2 n ++ after) ≡ n + word_sum after = omega arith in
    ap word_sum (append_assoc before (big_bytes 2 n) after) ∙ word_sum-append before words (big_bytes 2 n ++ after) even ∙ omega (arith, two)

-- the checksum in the place of two zeros makes the sum right
pub sum_right : (before after : List ℕ) (words : ℕ) → length before ≡ 2 * words
    → sum_of (before ++ big_bytes 2 (checksum_of (before ++ 0 ∷ 0 ∷ after)) ++ after) ≡ 65535
sum_right before after words even =
    let total : ℕ = word_sum before + word_sum after in
    let unsummed : word_sum (before ++ 0 ∷ 0 ∷ after) ≡ total = word_sum-append before words (0 ∷ 0 ∷ after) even ∙ omega arith in
    let checksum_is : checksum_of (before ++ 0 ∷ 0 ∷ after) ≡ 65535 - ones_complement total = ap (λ (n : ℕ). 65535 - ones_complement n) unsummed in
    let summed = word_sum-put before after words (65535 - ones_complement total) even (omega arith) in
    ap (λ (n : ℕ). sum_of (before ++ big_bytes 2 n ++ after)) checksum_is ∙ ap ones_complement summed ∙ with_complement total

-- a carry comes back
pub with_carry : (a b : ℕ) → a < 2 ^ 16 → b < 2 ^ 16 → ones_complement (a + b) ≡ (if nat_lt (a + b) 65536 then a + b else a + b - 65535)
with_carry a b h k = grind (arith, nat_tests)
