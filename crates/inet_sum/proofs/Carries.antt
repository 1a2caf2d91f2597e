-- Words that are summed with their carries.
use Rattle.std.proofs.Common.{◌≡◌, ℕ, zero, suc, ◌+◌, ◌-◌, ◌*◌, ◌/◌, ◌%◌, ◌<◌, ◌^◌, List, length, sym, ◌∙◌, ap, arith}
use Rattle.std.specs.Simd.Lanes.{Each1}
use Rattle.inet_sum.specs.Sum.{ones_complement}
use Rattle.inet_sum.specs.Lanes.{wide_sum, words_sum, uppers_sum}
use Rattle.inet_sum.proofs.Halves.{halves_sum}
use Rattle.inet_sum.proofs.Joining.{whole_turns}
use Rattle.inet_sum.proofs.Words.{ones_complement-add}

-- turns of 65,535 for each of a number change nothing beside it
beside : (turns n b : ℕ) → ones_complement (n + b + 65535 * (turns * b)) ≡ ones_complement (n + b)
beside turns n zero = ap ones_complement (omega arith)
beside turns n (suc b) = whole_turns (n + suc b) (turns * suc b) (omega arith)

-- a carry out of 64 bits counts as one, and so does one out of 32
pub wraps : (n b : ℕ) → ones_complement (n + 2 ^ 64 * b) ≡ ones_complement (n + b)
wraps n b = let is : n + 2 ^ 64 * b ≡ n + b + 65535 * (281479271743489 * b) = omega arith in ap ones_complement is ∙ beside 281479271743489 n b

pub wraps_half : (n b : ℕ) → ones_complement (n + 2 ^ 32 * b) ≡ ones_complement (n + b)
wraps_half n b = let is : n + 2 ^ 32 * b ≡ n + b + 65535 * (65537 * b) = omega arith in ap ones_complement is ∙ beside 65537 n b

-- a sum of two words and of a carry, which is left beside the carry out of it
pub carried : (rest sum out left right into : ℕ) → sum + 2 ^ 64 * out ≡ left + right + into → ones_complement (rest + (sum + out)) ≡ ones_complement (rest + (left + right + into))
carried rest sum out left right into is =
    let apart : rest + (sum + out) ≡ rest + sum + out = omega arith in
    let all : rest + sum + 2 ^ 64 * out ≡ rest + (left + right + into) = omega (arith, is) in
    ap ones_complement apart ∙ sym (wraps (rest + sum) out) ∙ ap ones_complement all

-- four words that are added to a sum, one after the other
pub four_carried : (a e f g h w x y z others carries c0 c1 c2 c3 c4 before more : ℕ) → e + 2 ^ 64 * c1 ≡ a + w + c0 → f + 2 ^ 64 * c2 ≡ e + x + c1 → g + 2 ^ 64 * c3 ≡ f + y + c2
    → h + 2 ^ 64 * c4 ≡ g + z + c3 → w + x + y + z ≡ more → ones_complement (a + others + carries + c0) ≡ ones_complement before
    → ones_complement (h + others + carries + c4) ≡ ones_complement (before + more)
four_carried a e f g h w x y z others carries c0 c1 c2 c3 c4 before more one two three four is_more is =
    let s0 : h + others + carries + c4 ≡ others + carries + (h + c4) = omega arith in
    let s1 : others + carries + (g + z + c3) ≡ others + carries + z + (g + c3) = omega arith in
    let s2 : others + carries + z + (f + y + c2) ≡ others + carries + z + y + (f + c2) = omega arith in
    let s3 : others + carries + z + y + (e + x + c1) ≡ others + carries + z + y + x + (e + c1) = omega arith in
    let s4 : others + carries + z + y + x + (a + w + c0) ≡ a + others + carries + c0 + more = omega (arith, is_more) in
    ap ones_complement s0 ∙ carried (others + carries) h c4 g z c3 four
    ∙ ap ones_complement s1 ∙ carried (others + carries + z) g c3 f y c2 three
    ∙ ap ones_complement s2 ∙ carried (others + carries + z + y) f c2 e x c1 two
    ∙ ap ones_complement s3 ∙ carried (others + carries + z + y + x) e c1 a w c0 one
    ∙ ap ones_complement s4 ∙ ones_complement-add (a + others + carries + c0) before more is

-- two sums that are added to one another, whose sum is cut into halves
pub two_joined : (a b e carries c1 : ℕ) → e + 2 ^ 64 * c1 ≡ a + b + 0 → ones_complement (e / 2 ^ 32 + e % 2 ^ 32 + carries + c1) ≡ ones_complement (a + b + carries)
two_joined a b e carries c1 one =
    let s0 : e / 2 ^ 32 + e % 2 ^ 32 + carries + c1 ≡ e % 2 ^ 32 + carries + c1 + e / 2 ^ 32 = omega arith in
    let s1 : e % 2 ^ 32 + carries + c1 + 2 ^ 32 * (e / 2 ^ 32) ≡ carries + (e + c1) = omega arith in
    let s2 : carries + (a + b + 0) ≡ a + b + carries = omega arith in
    ap ones_complement s0 ∙ sym (wraps_half (e % 2 ^ 32 + carries + c1) (e / 2 ^ 32))
    ∙ ap ones_complement s1 ∙ carried carries e c1 a b 0 one ∙ ap ones_complement s2

-- words of 64 bits come to what their halves do
pub words_are_wide : (count : ℕ) (xs : List ℕ) → Each1 (λ octet. octet < 256) xs → length xs ≡ 8 * count → ones_complement (words_sum count xs) ≡ ones_complement (wide_sum xs)
words_are_wide count xs fit whole =
    let are = halves_sum count xs fit whole in
    let uppers = uppers_sum count xs in
    let others : ℕ = wide_sum xs - uppers in
    let words : words_sum count xs ≡ others + 2 ^ 32 * uppers = omega (arith, are.0, are.1) in
    let all : others + uppers ≡ wide_sum xs = omega (arith, are.1) in
    ap ones_complement words ∙ wraps_half others uppers ∙ ap ones_complement all
