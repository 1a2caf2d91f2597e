-- The bits of one word.
use Rattle.std.proofs.Common.{◌≡◌, ℕ, ◌+◌, ◌-◌, ◌*◌, ◌/◌, ◌%◌, ◌^◌, min, max, ◌<◌, ◌≤◌, true, false, nat_eq, bit_and, bit_or, w64, sym, ◌∙◌, ap, arith, add-zero, add-one, ◌⊎◌, inl, inr, lit<, lit≤}
use Rattle.std.specs.Int.{bit_at, bit_not, trailing_zeros}
use Rattle.std.proofs.lemmas.Nat.{shr-shr, shr_le, shl_whole, one_shl, mod_below, pow_below, shr_below}
use Rattle.std.proofs.lemmas.Nat.Bits.{bit_at_and, bit_at_or, bit_at_not, bit_at_ones, bit_at_ones_above, bit_at_above, bit_at-lt, bit_at-suc, bit_at-zero, bit_at_lowest, bit_at_cat_low, bit_at_cat_high, bit_at-trailing_zeros}
use Rattle.std.proofs.lemmas.Bool.{cases_lt}
use Rattle.marks.specs.Bits.{has_bit}

pub same_bit : (a b i j : ℕ) → bit_at a i ≡ bit_at b j → has_bit a i ≡ has_bit b j
unfolding has_bit
same_bit a b i j e = ap (λ n. nat_eq n 1) e

pub bit_is_set : (a i : ℕ) → bit_at a i ≡ 1 → has_bit a i ≡ true
unfolding has_bit
bit_is_set a i e = ap (λ n. nat_eq n 1) e

pub bit_is_clear : (a i : ℕ) → bit_at a i ≡ 0 → has_bit a i ≡ false
unfolding has_bit
bit_is_clear a i e = ap (λ n. nat_eq n 1) e

-- a shift brings the bits nearer
shifted : (n from i : ℕ) → bit_at (n / 2 ^ from) i ≡ bit_at n (from + i)
shifted n from i = ap (λ m. m % 2) (shr-shr n from i)

shifted_from : (n from k : ℕ) → from ≤ k → bit_at n k ≡ bit_at (n / 2 ^ from) (k - from)
shifted_from n from k h =
    let same : from + (k - from) ≡ k = omega arith in
    sym (ap (λ m. bit_at n m) same) ∙ sym (shifted n from (k - from))

pub no_bit_behind : (n from k : ℕ) → n / 2 ^ from ≡ 0 → from ≤ k → has_bit n k ≡ false
no_bit_behind n from k e h = bit_is_clear n k (shifted_from n from k h ∙ ap (λ m. bit_at m (k - from)) e ∙ bit_at-zero (k - from))

-- the lowest bit of what a shift leaves
pub lowest_behind : (word from : ℕ) → word < 2 ^ 64 → (word / 2 ^ from ≡ 0 → ⊥) → let at = from + trailing_zeros w64 (word / 2 ^ from) in
    (from ≤ at) × (at < 64) × (has_bit word at ≡ true) × ((k : ℕ) → from ≤ k → k < at → has_bit word k ≡ false)
lowest_behind word from fits left =
    let less : word / 2 ^ from ≤ word = shr_le word from in
    let some : 0 < word / 2 ^ from = omega (arith, left) in
    let low = bit_at-trailing_zeros w64 (word / 2 ^ from) some (omega arith) in
    let at : ℕ = from + trailing_zeros w64 (word / 2 ^ from) in
    let set : bit_at word at ≡ 1 = sym (shifted word from (trailing_zeros w64 (word / 2 ^ from))) ∙ low.1 in
    let within : (at < 64) ⊎ (64 ≤ at) = cases_lt at 64 in
    let inside : at < 64 = elim within [ inl h ↦ h | inr h ↦ (let none : bit_at word at ≡ 0 = bit_at_above word 64 at fits h in absurd (omega arith)) ] in (
      omega arith,
      inside,
      bit_is_set word at set,
      λ k behind before. bit_is_clear word k (shifted_from word from k behind ∙ low.2 (k - from) (omega arith)),
    )

-- the bit that comes last from the next word
top_low : (next k : ℕ) → k < 63 → bit_at (next % 2 * 2 ^ 63 % 2 ^ 64) k ≡ 0
top_low next k h =
    let whole : next % 2 * 2 ^ 63 % 2 ^ 64 ≡ next % 2 * 2 ^ 63 = shl_whole (next % 2) 1 63 64 (mod_below next 2 (lit< tt)) (lit≤ tt) in
    ap (λ m. bit_at m k) (whole ∙ sym (add-zero _)) ∙ bit_at_cat_low (next % 2) 63 0 k h ∙ bit_at-zero k

top_high : (next : ℕ) → bit_at (next % 2 * 2 ^ 63 % 2 ^ 64) 63 ≡ bit_at next 0
top_high next =
    let whole : next % 2 * 2 ^ 63 % 2 ^ 64 ≡ next % 2 * 2 ^ 63 = shl_whole (next % 2) 1 63 64 (mod_below next 2 (lit< tt)) (lit≤ tt) in
    let once : next % 2 % 2 ≡ next % 2 = omega arith in
    ap (λ m. bit_at m 63) (whole ∙ sym (add-zero _)) ∙ bit_at_cat_high (next % 2) 63 0 63 (lit< tt) (lit≤ tt) ∙ bit_at_lowest (next % 2) ∙ once ∙ sym (bit_at_lowest next)

-- What `without_bit` leaves: `low` has the bits in front of the one that goes, and `high` the others.
module _ (word at next : ℕ) (within : at < 64) where
  abbrev low : ℕ
  low = 1 * 2 ^ at % 2 ^ 64 - 1

  abbrev high : ℕ
  high = bit_not w64 low

  abbrev left : ℕ
  left = bit_or (bit_or (bit_and word low) (bit_and (word / 2) high)) (next % 2 * 2 ^ 63 % 2 ^ 64)

  low_is : low ≡ 2 ^ at - 1
  low_is = ap (λ m. m - 1) (one_shl at 64 within)

  low_fits : low < 2 ^ 64
  low_fits = let fewer : 2 ^ at < 2 ^ 64 = pow_below at 64 within in omega (arith, low_is)

  bit_of_left : (k : ℕ) → bit_at left k ≡ max (max (min (bit_at word k) (bit_at low k)) (min (bit_at (word / 2) k) (bit_at high k))) (bit_at (next % 2 * 2 ^ 63 % 2 ^ 64) k)
  bit_of_left k =
      bit_at_or (bit_or (bit_and word low) (bit_and (word / 2) high)) (next % 2 * 2 ^ 63 % 2 ^ 64) k
      ∙ ap (λ m. max m (bit_at (next % 2 * 2 ^ 63 % 2 ^ 64) k)) (
      bit_at_or (bit_and word low) (bit_and (word / 2) high) k
      ∙ ap (λ m. max m (bit_at (bit_and (word / 2) high) k)) (bit_at_and word low k)
      ∙ ap (λ m. max (min (bit_at word k) (bit_at low k)) m) (bit_at_and (word / 2) high k)
      )

  pub left_before : (k : ℕ) → k < at → has_bit left k ≡ has_bit word k
  left_before k before =
      let here : bit_at low k ≡ 1 = ap (λ m. bit_at m k) low_is ∙ bit_at_ones at k before in
      let gone : bit_at high k ≡ 1 - bit_at low k = bit_at_not w64 low k low_fits (omega arith) in
      let top : bit_at (next % 2 * 2 ^ 63 % 2 ^ 64) k ≡ 0 = top_low next k (omega arith) in
      let all = bit_of_left k in
      let bit : bit_at word k < 2 = bit_at-lt word k in
      let other : bit_at (word / 2) k < 2 = bit_at-lt (word / 2) k in
      same_bit left word k k (omega arith)

  pub left_behind : (k : ℕ) → at ≤ k → k + 1 < 64 → has_bit left k ≡ has_bit word (k + 1)
  left_behind k behind inside =
      let gone : bit_at low k ≡ 0 = ap (λ m. bit_at m k) low_is ∙ bit_at_ones_above at k behind in
      let here : bit_at high k ≡ 1 - bit_at low k = bit_at_not w64 low k low_fits (omega arith) in
      let top : bit_at (next % 2 * 2 ^ 63 % 2 ^ 64) k ≡ 0 = top_low next k (omega arith) in
      let all = bit_of_left k in
      let bit : bit_at word k < 2 = bit_at-lt word k in
      let other : bit_at (word / 2) k < 2 = bit_at-lt (word / 2) k in
      let further : bit_at word (k + 1) ≡ bit_at (word / 2) k = rw add-one (bit_at-suc word k) in
      same_bit left word k (k + 1) (omega arith)

  pub left_last : word < 2 ^ 64 → has_bit left 63 ≡ has_bit next 0
  left_last fits =
      let gone : bit_at low 63 ≡ 0 = ap (λ m. bit_at m 63) low_is ∙ bit_at_ones_above at 63 (omega arith) in
      let half : word / 2 < 2 ^ 63 = shr_below word 63 1 fits in
      let none : bit_at (word / 2) 63 ≡ 0 = bit_at_above (word / 2) 63 63 half (lit≤ tt) in
      let top : bit_at (next % 2 * 2 ^ 63 % 2 ^ 64) 63 ≡ bit_at next 0 = top_high next in
      let all = bit_of_left 63 in
      let other : bit_at word 63 < 2 = bit_at-lt word 63 in
      same_bit left next 63 0 (omega arith)
