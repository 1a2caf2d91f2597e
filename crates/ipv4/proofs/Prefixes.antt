-- Numbers of 32 bits under a mask of leading ones, and prefixes.
use Rattle.std.proofs.Common.{◌≡◌, ℕ, ◌-◌, ◌^◌, ◌<◌, ◌≤◌, ⊎_elim, nat_eq, bit_and, arith, refl, sym, ◌∙◌, ap}
use Rattle.std.specs.Bool.{Decides}
use Rattle.std.specs.Int.{bit_at}
use Rattle.std.proofs.lemmas.Bool.{cases_lt}
use Rattle.std.proofs.lemmas.Bool.Decides.{Decides-eqb, Decides-like}
use Rattle.std.proofs.lemmas.Nat.Bits.{bit_at_and, bit_at_mask_inside, bit_at_mask_below, bit_at-lt, same_from_bits_below}

-- a number with the bits past the first n of 32 cleared
abbrev masked : ℕ → ℕ → ℕ
masked x n = bit_and x (2 ^ 32 - 2 ^ (32 - n))

-- the first bits are kept
masked-first : (x n k : ℕ) → n ≤ 32 → k < n → bit_at (masked x n) (31 - k) ≡ bit_at x (31 - k)
masked-first x n k h l =
    let ones = bit_at_mask_inside (32 - n) 32 (31 - k) (omega arith) (omega arith) in
    omega (arith, bit_at_and x (2 ^ 32 - 2 ^ (32 - n)) (31 - k), ones, bit_at-lt x (31 - k))

-- the others are cleared
masked-past : (x n k : ℕ) → n ≤ k → k < 32 → bit_at (masked x n) (31 - k) ≡ 0
masked-past x n k h l =
    let zeros = bit_at_mask_below (32 - n) 32 (31 - k) (omega arith) in
    omega (arith, bit_at_and x (2 ^ 32 - 2 ^ (32 - n)) (31 - k), zeros)

-- numbers whose bits, counted from the highest of 32, are the same
pub same_bits : (x y : ℕ) → x < 2 ^ 32 → y < 2 ^ 32 → ((k : ℕ) → k < 32 → bit_at x (31 - k) ≡ bit_at y (31 - k)) → x ≡ y
same_bits x y hx hy each = same_from_bits_below 32 x y hx hy at
  where
    at : (i : ℕ) → i < 32 → bit_at x i ≡ bit_at y i
    at i h = let place : 31 - (31 - i) ≡ i = omega arith in rw place at (each (31 - i) (omega arith))

-- a masked number is p, which has no bit past the first n, exactly where the first n bits are those of p
masked_is : (f p x n : ℕ) → f ≡ masked x n → f < 2 ^ 32 → p < 2 ^ 32 → n ≤ 32 → ((k : ℕ) → n ≤ k → k < 32 → bit_at p (31 - k) ≡ 0)
    → ((k : ℕ) → k < n → bit_at p (31 - k) ≡ bit_at x (31 - k)) → f ≡ p
masked_is f p x n is hf hp h zeros alike = same_bits f p hf hp each
  where
    each : (k : ℕ) → k < 32 → bit_at f (31 - k) ≡ bit_at p (31 - k)
    each k l =
        ap (λ m. bit_at m (31 - k)) is
        ∙ ⊎_elim (λ inside. masked-first x n k h inside ∙ sym (alike k inside)) (λ past. masked-past x n k past l ∙ sym (zeros k past l)) (cases_lt k n)

-- the test of `contains`
pub contains_decides : (f p x n : ℕ) → f ≡ masked x n → f < 2 ^ 32 → p < 2 ^ 32 → n ≤ 32 → ((k : ℕ) → n ≤ k → k < 32 → bit_at p (31 - k) ≡ 0)
    → Decides (nat_eq f p) ((k : ℕ) → k < n → bit_at p (31 - k) ≡ bit_at x (31 - k))
contains_decides f p x n is hf hp h zeros = Decides-like (nat_eq f p) forth back (Decides-eqb f p)
  where
    forth : f ≡ p → (k : ℕ) → k < n → bit_at p (31 - k) ≡ bit_at x (31 - k)
    forth same k inside = ap (λ m. bit_at m (31 - k)) (sym same ∙ is) ∙ masked-first x n k h inside

    back : ((k : ℕ) → k < n → bit_at p (31 - k) ≡ bit_at x (31 - k)) → f ≡ p
    back = masked_is f p x n is hf hp h zeros

-- a masked number is as it was only where no bit past the first n is set, and always there
pub unmasked : (f x n : ℕ) → f ≡ masked x n → f ≡ x → (k : ℕ) → n ≤ k → k < 32 → bit_at x (31 - k) ≡ 0
unmasked f x n is same k past l = ap (λ m. bit_at m (31 - k)) (sym same ∙ is) ∙ masked-past x n k past l

pub still : (f x n : ℕ) → f ≡ masked x n → f < 2 ^ 32 → x < 2 ^ 32 → n ≤ 32 → ((k : ℕ) → n ≤ k → k < 32 → bit_at x (31 - k) ≡ 0) → f ≡ x
still f x n is hf hx h zeros = masked_is f x x n is hf hx h zeros (λ k _. refl)
