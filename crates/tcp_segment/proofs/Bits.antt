-- Single bits of an octet.
use Rattle.std.proofs.Common.{◌≡◌, ℕ, zero, suc, ◌*◌, ◌/◌, ◌%◌, ◌^◌, ◌<◌, ◌≤◌, nat_eq, arith, bit_and}
use Rattle.std.proofs.lemmas.Bool.Decides.{nat_tests}
use Rattle.std.proofs.lemmas.Nat.Bits.{and_pow}
use mathlib.Core.Bool.{not}

-- one bit under its mask is there or not
tested : (b p : ℕ) → b < 2 → 1 ≤ p → not (nat_eq (b * p) 0) ≡ nat_eq b 1
tested zero p below some = grind (arith, nat_tests)
tested (suc zero) p below some = grind (arith, nat_tests)
tested (suc (suc b)) p below some = absurd (omega arith)

-- the test of a mask of one bit
pub masked : (n k p : ℕ) → p ≡ 2 ^ k → 1 ≤ p → not (nat_eq (bit_and n p) 0) ≡ nat_eq (n / p % 2) 1
masked n k p e some =
    rw (e, and_pow n k) (rw (← e) (tested (n / p % 2) p (omega arith) some))
