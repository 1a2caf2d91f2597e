-- Octets that are copied out of two parts of a ring.
use Rattle.std.proofs.Common.{◌≡◌, ℕ, ◌+◌, ◌-◌, ◌≤◌, List, ◌++◌, length, take, drop, slice_range, sym, ◌∙◌, ap, arith}
use Rattle.std.proofs.lemmas.List.{drop-append-le}
use Rattle.std.proofs.Math.Seq.{drop-append-add, take-append-add}

-- all of a list, and the first octets of what follows it
pub across : (front back : List ℕ) (n : ℕ) → length front ≤ n → front ++ take (n - length front) back ≡ take n (front ++ back)
across front back n more =
    let whole : length front + (n - length front) ≡ n = omega (arith, more) in
    sym (take-append-add front back (n - length front)) ∙ ap (λ (m : ℕ). take m (front ++ back)) whole

-- a part that lies in the second of two lists
pub in_back : (front back : List ℕ) (at n : ℕ) → length front ≤ at → take n (drop (at - length front) back) ≡ slice_range (front ++ back) at (at + n)
in_back front back at n behind =
    let count : at + n - at ≡ n = omega arith in
    let place : length front + (at - length front) ≡ at = omega (arith, behind) in
    let rest : drop at (front ++ back) ≡ drop (at - length front) back =
    ap (λ (m : ℕ). drop m (front ++ back)) (sym place) ∙ drop-append-add front back (at - length front) in
    sym (ap (λ (m : ℕ). take m (drop at (front ++ back))) count ∙ ap (λ (xs : List ℕ). take n xs) rest)

-- one that begins in the first
pub from_front : (front back : List ℕ) (at n : ℕ) → at ≤ length front → take n (drop at front ++ back) ≡ slice_range (front ++ back) at (at + n)
from_front front back at n within =
    let count : at + n - at ≡ n = omega arith in
    sym (ap (λ (m : ℕ). take m (drop at (front ++ back))) count ∙ ap (λ (xs : List ℕ). take n xs) (drop-append-le at front back within))
