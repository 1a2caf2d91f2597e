-- Short lists, one by one.
use Rattle.std.proofs.Common.{◌≡◌, ℕ, ◌+◌, ◌-◌, ◌≤◌, List, [], ◌∷◌, ◌++◌, length, take, drop, get_or, slice_range, arith, refl, sym, ◌∙◌, ap}
use Rattle.std.proofs.Math.Seq.{drop-append_seam, take-append-add}

-- six octets
pub six : (xs : List ℕ) → length xs ≡ 6 → xs ≡ get_or xs 0 0 ∷ get_or xs 1 0 ∷ get_or xs 2 0 ∷ get_or xs 3 0 ∷ get_or xs 4 0 ∷ get_or xs 5 0 ∷ []
six [] n = absurd (omega arith)
six (a ∷ []) n = absurd (omega arith)
six (a ∷ b ∷ []) n = absurd (omega arith)
six (a ∷ b ∷ c ∷ []) n = absurd (omega arith)
six (a ∷ b ∷ c ∷ d ∷ []) n = absurd (omega arith)
six (a ∷ b ∷ c ∷ d ∷ e ∷ []) n = absurd (omega arith)
six (a ∷ b ∷ c ∷ d ∷ e ∷ f ∷ []) n = refl
six (a ∷ b ∷ c ∷ d ∷ e ∷ f ∷ g ∷ rest) n = absurd (omega arith)

-- a header of twenty octets is written before what stands in a buffer, what it begins is summed, and it is written again
pub written : (header : ℕ → List ℕ) (summed : List ℕ → ℕ) (first second out once twice : List ℕ) (checksum len : ℕ) → ((n : ℕ) → length (header n) ≡ 20) → 20 ≤ len
    → first ≡ header 0 → once ≡ first ++ drop 20 out → checksum ≡ summed (take len once) → second ≡ header checksum → twice ≡ second ++ drop 20 once
    → twice ≡ header (summed (header 0 ++ slice_range out 20 len)) ++ drop 20 out
written header summed first second out once twice checksum len twenty long is_first is_once is_sum is_second is_twice =
    let start : once ≡ header 0 ++ drop 20 out = is_once ∙ ap (λ l. l ++ drop 20 out) is_first in
    let tail : drop 20 (header 0 ++ drop 20 out) ≡ drop 20 out =
    ap (λ (n : ℕ). drop n (header 0 ++ drop 20 out)) (sym (twenty 0)) ∙ drop-append_seam (header 0) (drop 20 out) in
    let parted : len ≡ length (header 0) + (len - 20) = omega (arith, twenty 0, long) in
    let covered : take len (header 0 ++ drop 20 out) ≡ header 0 ++ take (len - 20) (drop 20 out) =
    ap (λ (n : ℕ). take n (header 0 ++ drop 20 out)) parted ∙ take-append-add (header 0) (drop 20 out) (len - 20) in
    let sum : checksum ≡ summed (header 0 ++ slice_range out 20 len) = is_sum ∙ ap summed (ap (λ l. take len l) start ∙ covered) in
    is_twice ∙ (ap (λ l. second ++ drop 20 l) start ∙ (ap (λ l. second ++ l) tail ∙ ap (λ l. l ++ drop 20 out) (is_second ∙ ap header sum)))
