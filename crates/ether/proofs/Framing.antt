-- A head of fourteen octets before a payload that is padded.
use Rattle.std.proofs.Common.{◌≡◌, ℕ, ◌+◌, ◌-◌, ◌≤◌, List, [], ◌∷◌, ◌++◌, length, take, drop, get_or, arith, refl, sym, ◌∙◌, ap, append_assoc, length-drop}
use Rattle.std.specs.List.{slice_range}
use Rattle.std.proofs.lemmas.List.{length-take, drop-take, drop-append-le, drop-drop}
use borrow.Rule.Slice.PartMut.{put_mid}

-- six octets, one by one
pub six : (xs : List ℕ) → length xs ≡ 6 → xs ≡ get_or xs 0 0 ∷ get_or xs 1 0 ∷ get_or xs 2 0 ∷ get_or xs 3 0 ∷ get_or xs 4 0 ∷ get_or xs 5 0 ∷ []
six [] n = absurd (omega arith)
six (a ∷ []) n = absurd (omega arith)
six (a ∷ b ∷ []) n = absurd (omega arith)
six (a ∷ b ∷ c ∷ []) n = absurd (omega arith)
six (a ∷ b ∷ c ∷ d ∷ []) n = absurd (omega arith)
six (a ∷ b ∷ c ∷ d ∷ e ∷ []) n = absurd (omega arith)
six (a ∷ b ∷ c ∷ d ∷ e ∷ f ∷ []) n = refl
six (a ∷ b ∷ c ∷ d ∷ e ∷ f ∷ g ∷ rest) n = absurd (omega arith)

-- a head before what stands behind it
pub framed : (hd hd' out zeros zeros' : List ℕ) (n end width : ℕ) → hd ≡ hd' → zeros ≡ zeros' → 14 + n ≤ end → end ≤ length out → width ≡ end - (14 + n) → length zeros ≡ width
    → put_mid 0 14 (put_mid (14 + n) width out zeros) hd ≡ (hd' ++ (slice_range out 14 (14 + n) ++ zeros')) ++ drop end out
framed hd hd' out zeros zeros' n end width same_head same_zeros first within is_width fits =
    let rest = zeros ++ drop width (drop (14 + n) out) in
    let long : 14 ≤ length (take (14 + n) out) = omega (arith, length-take (14 + n) out, first, within) in
    let cut : drop 14 (take (14 + n) out ++ rest) ≡ drop 14 (take (14 + n) out) ++ rest = drop-append-le 14 (take (14 + n) out) rest long in
    let payload : drop 14 (take (14 + n) out) ≡ take n (drop 14 out) = drop-take 14 n out in
    let same_count : n ≡ 14 + n - 14 = omega arith in
    let range : take n (drop 14 out) ≡ slice_range out 14 (14 + n) = ap (λ m. take m (drop 14 out)) same_count in
    let place : 14 + n + width ≡ end = omega (arith, is_width, first) in
    let tail : drop width (drop (14 + n) out) ≡ drop end out = drop-drop width (14 + n) out ∙ ap (λ m. drop m out) place in
    ap (λ l. hd ++ l) (cut ∙ (ap (λ l. l ++ rest) (payload ∙ range) ∙ (ap (λ l. slice_range out 14 (14 + n) ++ (zeros ++ l)) tail ∙ sym (append_assoc (slice_range out 14 (14 + n)) zeros (drop end out)))))
    ∙ (sym (append_assoc hd (slice_range out 14 (14 + n) ++ zeros) (drop end out)) ∙ (ap (λ l. (hd ++ (slice_range out 14 (14 + n) ++ l)) ++ drop end out) same_zeros
    ∙ ap (λ l. (l ++ (slice_range out 14 (14 + n) ++ zeros')) ++ drop end out) same_head))

-- a part of a list has as many items as places
pub slice_range-length : (xs : List ℕ) (n : ℕ) → 14 + n ≤ length xs → length (slice_range xs 14 (14 + n)) ≡ n
slice_range-length xs n within = length-take (14 + n - 14) (drop 14 xs) ∙ omega (arith, within, length-drop 14 xs)
