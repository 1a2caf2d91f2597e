-- What a read of a list in memory moves.
use Rattle.std.proofs.Common.{◌≡◌, ℕ, List, ◌+◌, ◌<◌, ◌≤◌, ◌++◌, [], take, drop, length, min, ap, sym, ◌∙◌, arith}
use Rattle.std.proofs.Math.Seq.{take-add}
use Rattle.std.proofs.lemmas.List.{take-append-drop, drop-drop, length-drop}
use Rattle.std.proofs.Math.ListN.{drop_of_length-le}

-- the octets given so far, after n more that a buffer holds at its front
pub given_more : (at n : ℕ) (xs buffer rest : List ℕ) → rest ≡ drop at xs → take n buffer ≡ take n rest →
    take (at + n) xs ≡ take at xs ++ take n buffer
given_more at n xs buffer rest is same =
    take-add at n xs ∙ ap (λ ys. take at xs ++ ys) (ap (take n) (sym is) ∙ sym same)

-- what remains is those n octets and then the new rest
pub remaining_less : (at n : ℕ) (xs buffer rest : List ℕ) → rest ≡ drop at xs → take n buffer ≡ take n rest →
    drop at xs ≡ take n buffer ++ drop (at + n) xs
remaining_less at n xs buffer rest is same =
    sym is ∙ sym (take-append-drop n rest) ∙ ap (λ ys. ys ++ drop n rest) (sym same)
    ∙ ap (λ ys. take n buffer ++ ys) (ap (drop n) is ∙ drop-drop n at xs)

-- a copy of no octet into a buffer with room, where a copy may be of one, is at the end
pub none_at_end : (at n most room : ℕ) (xs rest : List ℕ) → rest ≡ drop at xs → 1 ≤ most → 0 < room →
    n ≡ min (min (length rest) room) most → n ≡ 0 → drop (at + n) xs ≡ []
none_at_end at n most room xs rest is some has_room count none =
    let short : length rest ≡ 0 = omega arith in
    let past : length xs ≤ at + n = omega (arith, ap length is, length-drop at xs) in
    drop_of_length-le xs past
