-- The first of a list, one after another, go behind the others.
use Rattle.std.proofs.Common.{◌≡◌, ℕ, suc, ◌+◌, ◌-◌, ◌<◌, List, [], ◌∷◌, ◌++◌, length, get_or, take, drop, Some, None, sym, ◌∙◌, ap, length-append, arith}
use Rattle.std.specs.List.{slice_get}
use Rattle.std.proofs.Math.Seq.{take-suc, drop-cons}
use Rattle.std.proofs.lemmas.List.{length-drop, length-take, append_assoc}
use Rattle.circular_buffer.specs.Buffer.{keep_last}

-- the first n behind the others
abbrev pub turned : {X : Type 0} → ℕ → List X → List X
turned n xs = drop n xs ++ take n xs

pub length-turned : {X : Type 0} (n : ℕ) (xs : List X) → length (turned n xs) ≡ length xs
length-turned n xs = omega (arith, length-append (drop n xs) (take n xs), length-drop n xs, length-take n xs)

pub turned_next : {X : Type 0} (xs : List X) (i : ℕ) (x : X) → i < length xs → slice_get (turned i xs) 0 ≡ Some x
    → drop 1 (turned i xs) ++ x ∷ [] ≡ turned (i + 1) xs
turned_next {X} xs i x below first =
    let cons = drop-cons xs i x below in
    let front : Some (get_or xs i x) ≡ Some x = ap (λ (ys : List X). slice_get (ys ++ take i xs) 0) (sym cons) ∙ first in
    let same : get_or xs i x ≡ x = cc in
    let next : suc i ≡ i + 1 = omega arith in
    ap (λ (ys : List X). drop 1 (ys ++ take i xs) ++ x ∷ []) cons
    ∙ append_assoc (drop (suc i) xs) (take i xs) (x ∷ [])
    ∙ ap (λ (y : X). drop (suc i) xs ++ (take i xs ++ y ∷ [])) (sym same)
    ∙ ap (λ (ys : List X). drop (suc i) xs ++ ys) (sym (take-suc xs i x below))
    ∙ ap (λ (n : ℕ). turned n xs) next

-- a list with an item left has a first one
pub has_first : {X : Type 0} (xs : List X) → 0 < length xs → slice_get xs 0 ≡ None → ⊥
has_first [] some none = omega (arith, some)
has_first (x ∷ xs) some none = cc

-- nothing is lost where one was taken out before
pub pushed_whole : {X : Type 0} (xs : List X) (x : X) (capacity : ℕ) → length xs < capacity → keep_last capacity (xs ++ x ∷ []) ≡ xs ++ x ∷ []
pushed_whole xs x capacity room =
    let none : length (xs ++ x ∷ []) - capacity ≡ 0 = omega (arith, length-append xs (x ∷ []), room) in
    ap (λ (n : ℕ). drop n (xs ++ x ∷ [])) none

pub length-rest : {X : Type 0} (xs : List X) → 0 < length xs → length (drop 1 xs) + 1 ≡ length xs
length-rest xs some = omega (arith, length-drop 1 xs, some)
