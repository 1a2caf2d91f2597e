-- Reading a list at a place, over appends and prefixes.
use Rattle.std.proofs.Common.{◌≡◌, ℕ, zero, suc, ◌+◌, List, [], ◌∷◌, ◌++◌, length, drop, Option, Some, None, arith, refl, ◌∙◌, ap}
use Rattle.std.specs.List.{slice_get}

-- what stands at a place of a list stands there when more follows
pub slice_get-append_left : (xs ys : List ℕ) (k o : ℕ) → slice_get xs k ≡ Some o → slice_get (xs ++ ys) k ≡ Some o
slice_get-append_left [] ys k o e = cc
slice_get-append_left (x ∷ xs) ys zero o e = e
slice_get-append_left (x ∷ xs) ys (suc k) o e = slice_get-append_left xs ys k o e

-- the places behind a list are those of what follows
pub slice_get-append_right : (xs ys : List ℕ) (k : ℕ) → slice_get (xs ++ ys) (length xs + k) ≡ slice_get ys k
slice_get-append_right [] ys k = ap (slice_get ys) (omega arith)
slice_get-append_right (x ∷ xs) ys k =
    let e : suc (length xs) + k ≡ suc (length xs + k) = omega arith in
    ap (slice_get (x ∷ (xs ++ ys))) e ∙ slice_get-append_right xs ys k

-- a list whose every item stands at its place of another begins it
pub is_beginning : (xs ys : List ℕ) → ((i o : ℕ) → slice_get xs i ≡ Some o → slice_get ys i ≡ Some o) → ys ≡ xs ++ drop (length xs) ys
is_beginning [] ys same = refl
is_beginning (x ∷ xs) [] same = let none : Option ℕ = None in let e : none ≡ Some x = same 0 x refl in cc
is_beginning (x ∷ xs) (y ∷ ys) same =
    let e : Some y ≡ Some x = same 0 x refl in
    let i = is_beginning xs ys (λ i o. same (suc i) o) in
    cc
