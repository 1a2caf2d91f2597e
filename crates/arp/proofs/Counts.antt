-- How many items of a list pass a test, over changes of the list.
use Rattle.std.proofs.Common.{◌≡◌, ℕ, zero, suc, ◌+◌, ◌≤◌, Bool, true, false, List, [], ◌∷◌, ◌++◌, ◌||◌, length, filter, map, cond, refl, sym, ◌∙◌, ap, arith}
use Rattle.std.specs.List.{list_any, remove}

-- one where a test passes, and else none
abbrev pub one_if : Bool → ℕ
one_if b = cond b 1 0

abbrev pub passing : {X : Type 0} → (X → Bool) → List X → ℕ
passing p xs = length (filter p xs)

-- one item more
pub passing-cons : {X : Type 0} (p : X → Bool) (x : X) (xs : List X) → passing p (x ∷ xs) ≡ one_if (p x) + passing p xs
passing-cons p x xs = either (p x)
  where
    either : (b : Bool) → length (cond b (x ∷ filter p xs) (filter p xs)) ≡ one_if b + length (filter p xs)
    either true = omega arith
    either false = omega arith

pub passing-append : {X : Type 0} (p : X → Bool) (xs ys : List X) → passing p (xs ++ ys) ≡ passing p xs + passing p ys
passing-append p [] ys = omega arith
passing-append p (x ∷ xs) ys = omega (arith, passing-cons p x (xs ++ ys), passing-cons p x xs, passing-append p xs ys)

pub passing-filter : {X : Type 0} (p q : X → Bool) (xs : List X) → passing p (filter q xs) ≤ passing p xs
passing-filter p q [] = omega arith
passing-filter p q (x ∷ xs) = either (passing-filter p q xs) (q x)
  where
    either : passing p (filter q xs) ≤ passing p xs → (b : Bool) → passing p (cond b (x ∷ filter q xs) (filter q xs)) ≤ passing p (x ∷ xs)
    either rest true = omega (arith, passing-cons p x (filter q xs), passing-cons p x xs, rest)
    either rest false = omega (arith, passing-cons p x xs, rest)

pub passing-remove : {X : Type 0} (p : X → Bool) (xs : List X) (i : ℕ) → passing p (remove xs i) ≤ passing p xs
passing-remove p [] zero = omega arith
passing-remove p [] (suc i) = omega arith
passing-remove p (x ∷ xs) zero = omega (arith, passing-cons p x xs)
passing-remove p (x ∷ xs) (suc i) = omega (arith, passing-cons p x (remove xs i), passing-cons p x xs, passing-remove p xs i)

-- a map that changes the outcome of no test
pub passing-map : {X : Type 0} (p : X → Bool) (f : X → X) → ((x : X) → p (f x) ≡ p x) → (xs : List X) → passing p (map f xs) ≡ passing p xs
passing-map p f same [] = refl
passing-map p f same (x ∷ xs) =
    passing-cons p (f x) (map f xs) ∙ (ap (λ b. one_if b + passing p (map f xs)) (same x) ∙ (ap (λ n. one_if (p x) + n) (passing-map p f same xs) ∙ sym (passing-cons p x xs)))

pub passing-none : {X : Type 0} (p : X → Bool) (xs : List X) → list_any p xs ≡ false → passing p xs ≡ 0
passing-none p [] none = refl
passing-none p (x ∷ xs) none = either (passing-none p xs) (p x) refl none
  where
    either : (list_any p xs ≡ false → passing p xs ≡ 0) → (b : Bool) → p x ≡ b → (b || list_any p xs) ≡ false → passing p (x ∷ xs) ≡ 0
    either rest true e is = cc
    either rest false e is = passing-cons p x xs ∙ (ap (λ b. one_if b + passing p xs) e ∙ omega (arith, rest is))
