-- Octets with their flags.
use Rattle.std.proofs.Common.{◌≡◌, ℕ, zero, suc, ◌+◌, ◌≤◌, ◌<◌, Bool, true, false, not, nat_eq, cond, List, [], ◌∷◌, ◌++◌, length, take, drop, map, replicate, Some, None, is_some, unwrap_or, refl, ◌∙◌, ap, arith}
use Rattle.std.specs.List.{list_all, count_by}
use Rattle.std.proofs.lemmas.Bool.Decides.{nat_tests}
use Rattle.std.proofs.lemmas.List.Sums.{sum_by-cons, sum_by-append}
use Rattle.reassembly.specs.Buffers.{known, count_set}

known-nil : (xs : List ℕ) → known xs [] ≡ []
known-nil [] = refl
known-nil (x ∷ xs) = refl

pub known-append : (xs ys : List ℕ) (ps qs : List Bool) → length xs ≡ length ps → known (xs ++ ys) (ps ++ qs) ≡ known xs ps ++ known ys qs
known-append [] ys [] qs e = refl
known-append [] ys (p ∷ ps) qs e = absurd (omega arith)
known-append (x ∷ xs) ys [] qs e = absurd (omega arith)
known-append (x ∷ xs) ys (p ∷ ps) qs e = ap (λ rest. cond p (Some x) None ∷ rest) (known-append xs ys ps qs (omega arith))

pub known-take : (n : ℕ) (xs : List ℕ) (ps : List Bool) → known (take n xs) (take n ps) ≡ take n (known xs ps)
known-take zero xs ps = refl
known-take (suc n) [] ps = refl
known-take (suc n) (x ∷ xs) [] = refl
known-take (suc n) (x ∷ xs) (p ∷ ps) = ap (λ rest. cond p (Some x) None ∷ rest) (known-take n xs ps)

pub known-drop : (n : ℕ) (xs : List ℕ) (ps : List Bool) → known (drop n xs) (drop n ps) ≡ drop n (known xs ps)
known-drop zero xs ps = refl
known-drop (suc n) [] ps = refl
known-drop (suc n) (x ∷ xs) [] = known-nil (drop n xs)
known-drop (suc n) (x ∷ xs) (p ∷ ps) = known-drop n xs ps

pub length-known : (xs : List ℕ) (ps : List Bool) → length xs ≡ length ps → length (known xs ps) ≡ length xs
length-known [] ps e = refl
length-known (x ∷ xs) [] e = absurd (omega arith)
length-known (x ∷ xs) (p ∷ ps) e = ap (λ n. suc n) (length-known xs ps (omega arith))

-- octets whose flags are all set, and all clear
pub known_set : (xs : List ℕ) → known xs (replicate (length xs) true) ≡ map Some xs
known_set [] = refl
known_set (x ∷ xs) = ap (λ rest. Some x ∷ rest) (known_set xs)

pub known_clear : (xs : List ℕ) (n : ℕ) → length xs ≡ n → known xs (replicate n false) ≡ replicate n None
known_clear [] zero e = refl
known_clear [] (suc n) e = absurd (omega arith)
known_clear (x ∷ xs) zero e = absurd (omega arith)
known_clear (x ∷ xs) (suc n) e = ap (λ rest. None ∷ rest) (known_clear xs n (omega arith))

-- how many flags are set
pub count-cons : (p : Bool) (ps : List Bool) → count_set (p ∷ ps) ≡ cond p 1 0 + count_set ps
count-cons p ps = sum_by-cons (λ flag. cond flag 1 0) p ps

pub count-append : (ps qs : List Bool) → count_set (ps ++ qs) ≡ count_set ps + count_set qs
count-append ps qs = sum_by-append (λ flag. cond flag 1 0) ps qs

pub count_all : (n : ℕ) → count_set (replicate n true) ≡ n
count_all zero = refl
count_all (suc n) = omega (arith, count-cons true (replicate n true), count_all n)

pub count_none : (n : ℕ) → count_set (replicate n false) ≡ 0
count_none zero = refl
count_none (suc n) = omega (arith, count-cons false (replicate n false), count_none n)

-- each flag is set or clear
pub count-both : (ps : List Bool) → count_set ps + count_by not ps ≡ length ps
count-both [] = refl
count-both (true ∷ ps) = omega (arith, count-cons true ps, sum_by-cons (λ flag. cond (not flag) 1 0) true ps, count-both ps)
count-both (false ∷ ps) = omega (arith, count-cons false ps, sum_by-cons (λ flag. cond (not flag) 1 0) false ps, count-both ps)

pub count-le : (ps : List Bool) → count_set ps ≤ length ps
count-le ps = omega (arith, count-both ps)

-- all are set where as many are
eq_step : (a b n m : ℕ) → a ≡ 1 + n → b ≡ 1 + m → nat_eq a b ≡ nat_eq n m
eq_step a b n m e f = grind (arith, nat_tests)

eq_less : (a b : ℕ) → a < b → nat_eq a b ≡ false
eq_less a b h = grind (arith, nat_tests)

pub covered_is : (xs : List ℕ) (ps : List Bool) → length xs ≡ length ps → nat_eq (count_set ps) (length ps) ≡ list_all is_some (known xs ps)
covered_is [] [] e = refl
covered_is [] (p ∷ ps) e = absurd (omega arith)
covered_is (x ∷ xs) [] e = absurd (omega arith)
covered_is (x ∷ xs) (true ∷ ps) e =
    eq_step (count_set (true ∷ ps)) (length (true ∷ ps)) (count_set ps) (length ps) (count-cons true ps) (omega arith) ∙ covered_is xs ps (omega arith)
covered_is (x ∷ xs) (false ∷ ps) e = eq_less (count_set (false ∷ ps)) (length (false ∷ ps)) (omega (arith, count-cons false ps, count-le ps))

pub filled-known : (xs : List ℕ) (ps : List Bool) → length xs ≡ length ps → list_all is_some (known xs ps) ≡ true
    → map (λ octet. unwrap_or octet 0) (known xs ps) ≡ xs
filled-known [] ps e covered = refl
filled-known (x ∷ xs) [] e covered = absurd (omega arith)
filled-known (x ∷ xs) (true ∷ ps) e covered = ap (λ rest. x ∷ rest) (filled-known xs ps (omega arith) covered)
filled-known (x ∷ xs) (false ∷ ps) e covered = cc
