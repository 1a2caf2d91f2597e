-- What a test takes out of a list, and what is left, are all of it.
use Rattle.std.proofs.Common.{◌≡◌, ℕ, suc, ◌+◌, not, Bool, true, false, cond, length, List, [], ◌∷◌, refl, sym, ◌∙◌, ap, arith}
use Rattle.std.proofs.lemmas.List.Sums.{length-filter, sum_by-cons}
use Rattle.std.specs.List.{count_by, filter, sum_by}

split : (b : Bool) → cond b 1 0 + cond (not b) 1 0 ≡ 1
split true = refl
split false = refl

joined : (n taken left one other : ℕ) → n ≡ left + taken → other + one ≡ 1 → suc n ≡ (one + left) + (other + taken)
joined n taken left one other all each = omega (arith, all, each)

abbrev one : {X : Type 0} → (X → Bool) → X → ℕ
one test x = cond (test x) 1 0

both : {X : Type 0} (taken left : X → Bool) → ((x : X) → left x ≡ not (taken x)) → (xs : List X) → length xs ≡ sum_by (one left) xs + sum_by (one taken) xs
both taken left other [] = refl
both taken left other (x ∷ xs) =
    joined (length xs) (sum_by (one taken) xs) (sum_by (one left) xs) (one left x) (one taken x) (both taken left other xs) (ap (λ b. cond (taken x) 1 0 + cond b 1 0) (other x) ∙ split (taken x))
    ∙ ap (λ n. n + (one taken x + sum_by (one taken) xs)) (sym (sum_by-cons (one left) x xs))
    ∙ ap (λ n. sum_by (one left) (x ∷ xs) + n) (sym (sum_by-cons (one taken) x xs))

pub counted : {X : Type 0} (taken left : X → Bool) → ((x : X) → left x ≡ not (taken x)) → (xs : List X) → length xs ≡ length (filter left xs) + count_by taken xs
counted taken left other xs = both taken left other xs ∙ ap (λ n. n + sum_by (one taken) xs) (sym (length-filter left xs))

pub twice_not : (b : Bool) → b ≡ not (not b)
twice_not true = refl
twice_not false = refl
