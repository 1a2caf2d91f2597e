-- The first element that passes one of two tests.
use Rattle.std.proofs.Common.{◌≡◌, ℕ, ◌<◌, ◌≤◌, ◌||◌, Bool, true, false, true≢false, List, [], ◌∷◌, length, get_or, Option, Some, None, refl, sym, ◌∙◌, arith}
use Rattle.std.specs.Prelude.{nat_le}
use Rattle.std.specs.List.{list_any, position}
use Rattle.std.proofs.lemmas.Bool.Decides.{nat_tests}
use Rattle.std.proofs.lemmas.List.{get_or_default}
use Rattle.std.proofs.lemmas.List.Folds.{list_any_at}
use Rattle.std.proofs.lemmas.List.Quantifiers.{position-Some}
use Rattle.sockets.specs.Outlook.{first_of}
use Rattle.sockets.proofs.Ascending.{is_some-position}
use Rattle.sockets.proofs.Firsts.{position-from_fails, position-none_passes}
use Rattle.sockets.proofs.Followed.{by_test}

-- no element passes where there is no place
pub none_passes : {X : Type 0} (test : X → Bool) (xs : List X) → position test xs ≡ None → (i : ℕ) (d : X) → i < length xs → test (get_or xs i d) ≡ false
none_passes test xs none i d within =
    by_test (test (get_or xs i d))
    (λ passes. let any : list_any test xs ≡ true = list_any_at test xs i d within passes in
    let no : false ≡ list_any test xs = is_some-position test xs None (sym none) in
    absurd (true≢false (sym any ∙ sym no)))
    (λ fails. fails)

or_true : (b : Bool) → b || true ≡ true
or_true true = refl
or_true false = refl

module _ {X : Type 0} (p q : X → Bool) (xs : List X) where
  abbrev either : X → Bool
  either x = p x || q x

  -- it is here, where neither test passes before
  is_here : (i : ℕ) (y : X) → i < length xs → either (get_or xs i y) ≡ true → ((k : ℕ) (d : X) → k < i → p (get_or xs k d) ≡ false) → ((k : ℕ) (d : X) → k < i → q (get_or xs k d) ≡ false) → position either xs ≡ Some i
  is_here i y within passes first second =
      position-from_fails either xs i (get_or xs i y) within (λ k d low below. rw (first k d below, second k d below) refl) (get_or_default xs i y (get_or xs i y) within) passes

  by_places : (y : X) (one other : Option ℕ) → position p xs ≡ one → position q xs ≡ other → first_of one other ≡ position either xs
  by_places y None None first second = sym (position-none_passes either xs (λ k d low within. rw (none_passes p xs first k d within, none_passes q xs second k d within) refl))
  by_places y (Some i) None first second =
      let there = position-Some p xs i y first in
      sym (is_here i y there.0 (rw there.1 refl) (λ k d below. (position-Some p xs i d first).2 k below) (λ k d below. none_passes q xs second k d (omega (arith, there.0))))
  by_places y None (Some j) first second =
      let there = position-Some q xs j y second in
      sym (is_here j y there.0 (rw there.1 (or_true _)) (λ k d below. none_passes p xs first k d (omega (arith, there.0))) (λ k d below. (position-Some q xs j d second).2 k below))
  by_places y (Some i) (Some j) first second =
      let there = position-Some p xs i y first in
      let back = position-Some q xs j y second in
      by_test (nat_le i j)
      (λ first_one.
      let behind : i ≤ j = grind (arith, nat_tests) in
      rw first_one (sym (is_here i y there.0 (rw there.1 refl) (λ k d below. (position-Some p xs i d first).2 k below) (λ k d below. (position-Some q xs j d second).2 k (omega (arith, below, behind))))))
      (λ first_other.
      let before : j < i = grind (arith, nat_tests) in
      rw first_other (sym (is_here j y back.0 (rw back.1 (or_true _)) (λ k d below. (position-Some p xs i d first).2 k (omega (arith, below, before))) (λ k d below. (position-Some q xs j d second).2 k below))))

-- the place of the first is the first of the places of the two
pub position-either : {X : Type 0} (p q : X → Bool) (xs : List X) → first_of (position p xs) (position q xs) ≡ position (λ x. p x || q x) xs
position-either p q [] = refl
position-either p q (y ∷ ys) = by_places p q (y ∷ ys) y (position p (y ∷ ys)) (position q (y ∷ ys)) refl refl
