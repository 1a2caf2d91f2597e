-- The first element of a list that passes a test, by its place.
use Rattle.std.proofs.Common.{◌≡◌, ℕ, zero, suc, ◌<◌, ◌≤◌, Bool, true, false, cond, nat_lt, List, [], ◌∷◌, ◌++◌, length, take, drop, get_or, set, Option, Some, None, is_some, refl, sym, ◌∙◌, ap, arith, length-set}
use Rattle.std.specs.List.{find, position, position_or_len, slice_get, AllWithin}
use Rattle.std.proofs.lemmas.List.Quantifiers.{position-Some}
use Rattle.std.proofs.lemmas.List.Folds.{find_at}
use Rattle.std.proofs.lemmas.List.Sums.{position_or_len_is}
use Rattle.std.proofs.lemmas.Bool.Decides.{nat_tests}
use Rattle.std.proofs.lemmas.Option.{slice_get-get_or, slice_get_past, cond_some}
use Rattle.std.proofs.lemmas.Bool.{ltb-false}
use Rattle.std.proofs.lemmas.Grind.{common_steps}
use Rattle.std.specs.List.{remove}
use Rattle.sockets.specs.Lists.{change_first, remove_first}

-- a change of the first element that passes is a write at its place
pub change_first-place : {X : Type 0} (p : X → Bool) (f : X → X) (xs : List X) (i : ℕ) (d : X) → i < length xs → p (get_or xs i d) ≡ true → ((k : ℕ) → k < i → p (get_or xs k d) ≡ false) → change_first p f xs ≡ set xs i (f (get_or xs i d))
change_first-place p f [] i d within passes before = absurd (omega arith)
change_first-place p f (x ∷ xs) zero d within passes before = rw passes
change_first-place p f (x ∷ xs) (suc i) d within passes before =
    let first : p x ≡ false = before 0 (omega arith) in
    let rest : change_first p f xs ≡ set xs i (f (get_or xs i d)) =
    change_first-place p f xs i d (omega arith) passes (λ k h. before (suc k) (omega arith))
    in
    rw first (ap (λ ys. x ∷ ys) rest)

-- at this place stands the first element that passes
pub record IsFirst {X : Type 0} (test : X → Bool) (xs : List X) (i : ℕ) : Type 0 where
  pub within : i < length xs
  pub found : (x : X) → x ≡ get_or xs i x → find test xs ≡ Some x
  pub changed : (x : X) (change : X → X) → x ≡ get_or xs i x → change_first test change xs ≡ set xs i (change x)

-- what `position` finds is the first element that passes
pub IsFirst-position : {X : Type 0} (p : X → Bool) (xs : List X) (i : ℕ) → position p xs ≡ Some i → IsFirst p xs i
IsFirst-position p [] i e = cc
IsFirst-position p (y ∷ ys) i e =
    let within : i < length (y ∷ ys) = (position-Some p (y ∷ ys) i y e).0 in
    let place : position_or_len p (y ∷ ys) ≡ i = (cond_some _ _ _ e).1 in
    record {
      within = within;
      found = λ x same.
          find_at p (y ∷ ys) ∙ ap (λ k. slice_get (y ∷ ys) k) place ∙ slice_get-get_or (y ∷ ys) i x within ∙ ap (λ z. Some z) (sym same);
      changed = λ x f same.
          let at = position-Some p (y ∷ ys) i x e in
          change_first-place p f (y ∷ ys) i x at.0 at.1 at.2 ∙ ap (λ z. set (y ∷ ys) i (f z)) (sym same);
    }

-- a choice of nothing was a choice of no value
none-from_cond : {A : Type 0} (b : Bool) (x : A) → cond b (Some x) None ≡ None → b ≡ false
none-from_cond true x e = cc
none-from_cond false x e = refl

-- no element passes where there is no place
pub find-position_none : {X : Type 0} (p : X → Bool) (xs : List X) → position p xs ≡ None → find p xs ≡ None
find-position_none p xs e =
    let past : length xs ≤ position_or_len p xs = ltb-false _ _ (none-from_cond _ _ e) in
    find_at p xs ∙ slice_get_past xs (position_or_len p xs) past

-- the place lies in the list
pub position-lt-length : {X : Type 0} (p : X → Bool) (xs : List X) (i : ℕ) → position p xs ≡ Some i → i < length xs
position-lt-length p xs i e = (IsFirst-position p xs i e).within

-- the element at the place is the one that `find` answers
pub find-position : {X : Type 0} (p : X → Bool) (xs : List X) (i : ℕ) (x : X) → position p xs ≡ Some i → x ≡ get_or xs i x → find p xs ≡ Some x
find-position p xs i x e same = (IsFirst-position p xs i e).found x same

-- the place of an element that passes where none before it does
pub position-from_fails : {X : Type 0} (p : X → Bool) (xs : List X) (i : ℕ) (x : X) → i < length xs → AllWithin (λ y. p y ≡ false) xs 0 i → x ≡ get_or xs i x → p x ≡ true → position p xs ≡ Some i
position-from_fails p xs i x within fails at passes =
    let place : position_or_len p xs ≡ i = position_or_len_is p xs i x (omega (arith, within)) (λ k h. fails k x (omega arith) h) (λ h. sym (ap p at) ∙ passes) in
    let test : nat_lt i (length xs) ≡ true = grind (arith, nat_tests, within) in
    ap (λ n. cond (nat_lt n (length xs)) (Some n) None) place ∙ ap (λ b. cond b (Some i) None) test

-- and there is none where none passes
pub position-none_passes : {X : Type 0} (p : X → Bool) (xs : List X) → AllWithin (λ y. p y ≡ false) xs 0 (length xs) → position p xs ≡ None
position-none_passes p [] fails = refl
position-none_passes p (y ∷ ys) fails =
    let n = length (y ∷ ys) in
    let place : position_or_len p (y ∷ ys) ≡ n = position_or_len_is p (y ∷ ys) n y (omega arith) (λ k h. fails k y (omega arith) h) (λ h. absurd (omega (arith, h))) in
    let test : nat_lt n n ≡ false = grind (arith, nat_tests) in
    ap (λ i. cond (nat_lt i n) (Some i) None) place ∙ ap (λ b. cond b (Some n) None) test

-- an element that has a place is found
pub found_by_place : {X : Type 0} (p : X → Bool) (xs : List X) (i : ℕ) → position p xs ≡ Some i → (x : X) × (find p xs ≡ Some x)
found_by_place p [] i e = cc
found_by_place p (y ∷ ys) i e =
    let within : i < length (y ∷ ys) = (position-Some p (y ∷ ys) i y e).0 in
    let place : position_or_len p (y ∷ ys) ≡ i = (cond_some _ _ _ e).1 in
    (get_or (y ∷ ys) i y, find_at p (y ∷ ys) ∙ ap (λ k. slice_get (y ∷ ys) k) place ∙ slice_get-get_or (y ∷ ys) i y within)

-- a change of the first element that passes is a write at its place
pub change_first-position : {X : Type 0} (p : X → Bool) (f : X → X) (xs : List X) (i : ℕ) (x : X) → position p xs ≡ Some i → x ≡ get_or xs i x → change_first p f xs ≡ set xs i (f x)
change_first-position p f xs i x e same = (IsFirst-position p xs i e).changed x f same

-- a list that was lent as a slice is what the slice was left as
pub refill_same : {X : Type 0} (xs ws : List X) → length ws ≡ length xs → take (length xs) (ws ++ drop (length ws) xs) ≡ ws
refill_same xs ws same = grind (arith, common_steps)

-- a write through such a slice
pub refill_set : {X : Type 0} (xs zs : List X) (i : ℕ) (y : X) → zs ≡ xs → take (length xs) (set zs i y ++ drop (length (set zs i y)) xs) ≡ set xs i y
refill_set xs zs i y same = refill_same xs (set zs i y) (length-set zs i y ∙ ap length same) ∙ ap (λ ws. set ws i y) same

-- what the place of the first element that passes tells
pub ruleset firsts = (refill_set, find-position_none, position-lt-length, find-position, change_first-position)

-- a removal of the first element that passes is one at its place
pub remove_first-place : {X : Type 0} (p : X → Bool) (xs : List X) (i : ℕ) (d : X) → i < length xs → p (get_or xs i d) ≡ true → ((k : ℕ) → k < i → p (get_or xs k d) ≡ false) → remove_first p xs ≡ remove xs i
remove_first-place p [] i d within passes before = absurd (omega arith)
remove_first-place p (x ∷ xs) zero d within passes before = rw passes
remove_first-place p (x ∷ xs) (suc i) d within passes before =
    let first : p x ≡ false = before 0 (omega arith) in
    let rest : remove_first p xs ≡ remove xs i =
    remove_first-place p xs i d (omega arith) passes (λ k h. before (suc k) (omega arith))
    in
    rw first (ap (λ ys. x ∷ ys) rest)

pub remove_first-position : {X : Type 0} (p : X → Bool) (xs : List X) (i : ℕ) (d : X) → position p xs ≡ Some i → remove_first p xs ≡ remove xs i
remove_first-position p xs i d e =
    let at = position-Some p xs i d e in
    remove_first-place p xs i d at.0 at.1 at.2

-- what is removed may have been written before
pub remove-set : {X : Type 0} (xs : List X) (i : ℕ) (y : X) → remove (set xs i y) i ≡ remove xs i
remove-set [] i y = refl
remove-set (x ∷ xs) zero y = refl
remove-set (x ∷ xs) (suc i) y = ap (λ ys. x ∷ ys) (remove-set xs i y)

-- an element is found exactly where it has a place
pub some-place : {X : Type 0} (p : X → Bool) (xs : List X) → is_some (position p xs) ≡ is_some (find p xs)
some-place p xs = by_place (position p xs) refl
  where
    by_place : (o : Option ℕ) → position p xs ≡ o → is_some o ≡ is_some (find p xs)
    by_place None none = rw (find-position_none p xs none) refl
    by_place (Some i) at = let found = found_by_place p xs i at in rw found.1 refl
