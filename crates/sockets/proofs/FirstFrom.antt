-- The first place of a list from a place on, by the first element of the list.
use Rattle.std.proofs.Common.{◌≡◌, ℕ, zero, suc, ◌+◌, ◌<◌, ◌≤◌, Bool, true, false, cond, nat_lt, List, [], ◌∷◌, length, drop, get_or, Option, Some, None, option_map, refl, sym, ◌∙◌, ap, arith}
use Rattle.std.specs.List.{position, position_or_len}
use Rattle.std.proofs.lemmas.Bool.Decides.{nat_tests}
use Rattle.marks.specs.First.{first_from}
use Rattle.sockets.proofs.Followed.{by_test}

abbrev pub further : Option ℕ → Option ℕ
further o = option_map (λ i. suc i) o

position-cons : {X : Type 0} (p : X → Bool) (x : X) (xs : List X) → position p (x ∷ xs) ≡ cond (p x) (Some 0) (further (position p xs))
position-cons p x xs =
    by_test (p x)
    (λ here. let first : nat_lt 0 (length (x ∷ xs)) ≡ true = grind (arith, nat_tests) in rw (here, first) refl)
    (λ there. rw there (by_len (nat_lt (position_or_len p xs) (length xs)) refl))
  where
    n : ℕ
    n = position_or_len p xs

    by_len : (b : Bool) → nat_lt n (length xs) ≡ b → cond (nat_lt (1 + n) (length (x ∷ xs))) (Some (1 + n)) None ≡ further (cond b (Some n) None)
    by_len true is =
        let later : nat_lt (1 + n) (length (x ∷ xs)) ≡ true = grind (arith, nat_tests) in
        let one : 1 + n ≡ suc n = omega arith in
        ap (λ b. cond b (Some (1 + n)) None) later ∙ ap (λ k. Some k) one
    by_len false is = let later : nat_lt (1 + n) (length (x ∷ xs)) ≡ false = grind (arith, nat_tests) in ap (λ b. cond b (Some (1 + n)) None) later

shifted : (n : ℕ) (o : Option ℕ) → option_map (λ a. suc n + a) o ≡ further (option_map (λ a. n + a) o)
shifted n None = refl
shifted n (Some a) = let one : suc n + a ≡ suc (n + a) = omega arith in ap (λ k. Some k) one

pub from-zero : (o : Option ℕ) → option_map (λ a. 0 + a) o ≡ o
from-zero None = refl
from-zero (Some a) = let same : 0 + a ≡ a = omega arith in ap (λ k. Some k) same

-- what it finds, by the first element
pub first-none : {X : Type 0} (p : X → Bool) (n : ℕ) → first_from p n [] ≡ None
first-none p zero = refl
first-none p (suc n) = refl

pub first-here : {X : Type 0} (p : X → Bool) (x : X) (xs : List X) → first_from p 0 (x ∷ xs) ≡ cond (p x) (Some 0) (further (first_from p 0 xs))
first-here p x xs = from-zero (position p (x ∷ xs)) ∙ position-cons p x xs ∙ ap (λ o. cond (p x) (Some 0) (further o)) (sym (from-zero (position p xs)))

pub first-behind : {X : Type 0} (p : X → Bool) (n : ℕ) (x : X) (xs : List X) → first_from p (suc n) (x ∷ xs) ≡ further (first_from p n xs)
first-behind p n x xs = shifted n (position p (drop n xs))

-- the place that is found lies in the list, no further in front, and what stands there passes
pub record IsFound {X : Type 0} (test : X → Bool) (from : ℕ) (xs : List X) (place : ℕ) : Type 0 where
  pub behind : from ≤ place
  pub within : place < length xs
  pub passes : (d : X) → test (get_or xs place d) ≡ true

pub further-some : (o : Option ℕ) (p : ℕ) → further o ≡ Some p → (q : ℕ) × (o ≡ Some q) × (p ≡ suc q)
further-some None p is = let none : None ≡ Some p = is in cc
further-some (Some q) p is = let same : Some (suc q) ≡ Some p = is in (q, refl, cc)

found-later : {X : Type 0} (test : X → Bool) (n m : ℕ) (x : X) (xs : List X) (p : ℕ) → m ≤ suc n → (at : (q : ℕ) × (first_from test n xs ≡ Some q) × (p ≡ suc q)) → IsFound test n xs at.0 → IsFound test m (x ∷ xs) p
found-later test n m x xs p low at found =
    let same : p ≡ suc at.0 = at.2 in record {
      behind = omega (arith, found.behind, low, same);
      within = omega (arith, found.within, same);
      passes = λ d. ap (λ k. test (get_or (x ∷ xs) k d)) same ∙ found.passes d;
    }

pub first_from-found : {X : Type 0} (test : X → Bool) (from : ℕ) (xs : List X) (place : ℕ) → first_from test from xs ≡ Some place → IsFound test from xs place
first_from-found test zero [] p is = cc
first_from-found test (suc n) [] p is = let none : None ≡ Some p = sym (first-none test (suc n)) ∙ is in cc
first_from-found test zero (x ∷ xs) p is = by_first (test x) refl (λ q at. first_from-found test 0 xs q at)
  where
    by_first : (b : Bool) → test x ≡ b → ((q : ℕ) → first_from test 0 xs ≡ Some q → IsFound test 0 xs q) → IsFound test 0 (x ∷ xs) p
    by_first true passes later =
        let zeroth : Some 0 ≡ Some p = ap (λ b. cond b (Some 0) (further (first_from test 0 xs))) (sym passes) ∙ sym (first-here test x xs) ∙ is in
        let same : 0 ≡ p = cc in
        record { behind = omega (arith, same); within = omega (arith, same); passes = λ d. ap (λ k. test (get_or (x ∷ xs) k d)) (sym same) ∙ passes }
    by_first false fails later =
        let behind : further (first_from test 0 xs) ≡ Some p = ap (λ b. cond b (Some 0) (further (first_from test 0 xs))) (sym fails) ∙ sym (first-here test x xs) ∙ is in
        let at = further-some (first_from test 0 xs) p behind in
        found-later test 0 0 x xs p (omega arith) at (later at.0 at.1)
first_from-found test (suc n) (x ∷ xs) p is =
    let at = further-some (first_from test n xs) p (sym (first-behind test n x xs) ∙ is) in
    found-later test n (suc n) x xs p (omega arith) at (first_from-found test n xs at.0 at.1)

-- what stands from there on in front of it fails
pub fails-before : {X : Type 0} (test : X → Bool) (from : ℕ) (xs : List X) (place : ℕ) → first_from test from xs ≡ Some place → (k : ℕ) (d : X) → from ≤ k → k < place → test (get_or xs k d) ≡ false
fails-before test from [] p is k d low high = let none : None ≡ Some p = sym (first-none test from) ∙ is in cc
fails-before {X = X} test zero (x ∷ xs) p is k d low high = by_first (test x) refl k low high (λ q at. fails-before test 0 xs q at)
  where
    by_first : (b : Bool) → test x ≡ b → (k : ℕ) → 0 ≤ k → k < p → ((q : ℕ) → first_from test 0 xs ≡ Some q → (k : ℕ) (d : X) → 0 ≤ k → k < q → test (get_or xs k d) ≡ false) → test (get_or (x ∷ xs) k d) ≡ false
    by_first true passes k low high later =
        let zeroth : Some 0 ≡ Some p = ap (λ b. cond b (Some 0) (further (first_from test 0 xs))) (sym passes) ∙ sym (first-here test x xs) ∙ is in
        let same : 0 ≡ p = cc in
        absurd (omega (arith, same, high))
    by_first false fails zero low high later = fails
    by_first false fails (suc k) low high later =
        let behind : further (first_from test 0 xs) ≡ Some p = ap (λ b. cond b (Some 0) (further (first_from test 0 xs))) (sym fails) ∙ sym (first-here test x xs) ∙ is in
        let at = further-some (first_from test 0 xs) p behind in
        later at.0 at.1 k d (omega arith) (omega (arith, high, at.2))
fails-before test (suc n) (x ∷ xs) p is zero d low high = absurd (omega (arith, low))
fails-before test (suc n) (x ∷ xs) p is (suc k) d low high =
    let at = further-some (first_from test n xs) p (sym (first-behind test n x xs) ∙ is) in
    fails-before test n xs at.0 at.1 k d (omega (arith, low)) (omega (arith, high, at.2))

pub further-none : (o : Option ℕ) → further o ≡ None → o ≡ None
further-none None is = refl
further-none (Some q) is = let some : Some (suc q) ≡ None = is in cc

-- and where none is found all does
pub fails-behind : {X : Type 0} (test : X → Bool) (from : ℕ) (xs : List X) → first_from test from xs ≡ None → (k : ℕ) (d : X) → from ≤ k → k < length xs → test (get_or xs k d) ≡ false
fails-behind test from [] is k d low high = absurd (omega (arith, high))
fails-behind {X = X} test zero (x ∷ xs) is k d low high = by_first (test x) refl k low high (λ at. fails-behind test 0 xs at)
  where
    by_first : (b : Bool) → test x ≡ b → (k : ℕ) → 0 ≤ k → k < length (x ∷ xs) → (first_from test 0 xs ≡ None → (k : ℕ) (d : X) → 0 ≤ k → k < length xs → test (get_or xs k d) ≡ false) → test (get_or (x ∷ xs) k d) ≡ false
    by_first true passes k low high later = let zeroth : ◌≡◌ {A = Option ℕ} (Some 0) None = ap (λ b. cond b (Some 0) (further (first_from test 0 xs))) (sym passes) ∙ sym (first-here test x xs) ∙ is in cc
    by_first false fails zero low high later = fails
    by_first false fails (suc k) low high later =
        let behind : further (first_from test 0 xs) ≡ None = ap (λ b. cond b (Some 0) (further (first_from test 0 xs))) (sym fails) ∙ sym (first-here test x xs) ∙ is in
        later (further-none (first_from test 0 xs) behind) k d (omega arith) (omega (arith, high))
fails-behind test (suc n) (x ∷ xs) is zero d low high = absurd (omega (arith, low))
fails-behind test (suc n) (x ∷ xs) is (suc k) d low high = fails-behind test n xs (further-none (first_from test n xs) (sym (first-behind test n x xs) ∙ is)) k d (omega (arith, low)) (omega (arith, high))
