-- What passes one test passes another: so the first that passes it is found by going from one that passes the other to the next.
use Rattle.std.proofs.Common.{◌≡◌, ℕ, zero, suc, Bool, true, false, cond, List, [], ◌∷◌, get_or, Option, Some, None, refl, sym, ◌∙◌, ap}
use Rattle.std.specs.List.{find, position}
use Rattle.marks.specs.First.{first_from}
use Rattle.sockets.proofs.FirstFrom.{further, further-some, further-none, from-zero, first-none, first-here, first-behind}
use Rattle.sockets.proofs.Firsts.{find-position, find-position_none}
use Rattle.sockets.proofs.Followed.{by_test}

further-chosen : (b : Bool) (k : ℕ) (o : Option ℕ) → further (cond b (Some k) o) ≡ cond b (Some (suc k)) (further o)
further-chosen true k o = refl
further-chosen false k o = refl

-- what is found in the list behind its first element
beyond : {X : Type 0} (test : X → Bool) (x : X) (xs : List X) (n p : ℕ) (d : X) (q : ℕ) → p ≡ suc q → first_from test n xs ≡ cond (test (get_or xs q d)) (Some q) (first_from test (suc q) xs)
    → further (first_from test n xs) ≡ cond (test (get_or (x ∷ xs) p d)) (Some p) (first_from test (suc p) (x ∷ xs))
beyond test x xs n p d q same is =
    ap further is ∙ further-chosen (test (get_or xs q d)) q (first_from test (suc q) xs) ∙ ap (λ o. cond (test (get_or xs q d)) (Some (suc q)) o) (sym (first-behind test (suc q) x xs))
    ∙ ap (λ k. cond (test (get_or (x ∷ xs) k d)) (Some k) (first_from test (suc k) (x ∷ xs))) (sym same)

module _ {X : Type 0} (acts test : X → Bool) (idle : (x : X) → acts x ≡ false → test x ≡ false) where
  -- what stands at the place that was found, or the first behind it
  pub passed_on : (from : ℕ) (xs : List X) (p : ℕ) (d : X) → first_from acts from xs ≡ Some p → first_from test from xs ≡ cond (test (get_or xs p d)) (Some p) (first_from test (suc p) xs)
  passed_on from [] p d is = let none : None ≡ Some p = sym (first-none acts from) ∙ is in cc
  passed_on zero (x ∷ xs) p d is = by_test (acts x) here (there (λ q at. passed_on 0 xs q d at))
    where
      here : acts x ≡ true → first_from test 0 (x ∷ xs) ≡ cond (test (get_or (x ∷ xs) p d)) (Some p) (first_from test (suc p) (x ∷ xs))
      here passes =
          let zeroth : Some 0 ≡ Some p = ap (λ b. cond b (Some 0) (further (first_from acts 0 xs))) (sym passes) ∙ sym (first-here acts x xs) ∙ is in
          let same : 0 ≡ p = cc in
          first-here test x xs ∙ ap (λ o. cond (test x) (Some 0) o) (sym (first-behind test 0 x xs)) ∙ ap (λ k. cond (test (get_or (x ∷ xs) k d)) (Some k) (first_from test (suc k) (x ∷ xs))) same

      there : ((q : ℕ) → first_from acts 0 xs ≡ Some q → first_from test 0 xs ≡ cond (test (get_or xs q d)) (Some q) (first_from test (suc q) xs)) → acts x ≡ false → first_from test 0 (x ∷ xs) ≡ cond (test (get_or (x ∷ xs) p d)) (Some p) (first_from test (suc p) (x ∷ xs))
      there later fails =
          let behind : further (first_from acts 0 xs) ≡ Some p = ap (λ b. cond b (Some 0) (further (first_from acts 0 xs))) (sym fails) ∙ sym (first-here acts x xs) ∙ is in
          let at = further-some (first_from acts 0 xs) p behind in
          first-here test x xs ∙ ap (λ b. cond b (Some 0) (further (first_from test 0 xs))) (idle x fails) ∙ beyond test x xs 0 p d at.0 at.2 (later at.0 at.1)
  passed_on (suc n) (x ∷ xs) p d is =
      let at = further-some (first_from acts n xs) p (sym (first-behind acts n x xs) ∙ is) in
      first-behind test n x xs ∙ beyond test x xs n p d at.0 at.2 (passed_on n xs at.0 d at.1)

  pub passed_out : (from : ℕ) (xs : List X) → first_from acts from xs ≡ None → first_from test from xs ≡ None
  passed_out from [] is = first-none test from
  passed_out zero (x ∷ xs) is = by_test (acts x) here (there (passed_out 0 xs))
    where
      here : acts x ≡ true → first_from test 0 (x ∷ xs) ≡ None
      here passes = let zeroth : ◌≡◌ {A = Option ℕ} (Some 0) None = ap (λ b. cond b (Some 0) (further (first_from acts 0 xs))) (sym passes) ∙ sym (first-here acts x xs) ∙ is in cc

      there : (first_from acts 0 xs ≡ None → first_from test 0 xs ≡ None) → acts x ≡ false → first_from test 0 (x ∷ xs) ≡ None
      there later fails =
          let behind : further (first_from acts 0 xs) ≡ None = ap (λ b. cond b (Some 0) (further (first_from acts 0 xs))) (sym fails) ∙ sym (first-here acts x xs) ∙ is in
          first-here test x xs ∙ ap (λ b. cond b (Some 0) (further (first_from test 0 xs))) (idle x fails) ∙ ap further (later (further-none (first_from acts 0 xs) behind))
  passed_out (suc n) (x ∷ xs) is = first-behind test n x xs ∙ ap further (passed_out n xs (further-none (first_from acts n xs) (sym (first-behind acts n x xs) ∙ is)))

-- the first one by its place
pub find-first_from : {X : Type 0} (test : X → Bool) (xs : List X) (p : ℕ) (x : X) → first_from test 0 xs ≡ Some p → x ≡ get_or xs p x → find test xs ≡ Some x
find-first_from test xs p x is at = find-position test xs p x (sym (from-zero (position test xs)) ∙ is) at

pub find-first_none : {X : Type 0} (test : X → Bool) (xs : List X) → first_from test 0 xs ≡ None → find test xs ≡ None
find-first_none test xs is = find-position_none test xs (sym (from-zero (position test xs)) ∙ is)
