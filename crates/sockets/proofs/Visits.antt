-- A walk over the elements that a test tells to act: each stays changed or goes, and all others stay as they are.
use Rattle.std.proofs.Common.{◌≡◌, ℕ, zero, suc, ◌+◌, ◌<◌, Bool, true, false, cond, List, [], ◌∷◌, ◌++◌, length, take, drop, get_or, set, Option, Some, None, refl, sym, ◌∙◌, ap, arith}
use Rattle.std.specs.List.{retain_mut, remove, fold, sum_by, count_by}
use Rattle.marks.specs.First.{first_from}
use Rattle.sockets.proofs.FirstFrom.{further, further-some, further-none, first-none, first-here, first-behind, first_from-found}
use Rattle.sockets.proofs.Followed.{by_test}

module _ {X : Type 0} (acts keeps : X → Bool) (change : X → X) (idle : (x : X) → acts x ≡ false → (keeps x ≡ true) × (change x ≡ x)) where
  at-zero : (o : Option ℕ) (p : ℕ) → further o ≡ Some p → (q : ℕ) × (o ≡ Some q) × (p ≡ suc q)
  at-zero None p is = let none : None ≡ Some p = is in cc
  at-zero (Some q) p is = let same : Some (suc q) ≡ Some p = is in (q, refl, cc)

  nowhere : (o : Option ℕ) → further o ≡ None → o ≡ None
  nowhere None is = refl
  nowhere (Some q) is = let some : Some (suc q) ≡ None = is in cc

  pub skips : (ys : List X) (from p : ℕ) → first_from acts from ys ≡ Some p → take from ys ++ retain_mut keeps change (drop from ys) ≡ take p ys ++ retain_mut keeps change (drop p ys)
  skips [] zero p is = cc
  skips [] (suc n) p is = cc
  skips (y ∷ ys) zero p is = by_test (acts y) here (there (skips ys 0))
    where
      here : acts y ≡ true → retain_mut keeps change (y ∷ ys) ≡ take p (y ∷ ys) ++ retain_mut keeps change (drop p (y ∷ ys))
      here passes =
          let zeroth : Some 0 ≡ Some p = ap (λ b. cond b (Some 0) (further (first_from acts 0 ys))) (sym passes) ∙ sym (first-here acts y ys) ∙ is in
          let same : 0 ≡ p = cc in
          ap (λ k. take k (y ∷ ys) ++ retain_mut keeps change (drop k (y ∷ ys))) same

      there : ((q : ℕ) → first_from acts 0 ys ≡ Some q → retain_mut keeps change ys ≡ take q ys ++ retain_mut keeps change (drop q ys)) → acts y ≡ false → retain_mut keeps change (y ∷ ys) ≡ take p (y ∷ ys) ++ retain_mut keeps change (drop p (y ∷ ys))
      there later_on fails =
          let later : further (first_from acts 0 ys) ≡ Some p = ap (λ b. cond b (Some 0) (further (first_from acts 0 ys))) (sym fails) ∙ sym (first-here acts y ys) ∙ is in
          let at = at-zero (first_from acts 0 ys) p later in
          let stays = idle y fails in
          ap (λ b. cond b (change y ∷ retain_mut keeps change ys) (retain_mut keeps change ys)) stays.0
          ∙ ap (λ z. z ∷ retain_mut keeps change ys) stays.1
          ∙ ap (λ zs. y ∷ zs) (later_on at.0 at.1)
          ∙ ap (λ k. take k (y ∷ ys) ++ retain_mut keeps change (drop k (y ∷ ys))) (sym at.2)
  skips (y ∷ ys) (suc n) p is =
      let at = at-zero (first_from acts n ys) p (sym (first-behind acts n y ys) ∙ is) in
      ap (λ zs. y ∷ zs) (skips ys n at.0 at.1) ∙ ap (λ k. take k (y ∷ ys) ++ retain_mut keeps change (drop k (y ∷ ys))) (sym at.2)

  pub rests : (ys : List X) (from : ℕ) → first_from acts from ys ≡ None → take from ys ++ retain_mut keeps change (drop from ys) ≡ ys
  rests [] zero is = refl
  rests [] (suc n) is = refl
  rests (y ∷ ys) zero is = by_test (acts y) here (there (rests ys 0))
    where
      here : acts y ≡ true → retain_mut keeps change (y ∷ ys) ≡ y ∷ ys
      here passes = let zeroth : ◌≡◌ {A = Option ℕ} (Some 0) None = ap (λ b. cond b (Some 0) (further (first_from acts 0 ys))) (sym passes) ∙ sym (first-here acts y ys) ∙ is in cc

      there : (first_from acts 0 ys ≡ None → retain_mut keeps change ys ≡ ys) → acts y ≡ false → retain_mut keeps change (y ∷ ys) ≡ y ∷ ys
      there later_on fails =
          let later : further (first_from acts 0 ys) ≡ None = ap (λ b. cond b (Some 0) (further (first_from acts 0 ys))) (sym fails) ∙ sym (first-here acts y ys) ∙ is in
          let stays = idle y fails in
          ap (λ b. cond b (change y ∷ retain_mut keeps change ys) (retain_mut keeps change ys)) stays.0
          ∙ ap (λ z. z ∷ retain_mut keeps change ys) stays.1
          ∙ ap (λ zs. y ∷ zs) (later_on (nowhere (first_from acts 0 ys) later))
  rests (y ∷ ys) (suc n) is = ap (λ zs. y ∷ zs) (rests ys n (nowhere (first_from acts n ys) (sym (first-behind acts n y ys) ∙ is)))

module _ {X : Type 0} (keeps : X → Bool) (change : X → X) where
  pub kept : (ys : List X) (p : ℕ) (d : X) → p < length ys → keeps (get_or ys p d) ≡ true → take p ys ++ retain_mut keeps change (drop p ys) ≡ take (suc p) (set ys p (change (get_or ys p d))) ++ retain_mut keeps change (drop (suc p) (set ys p (change (get_or ys p d))))
  kept [] p d within stays = absurd (omega arith)
  kept (y ∷ ys) zero d within stays = ap (λ b. cond b (change y ∷ retain_mut keeps change ys) (retain_mut keeps change ys)) stays
  kept (y ∷ ys) (suc p) d within stays = ap (λ zs. y ∷ zs) (kept ys p d (omega arith) stays)

  pub gone : (ys : List X) (p : ℕ) (d y : X) → p < length ys → keeps (get_or ys p d) ≡ false → take p ys ++ retain_mut keeps change (drop p ys) ≡ take p (remove (set ys p y) p) ++ retain_mut keeps change (drop p (remove (set ys p y) p))
  gone [] p d z within leaves = absurd (omega arith)
  gone (y ∷ ys) zero d z within leaves = ap (λ b. cond b (change y ∷ retain_mut keeps change ys) (retain_mut keeps change ys)) leaves
  gone (y ∷ ys) (suc p) d z within leaves = ap (λ zs. y ∷ zs) (gone ys p d z (omega arith) leaves)

-- A fold to which the others add nothing goes over those that act alone.
module _ {X A : Type 0} (acts : X → Bool) (f : A → X → A) (idle : (a : A) (x : X) → acts x ≡ false → f a x ≡ a) where
  fold_here : (a : A) (x : X) (xs : List X) (p : ℕ) (d : X) → acts x ≡ true → first_from acts 0 (x ∷ xs) ≡ Some p → fold f a (x ∷ xs) ≡ fold f (f a (get_or (x ∷ xs) p d)) (drop (suc p) (x ∷ xs))
  fold_here a x xs p d passes is =
      let zeroth : Some 0 ≡ Some p = ap (λ b. cond b (Some 0) (further (first_from acts 0 xs))) (sym passes) ∙ sym (first-here acts x xs) ∙ is in
      let same : 0 ≡ p = cc in
      ap (λ k. fold f (f a (get_or (x ∷ xs) k d)) (drop (suc k) (x ∷ xs))) same

  pub folds_on : (a : A) (from : ℕ) (xs : List X) (p : ℕ) (d : X) → first_from acts from xs ≡ Some p → fold f a (drop from xs) ≡ fold f (f a (get_or xs p d)) (drop (suc p) xs)
  folds_on a from [] p d is = let none : None ≡ Some p = sym (first-none acts from) ∙ is in cc
  folds_on a zero (x ∷ xs) p d is = by_test (acts x) (λ passes. fold_here a x xs p d passes is) (there (λ q at. folds_on a 0 xs q d at))
    where
      there : ((q : ℕ) → first_from acts 0 xs ≡ Some q → fold f a xs ≡ fold f (f a (get_or xs q d)) (drop (suc q) xs)) → acts x ≡ false → fold f a (x ∷ xs) ≡ fold f (f a (get_or (x ∷ xs) p d)) (drop (suc p) (x ∷ xs))
      there later fails =
          let behind : further (first_from acts 0 xs) ≡ Some p = ap (λ b. cond b (Some 0) (further (first_from acts 0 xs))) (sym fails) ∙ sym (first-here acts x xs) ∙ is in
          let at = further-some (first_from acts 0 xs) p behind in
          ap (λ b. fold f b xs) (idle a x fails) ∙ later at.0 at.1 ∙ ap (λ k. fold f (f a (get_or (x ∷ xs) k d)) (drop (suc k) (x ∷ xs))) (sym at.2)
  folds_on a (suc n) (x ∷ xs) p d is =
      let at = further-some (first_from acts n xs) p (sym (first-behind acts n x xs) ∙ is) in
      folds_on a n xs at.0 d at.1 ∙ ap (λ k. fold f (f a (get_or (x ∷ xs) k d)) (drop (suc k) (x ∷ xs))) (sym at.2)

  pub folds_out : (a : A) (from : ℕ) (xs : List X) → first_from acts from xs ≡ None → fold f a (drop from xs) ≡ a
  folds_out a zero [] is = refl
  folds_out a (suc n) [] is = refl
  folds_out a zero (x ∷ xs) is = by_test (acts x) here (there (folds_out a 0 xs))
    where
      here : acts x ≡ true → fold f a (x ∷ xs) ≡ a
      here passes = let zeroth : ◌≡◌ {A = Option ℕ} (Some 0) None = ap (λ b. cond b (Some 0) (further (first_from acts 0 xs))) (sym passes) ∙ sym (first-here acts x xs) ∙ is in cc

      there : (first_from acts 0 xs ≡ None → fold f a xs ≡ a) → acts x ≡ false → fold f a (x ∷ xs) ≡ a
      there later fails =
          let behind : further (first_from acts 0 xs) ≡ None = ap (λ b. cond b (Some 0) (further (first_from acts 0 xs))) (sym fails) ∙ sym (first-here acts x xs) ∙ is in
          ap (λ b. fold f b xs) (idle a x fails) ∙ later (further-none (first_from acts 0 xs) behind)
  folds_out a (suc n) (x ∷ xs) is = folds_out a n xs (further-none (first_from acts n xs) (sym (first-behind acts n x xs) ∙ is))

-- .. and so does a sum.
module _ {X : Type 0} (acts : X → Bool) (f : X → ℕ) (idle : (x : X) → acts x ≡ false → f x ≡ 0) where
  adds_none : (a : ℕ) (x : X) → acts x ≡ false → a + f x ≡ a
  adds_none a x fails = let none : f x ≡ 0 = idle x fails in omega (arith, none)

  sum_from : (a : ℕ) (xs : List X) → fold (λ (n : ℕ) (x : X). n + f x) a xs ≡ a + sum_by f xs
  sum_from a [] = omega arith
  sum_from a (x ∷ xs) =
      let here : fold (λ (n : ℕ) (x : X). n + f x) (a + f x) xs ≡ a + f x + sum_by f xs = sum_from (a + f x) xs in
      let there : fold (λ (n : ℕ) (x : X). n + f x) (0 + f x) xs ≡ 0 + f x + sum_by f xs = sum_from (0 + f x) xs in
      omega (arith, here, there)

  pub sums_on : (from : ℕ) (xs : List X) (p : ℕ) (d : X) → first_from acts from xs ≡ Some p → sum_by f (drop from xs) ≡ f (get_or xs p d) + sum_by f (drop (suc p) xs)
  sums_on from xs p d is =
      let on = folds_on acts (λ (n : ℕ) (x : X). n + f x) adds_none 0 from xs p d is in
      let rest = sum_from (0 + f (get_or xs p d)) (drop (suc p) xs) in
      omega (arith, on, rest)

  pub sums_out : (from : ℕ) (xs : List X) → first_from acts from xs ≡ None → sum_by f (drop from xs) ≡ 0
  sums_out from xs is = folds_out acts (λ (n : ℕ) (x : X). n + f x) adds_none 0 from xs is

-- .. and so does a count of those themselves.
module _ {X : Type 0} (test : X → Bool) where
  counts_none : (x : X) → test x ≡ false → cond {A = ℕ} (test x) 1 0 ≡ 0
  counts_none x fails = ap (λ b. cond b 1 0) fails

  pub counts_on : (from : ℕ) (xs : List X) (p : ℕ) → first_from test from xs ≡ Some p → count_by test (drop from xs) ≡ 1 + count_by test (drop (p + 1) xs)
  counts_on from [] p is = let none : None ≡ Some p = sym (first-none test from) ∙ is in cc
  counts_on from (x ∷ xs) p is =
      let here : test (get_or (x ∷ xs) p x) ≡ true = (first_from-found test from (x ∷ xs) p is).passes x in
      let next : suc p ≡ p + 1 = omega arith in
      sums_on test (λ y. cond (test y) 1 0) counts_none from (x ∷ xs) p x is ∙ ap (λ b. cond b 1 0 + count_by test (drop (suc p) (x ∷ xs))) here ∙ ap (λ k. 1 + count_by test (drop k (x ∷ xs))) next

  pub counts_out : (from : ℕ) (xs : List X) → first_from test from xs ≡ None → count_by test (drop from xs) ≡ 0
  counts_out from xs is = sums_out test (λ x. cond (test x) 1 0) counts_none from xs is
