-- What stands under an id after an event of the table, by what stood there before.
use Rattle.std.proofs.Common.{◌≡◌, inl, inr, ℕ, ◌==◌, ◌≤◌, ◌<◌, false, cond, List, [], ◌∷◌, Option, Some, None, refl, sym, ◌∙◌, ap, subst, arith}
use Rattle.std.proofs.lemmas.Bool.{eqb-true}
use Rattle.std.specs.List.{find}
use Rattle.sockets.specs.declared.entry.SocketId.{SocketId}
use Rattle.sockets.specs.declared.entry.Entry.{Entry}
use Rattle.sockets.specs.Ids.{has_id, AreAscending}
use Rattle.sockets.specs.Causes.{Follows}
use Rattle.sockets.proofs.Ascending.{ascends_lower}
use Rattle.sockets.proofs.ByIds.{found_behind, found_first}
use Rattle.sockets.proofs.Followed.{by_test}

-- an id up to the one before is none of theirs
pub none_below : (id : SocketId) (before last : ℕ) (xs : List Entry) → id.0 ≤ before → AreAscending before last xs → find (has_id id) xs ≡ None
none_below id before last [] below ids = refl
none_below id before last (x ∷ xs) below ids =
    let other : has_id id x ≡ false = by_test (x.id.0 == id.0) (λ yes. absurd (omega (arith, eqb-true x.id.0 id.0 yes, below, ids.0))) (λ no. no) in
    rw other (none_below id x.id.0 last xs (omega (arith, below, ids.0)) ids.1)

least_of : (before last : ℕ) (xs : List Entry) → AreAscending before last xs → before ≤ last
least_of before last [] ids = ids
least_of before last (x ∷ xs) ids = omega (arith, ids.0, least_of x.id.0 last xs ids.1)

-- one that is found was given
pub found_given : (id : SocketId) (before last : ℕ) (xs : List Entry) (x : Entry) → AreAscending before last xs → find (has_id id) xs ≡ Some x → id.0 ≤ last
found_given id before last [] x ids found = cc
found_given id before last (y ∷ ys) x ids found =
    by_test (has_id id y)
    (λ here. let at : y.id.0 ≡ id.0 = eqb-true y.id.0 id.0 here in omega (arith, at, least_of y.id.0 last ys ids.1))
    (λ there. found_given id y.id.0 last ys x ids.1 (found_behind (has_id id) y ys (Some x) there found))

module _ (Step : Entry → Option Entry → Type 0) (Added : List Entry → Type 0) (ids : (x y : Entry) → Step x (Some y) → y.id ≡ x.id) (last next : ℕ) (more : (ys : List Entry) → Added ys → AreAscending last next ys) where
  -- ids ascend behind what is left too
  stands : (before : ℕ) (xs ys : List Entry) → Follows Step Added xs ys → AreAscending before last xs → AreAscending before next ys
  stands before [] ys f up = ascends_lower last before next ys up (more ys f)
  stands before (x ∷ xs) [] f up = let rest = stands x.id.0 xs [] f.1 up.1 in omega (arith, rest, up.0)
  stands before (x ∷ xs) (y ∷ ys) (inl f) up =
      let P : SocketId → Type 0 = λ i. (before < i.0) × AreAscending i.0 next ys in
      subst P (sym (ids x y f.0)) (up.0, stands x.id.0 xs ys f.1 up.1)
  stands before (x ∷ xs) (y ∷ ys) (inr f) up = ascends_lower x.id.0 before next (y ∷ ys) (omega (arith, up.0)) (stands x.id.0 xs (y ∷ ys) f.1 up.1)

  -- an entry's step leaves what is found under its id
  pub stays_under : (id : SocketId) (before : ℕ) (xs ys : List Entry) → Follows Step Added xs ys → AreAscending before last xs → (x : Entry) → find (has_id id) xs ≡ Some x → (left : Option Entry) × Step x left × (find (has_id id) ys ≡ left)
  stays_under id before [] ys f up x found = cc
  stays_under id before (z ∷ zs) [] f up x found =
      by_test (has_id id z)
      (λ here. (None, subst (λ w. Step w None) (found_first (has_id id) z x zs here found) f.0, refl))
      (λ there. stays_under id z.id.0 zs [] f.1 up.1 x (found_behind (has_id id) z zs (Some x) there found))
  stays_under id before (z ∷ zs) (y ∷ ys) (inl f) up x found =
      let same : has_id id y ≡ has_id id z = ap (λ (i : SocketId). i.0 == id.0) (ids z y f.0) in
      by_test (has_id id z)
      (λ here. (Some y, subst (λ w. Step w (Some y)) (found_first (has_id id) z x zs here found) f.0, rw (same ∙ here) refl))
      (λ there. let rest = stays_under id z.id.0 zs ys f.1 up.1 x (found_behind (has_id id) z zs (Some x) there found) in
      let behind : find (has_id id) (y ∷ ys) ≡ find (has_id id) ys = rw (same ∙ there) refl in
      (rest.0, rest.1, behind ∙ rest.2))
  stays_under id before (z ∷ zs) (y ∷ ys) (inr f) up x found =
      by_test (has_id id z)
      (λ here.
      let above = stands z.id.0 zs (y ∷ ys) f.1 up.1 in
      let at : z.id.0 ≡ id.0 = eqb-true z.id.0 id.0 here in
      (None, subst (λ w. Step w None) (found_first (has_id id) z x zs here found) f.0, none_below id z.id.0 next (y ∷ ys) (omega (arith, at)) above))
      (λ there. stays_under id z.id.0 zs (y ∷ ys) f.1 up.1 x (found_behind (has_id id) z zs (Some x) there found))

  -- under an id that none has stands none then, or one that was added
  pub comes_under : (id : SocketId) (xs ys : List Entry) → Follows Step Added xs ys → find (has_id id) xs ≡ None → (zs : List Entry) × Added zs × (find (has_id id) ys ≡ find (has_id id) zs)
  comes_under id [] ys f none = (ys, f, refl)
  comes_under id (x ∷ xs) [] f none =
      by_test (has_id id x)
      (λ here. let bad : ◌≡◌ {A = Option Entry} (Some x) None = ap (λ b. cond b (Some x) (find (has_id id) xs)) (sym here) ∙ none in cc)
      (λ there. comes_under id xs [] f.1 (found_behind (has_id id) x xs None there none))
  comes_under id (x ∷ xs) (y ∷ ys) (inl f) none =
      by_test (has_id id x)
      (λ here. let bad : ◌≡◌ {A = Option Entry} (Some x) None = ap (λ b. cond b (Some x) (find (has_id id) xs)) (sym here) ∙ none in cc)
      (λ there.
      let same : has_id id y ≡ has_id id x = ap (λ (i : SocketId). i.0 == id.0) (ids x y f.0) in
      let rest = comes_under id xs ys f.1 (found_behind (has_id id) x xs None there none) in
      let behind : find (has_id id) (y ∷ ys) ≡ find (has_id id) ys = rw (same ∙ there) refl in
      (rest.0, rest.1, behind ∙ rest.2))
  comes_under id (x ∷ xs) (y ∷ ys) (inr f) none =
      by_test (has_id id x)
      (λ here. let bad : ◌≡◌ {A = Option Entry} (Some x) None = ap (λ b. cond b (Some x) (find (has_id id) xs)) (sym here) ∙ none in cc)
      (λ there. comes_under id xs (y ∷ ys) f.1 (found_behind (has_id id) x xs None there none))
