-- Why ids ascend along the table whatever its calls write, and what a search by id finds.
use Rattle.std.proofs.Common.{◌≡◌, inl, inr, ℕ, zero, suc, ◌+◌, ◌<◌, ◌≤◌, ◌==◌, ◌&&◌, Bool, true, false, if◌then◌else◌, List, [], ◌∷◌, ◌++◌, length, get_or, set, Option, Some, None, Result, Ok, Err, refl, sym, ◌∙◌, ap, subst, arith}
use Rattle.std.specs.Bool.{then_some}
use Rattle.std.specs.List.{find, list_any, position, refill, remove, retain_mut, AllWithin}
use Rattle.std.specs.List.Sorted.{IsSearchInRange, IsBinarySearchResult, IsNonDecreasingBy}
use Rattle.std.specs.Option.{is_some}
use Rattle.std.specs.Ordering.{nat_cmp, ordering_index}
use Rattle.std.specs.Result.{result_ok}
use Rattle.std.proofs.lemmas.Bool.{eqb-true, eqb-false, eq-eqb, ne_eqb}
use Rattle.std.proofs.lemmas.Bool.Decides.{nat_tests}
use Rattle.std.proofs.lemmas.Cmp.{ranked}
use Rattle.std.proofs.lemmas.List.{get_or_default}
use Rattle.std.proofs.lemmas.List.Folds.{list_any_at}
use Rattle.std.proofs.lemmas.List.Quantifiers.{position-Some}
use Rattle.tcp_state.specs.declared.connection.Fate.{Fate}
use Rattle.sockets.specs.declared.entry.SocketId.{SocketId}
use Rattle.sockets.specs.declared.entry.Entry.{Entry}
use Rattle.sockets.specs.declared.role.Role.{Role}
use Rattle.sockets.specs.Entries.{is_kept}
use Rattle.sockets.specs.Ids.{has_id, AreAscending, AreInOrder}
use Rattle.sockets.proofs.Firsts.{refill_set, position-from_fails, position-none_passes, find-position_none}
use Rattle.sockets.specs.Causes.{Follows}
use Rattle.sockets.proofs.Followed.{IsNothing, by_test, each_followed, place_removed}

-- What keeps the order.

pub ascends_lower : (a b last : ℕ) (xs : List Entry) → b ≤ a → AreAscending a last xs → AreAscending b last xs
ascends_lower a b last [] less ascends = omega arith
ascends_lower a b last (x ∷ xs) less ascends = (let first : a < x.id.0 = ascends.0 in omega arith, ascends.1)

pub ascends_joined : (a last : ℕ) (xs : List Entry) (x : Entry) → x.id.0 ≡ last + 1 → AreAscending a last xs → AreAscending a (last + 1) (xs ++ x ∷ [])
ascends_joined a last [] x id ascends = (omega arith, omega arith)
ascends_joined a last (y ∷ ys) x id ascends = (ascends.0, ascends_joined y.id.0 last ys x id ascends.1)

-- without its first entry
ascends_rest : (a last : ℕ) (x : Entry) (xs : List Entry) → AreAscending a last (x ∷ xs) → AreAscending a last xs
ascends_rest a last x xs ascends = ascends_lower x.id.0 a last xs (let first : a < x.id.0 = ascends.0 in omega arith) ascends.1

-- behind another entry of the same id
ascends_behind : (a last : ℕ) (x y : Entry) (ys : List Entry) → y.id ≡ x.id → a < x.id.0 → AreAscending x.id.0 last ys → AreAscending a last (y ∷ ys)
ascends_behind a last x y ys same first rest = let P : SocketId → Type 0 = λ i. (a < i.0) × AreAscending i.0 last ys in subst P (sym same) (first, rest)

-- an entry is written that keeps its id
ascends_set : (a last : ℕ) (xs : List Entry) (i : ℕ) (y d : Entry) → AreAscending a last xs → y.id ≡ (get_or xs i d).id → AreAscending a last (set xs i y)
ascends_set a last [] i y d ascends same = ascends
ascends_set a last (x ∷ xs) zero y d ascends same = ascends_behind a last x y xs same ascends.0 ascends.1
ascends_set a last (x ∷ xs) (suc i) y d ascends same = (ascends.0, ascends_set x.id.0 last xs i y d ascends.1 same)

-- the same of entries that were lent as a slice
pub ascends_written : (last : ℕ) (xs zs : List Entry) (i : ℕ) (y d : Entry) → AreAscending 0 last xs → zs ≡ xs → y.id ≡ (get_or zs i d).id → AreAscending 0 last (refill (length xs) xs (set zs i y))
ascends_written last xs zs i y d ascends lent same =
    let P : List Entry → Type 0 = λ ws. AreAscending 0 last ws in
    subst P (sym (refill_set xs zs i y lent)) (ascends_set 0 last xs i y d ascends (same ∙ ap (λ ws. (get_or ws i d).id) lent))

-- an entry that stays keeps its id
abbrev KeepsId : Entry → Option Entry → Type 0
KeepsId x None = Unit {0}
KeepsId x (Some y) = y.id ≡ x.id

pub ascends_followed : (Step : Entry → Option Entry → Type 0) → ((x y : Entry) → Step x (Some y) → y.id ≡ x.id) → (a last : ℕ) (xs ys : List Entry) → Follows Step IsNothing xs ys → AreAscending a last xs → AreAscending a last ys
ascends_followed Step ids a last [] ys f ascends = subst (λ (ws : List Entry). AreAscending a last ws) (sym f) ascends
ascends_followed Step ids a last (x ∷ xs) [] f ascends = ascends_followed Step ids a last xs [] f.1 (ascends_rest a last x xs ascends)
ascends_followed Step ids a last (x ∷ xs) (y ∷ ys) (inl f) ascends = ascends_behind a last x y ys (ids x y f.0) ascends.0 (ascends_followed Step ids x.id.0 last xs ys f.1 ascends.1)
ascends_followed Step ids a last (x ∷ xs) (y ∷ ys) (inr f) ascends = ascends_followed Step ids a last xs (y ∷ ys) f.1 (ascends_rest a last x xs ascends)

pub ascends_settled : (last : ℕ) (fate : Fate) (xs ys : List Entry) (i : ℕ) → AreAscending 0 last xs → ys ≡ (if is_kept fate then xs else remove xs i) → AreAscending 0 last ys
ascends_settled last fate xs ys i ascends is = let P : List Entry → Type 0 = λ ws. AreAscending 0 last ws in subst P (sym is) (by_kept (is_kept fate))
  where
    by_kept : (b : Bool) → AreAscending 0 last (if b then xs else remove xs i)
    by_kept true = ascends
    by_kept false = ascends_followed KeepsId (λ x y same. same) 0 last xs (remove xs i) (place_removed KeepsId IsNothing refl (λ x. refl) (λ x. tt) xs i) ascends

-- the same of one that stays or not
pub ascends_stays : (last : ℕ) (stays : Bool) (xs ys : List Entry) (i : ℕ) → AreAscending 0 last xs → ys ≡ (if stays then xs else remove xs i) → AreAscending 0 last ys
ascends_stays last true xs ys i ascends is = let P : List Entry → Type 0 = λ ws. AreAscending 0 last ws in subst P (sym is) ascends
ascends_stays last false xs ys i ascends is = let P : List Entry → Type 0 = λ ws. AreAscending 0 last ws in subst P (sym is) (ascends_followed KeepsId (λ x y same. same) 0 last xs (remove xs i) (place_removed KeepsId IsNothing refl (λ x. refl) (λ x. tt) xs i) ascends)

-- each entry takes a step and keeps its id, or is taken out
pub ascends_stepped : (last : ℕ) (test : Entry → Bool) (change : Entry → Entry) (xs ys : List Entry) → ((x : Entry) → (change x).id ≡ x.id) → AreAscending 0 last xs → ys ≡ retain_mut test change xs → AreAscending 0 last ys
ascends_stepped last test change xs ys keeps ascends is =
    let P : List Entry → Type 0 = λ ws. AreAscending 0 last ws in
    subst P (sym is) (ascends_followed KeepsId (λ x y same. same) 0 last xs (retain_mut test change xs) (each_followed KeepsId IsNothing refl test change xs (λ x kept. keeps x) (λ x gone. tt)) ascends)

-- an entry of the next id joins
pub ascends_pushed : (last n : ℕ) (xs ys : List Entry) (x : Entry) → n ≡ last + 1 → x.id.0 ≡ n → ys ≡ xs ++ x ∷ [] → AreAscending 0 last xs → AreAscending 0 n ys
ascends_pushed last n xs ys x next id is ascends =
    let P : List Entry → Type 0 = λ ws. AreAscending 0 (last + 1) ws in
    let joined : AreAscending 0 (last + 1) ys = subst P (sym is) (ascends_joined 0 last xs x (id ∙ next) ascends) in
    let Q : ℕ → Type 0 = λ k. AreAscending 0 k ys in
    subst Q (sym next) joined

-- What a search finds.

-- each entry has a higher id than what stands before the first
pub ascends_above : (a last : ℕ) (xs : List Entry) (j : ℕ) (d : Entry) → AreAscending a last xs → j < length xs → a < (get_or xs j d).id.0
ascends_above a last [] j d ascends within = absurd (omega arith)
ascends_above a last (x ∷ xs) zero d ascends within = ascends.0
ascends_above a last (x ∷ xs) (suc j) d ascends within =
    let first : a < x.id.0 = ascends.0 in
    let rest : x.id.0 < (get_or xs j d).id.0 = ascends_above x.id.0 last xs j d ascends.1 (omega arith) in
    omega arith

pub in_order : (a last : ℕ) (xs : List Entry) → AreAscending a last xs → AreInOrder xs
in_order a last [] ascends i j d before within = absurd (omega arith)
in_order a last (x ∷ xs) ascends i zero d before within = absurd (omega arith)
in_order a last (x ∷ xs) ascends zero (suc j) d before within = ascends_above x.id.0 last xs j d ascends.1 (omega arith)
in_order a last (x ∷ xs) ascends (suc i) (suc j) d before within = in_order x.id.0 last xs ascends.1 i j d (omega arith) (omega arith)

-- entries that were lent as a slice stand in order
pub lent_in_order : (last : ℕ) (xs zs : List Entry) → zs ≡ xs → AreAscending 0 last xs → AreInOrder zs
lent_in_order last xs zs lent ascends = let P : List Entry → Type 0 = λ ws. AreInOrder ws in subst P (sym lent) (in_order 0 last xs ascends)

module _ (xs : List Entry) (sorted : AreInOrder xs) (id : SocketId) where
  -- the comparisons with an id rise along the table, as a binary search asks
  comparisons_rise : IsNonDecreasingBy (λ (e : Entry). ordering_index (nat_cmp e.id.0 id.0)) xs
  comparisons_rise i j d le within =
      let ids_rise : (get_or xs i d).id.0 ≤ (get_or xs j d).id.0 = grind (arith, sorted i j d, λ (same : i ≡ j). ap (λ k. (get_or xs k d).id.0) same) in
      grind (arith, nat_tests)

  -- no other place has the id
  elsewhere : (i k : ℕ) (d : Entry) → i < length xs → k < length xs → (k ≡ i → ⊥) → (get_or xs i d).id.0 ≡ id.0 → has_id id (get_or xs k d) ≡ false
  elsewhere i k d within inside other is = ne_eqb _ _ (λ same. other (grind (arith, sorted i k d, sorted k i d)))

  -- the place at which a comparison with the id finds it
  pub place_at : (i : ℕ) (x : Entry) → i < length xs → x ≡ get_or xs i x → x.id.0 ≡ id.0 → position (has_id id) xs ≡ Some i
  place_at i x within at is =
      position-from_fails (has_id id) xs i x within
      (λ k d low below. elsewhere i k d within (omega arith) (λ same. omega arith) (ap (λ (e : Entry). e.id.0) (get_or_default xs i d x within ∙ sym at) ∙ is))
      at (eq-eqb x.id.0 id.0 is)

  -- where every id is another one, there is none
  place_none : (i : ℕ) → AllWithin (λ (e : Entry). e.id.0 < id.0) xs 0 i → AllWithin (λ (e : Entry). id.0 < e.id.0) xs i (length xs) → position (has_id id) xs ≡ None
  place_none i below above =
      position-none_passes (has_id id) xs
      (λ k d low within. ne_eqb _ _ (λ same. grind (arith, below k d, above k d)))

  -- among entries of the id, the test of a role passes at its place or nowhere
  module _ (test : Role → Bool) (i : ℕ) (x : Entry) (place : position (has_id id) xs ≡ Some i) (at : x ≡ get_or xs i x) where
    within_list : i < length xs
    within_list = (position-Some (has_id id) xs i x place).0

    here : (d : Entry) → get_or xs i d ≡ x
    here d = get_or_default xs i d x within_list ∙ sym at

    is_here : (d : Entry) → (get_or xs i d).id.0 ≡ id.0
    is_here d = eqb-true _ _ (position-Some (has_id id) xs i d place).1

    others_fail : (k : ℕ) (d : Entry) → k < length xs → (k ≡ i → ⊥) → has_id id (get_or xs k d) && test (get_or xs k d).role ≡ false
    others_fail k d inside other = ap (λ b. b && test (get_or xs k d).role) (elsewhere i k d within_list inside other (is_here d))

    passes_there : test x.role ≡ true → position (λ (e : Entry). has_id id e && test e.role) xs ≡ Some i
    passes_there passes =
        position-from_fails (λ (e : Entry). has_id id e && test e.role) xs i x within_list
        (λ k d low below. others_fail k d (omega (arith, within_list)) (λ same. omega arith))
        at (ap (λ b. b && test x.role) (ap (has_id id) at ∙ (position-Some (has_id id) xs i x place).1) ∙ passes)

    fails_there : test x.role ≡ false → position (λ (e : Entry). has_id id e && test e.role) xs ≡ None
    fails_there fails =
        position-none_passes (λ (e : Entry). has_id id e && test e.role) xs
        (λ k d low inside. by_test (k == i)
        (λ same. ap (λ n. has_id id (get_or xs n d) && test (get_or xs n d).role) (eqb-true k i same) ∙ ap (λ (e : Entry). has_id id e && test e.role) (here d) ∙ ap (λ b. has_id id x && b) fails ∙ never (has_id id x))
        (λ other. others_fail k d inside (eqb-false k i other)))
      where
        never : (b : Bool) → b && false ≡ false
        never true = refl
        never false = refl

    pub place_of_id : position (λ (e : Entry). has_id id e && test e.role) xs ≡ then_some (test x.role) i
    place_of_id = by_test (test x.role) (λ passes. rw passes (passes_there passes)) (λ fails. rw fails (fails_there fails))

-- what a binary search by id answers
pub searched : (xs : List Entry) → AreInOrder xs → (id : SocketId) (r : Result ℕ ℕ) → IsSearchInRange r (length xs) → IsBinarySearchResult (λ (e : Entry). nat_cmp e.id.0 id.0) xs r → result_ok r ≡ position (has_id id) xs
searched [] sorted id (Ok i) within equal = absurd (omega arith)
searched (x ∷ xs) sorted id (Ok i) within equal =
    let y : Entry = get_or (x ∷ xs) i x in
    sym (place_at (x ∷ xs) sorted id i y within (get_or_default (x ∷ xs) i x y within) (ranked _ id.0 _ (sym (equal x))))
searched xs sorted id (Err i) within parted =
    let parts = parted (comparisons_rise xs sorted id) in
    sym (place_none xs sorted id i
    (λ k d low below. ranked _ id.0 _ (sym (parts.0 k d low below)))
    (λ k d low inside. ranked _ id.0 _ (sym (parts.1 k d low inside))))

-- none passes a test beside the id where none has the id
pub none_of_id : (test : Role → Bool) (id : SocketId) (xs : List Entry) → position (has_id id) xs ≡ None → position (λ (e : Entry). has_id id e && test e.role) xs ≡ None
none_of_id test id xs none = position-none_passes (λ (e : Entry). has_id id e && test e.role) xs (λ k d low inside. ap (λ b. b && test (get_or xs k d).role) (none_passes xs (find-position_none (has_id id) xs none) k d inside))
  where
    none_passes : (ys : List Entry) → find (has_id id) ys ≡ None → (k : ℕ) (d : Entry) → k < length ys → has_id id (get_or ys k d) ≡ false
    none_passes [] missed k d inside = absurd (omega arith)
    none_passes (y ∷ ys) missed zero d inside = by_test (has_id id y) (λ passes. let some = (rw passes at missed) in cc) (λ fails. fails)
    none_passes (y ∷ ys) missed (suc k) d inside = by_test (has_id id y) (λ passes. let some = (rw passes at missed) in cc) (λ fails. none_passes ys (rw fails at missed) k d (omega arith))

-- there is a place exactly where one passes
pub is_some-position : {X : Type 0} (p : X → Bool) (xs : List X) (o : Option ℕ) → o ≡ position p xs → is_some o ≡ list_any p xs
is_some-position {X = X} p [] o is = ap is_some is
is_some-position {X = X} p (x ∷ xs) None is = sym (nothing (x ∷ xs) (find-position_none p (x ∷ xs) (sym is)))
  where
    nothing : (ys : List X) → find p ys ≡ None → list_any p ys ≡ false
    nothing [] missed = refl
    nothing (y ∷ ys) missed = by_test (p y) (λ passes. let some = (rw passes at missed) in cc) (λ fails. rw fails (nothing ys (rw fails at missed)))
is_some-position {X = X} p (x ∷ xs) (Some i) is = let found = position-Some p (x ∷ xs) i x (sym is) in sym (list_any_at p (x ∷ xs) i x found.0 found.1)
