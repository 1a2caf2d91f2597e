-- How the entries stay filed by their ports and peers.
use Rattle.std.proofs.Common.{◌≡◌, inl, inr, ◌⊎◌, ℕ, zero, suc, ◌+◌, ◌<◌, ◌≤◌, Bool, true, false, cond, List, [], ◌∷◌, ◌++◌, length, get_or, set, Option, Some, None, refl, sym, ◌∙◌, ap, subst, arith}
use Rattle.std.specs.Prelude.{nat_lt, insert}
use Rattle.std.specs.List.Sorted.{IsPartitionPoint, IsPartitionedBy}
use Rattle.std.specs.List.{remove, refill, AllByRecursion}
use Rattle.std.proofs.lemmas.Bool.Decides.{nat_tests}
use Rattle.std.proofs.lemmas.List.Edits.{length-remove}
use Rattle.std.proofs.lemmas.List.Elements.{All-from_recursion}
use Rattle.sockets.specs.declared.entry.Entry.{Entry}
use Rattle.sockets.specs.declared.index.Filed.{Filed}
use Rattle.sockets.specs.Index.{filed, is_before, AreSorted, inserted, with_filed, index_of}
use Rattle.sockets.proofs.Firsts.{refill_set}
use Rattle.sockets.proofs.Followed.{by_test}

-- The order.

-- what the test of two tells
before_tells : (a b : Filed) → ((is_before a b ≡ true) × ((a.key < b.key) ⊎ ((a.key ≡ b.key) × (a.id.0 < b.id.0)))) ⊎ ((is_before a b ≡ false) × ((b.key < a.key) ⊎ ((a.key ≡ b.key) × (b.id.0 ≤ a.id.0))))
before_tells a b = grind (arith, nat_tests)

-- it is one way alone
one_way : (a b : Filed) → is_before a b ≡ true → is_before b a ≡ false
one_way a b first = grind (arith, nat_tests)

before_then : (a b c : Filed) → is_before a b ≡ true → is_before b c ≡ true → is_before a c ≡ true
before_then a b c first second = grind (arith, nat_tests)

not_before_then : (a b c : Filed) → is_before b a ≡ false → is_before c b ≡ false → is_before c a ≡ false
not_before_then a b c first second = grind (arith, nat_tests)

-- Insertions.

-- two go to their places in either order
inserted-earlier : (x y : Filed) → is_before x y ≡ true → (l : List Filed) → inserted x (inserted y l) ≡ inserted y (inserted x l)
inserted-earlier x y first [] = rw (one_way x y first, first) refl
inserted-earlier x y first (z ∷ zs) =
    by_test (is_before z y)
    (λ below. by_test (is_before z x)
    (λ lower. rw (below, lower, below) (ap (λ ws. z ∷ ws) (inserted-earlier x y first zs)))
    (λ higher. rw (below, higher, first, below) refl))
    (λ above. let higher : is_before z x ≡ false = by_test (is_before z x) (λ lower. let bad : true ≡ false = sym (before_then z x y lower first) ∙ above in cc) (λ no. no) in
    rw (above, one_way x y first, higher, first, above) refl)

-- one of two stands before the other, or they are the same
compared : (x y : Filed) → (is_before x y ≡ true) ⊎ ((is_before y x ≡ true) ⊎ (x ≡ y))
compared x y =
    by_test (is_before x y) (λ yes. inl yes)
    (λ no. by_test (is_before y x) (λ yes. inr (inl yes))
    (λ neither.
    let key : x.key ≡ y.key = grind (arith, nat_tests) in
    let id : x.id.0 ≡ y.id.0 = grind (arith, nat_tests) in
    inr (inr (λ i. record { key = key i; id = record { 0 = id i } }))))

inserted-twice : (x y : Filed) (l : List Filed) → inserted x (inserted y l) ≡ inserted y (inserted x l)
inserted-twice x y l = elim (compared x y) [
  | inl first ↦ inserted-earlier x y first l
  | inr (inl second) ↦ sym (inserted-earlier y x second l)
  | inr (inr same) ↦ ap (λ z. inserted z (inserted y l)) same ∙ ap (λ z. inserted y (inserted z l)) (sym same)
]

twice-filed : (o p : Option Filed) (l : List Filed) → with_filed o (with_filed p l) ≡ with_filed p (with_filed o l)
twice-filed None p l = refl
twice-filed (Some x) None l = refl
twice-filed (Some x) (Some y) l = inserted-twice x y l

-- what holds of all holds of a further one and of the rest
module _ (P : Filed → Type 0) where
  all_with : (x : Filed) (l : List Filed) → P x → AllByRecursion P l → AllByRecursion P (inserted x l)
  all_with x [] p all = (p, tt)
  all_with x (y ∷ ys) p all = by_place (is_before y x) (all_with x ys p all.1)
    where
      by_place : (b : Bool) → AllByRecursion P (inserted x ys) → AllByRecursion P (cond b (y ∷ inserted x ys) (x ∷ y ∷ ys))
      by_place true rest = (all.0, rest)
      by_place false rest = (p, all)

  all_without : (x : Filed) (l : List Filed) → AllByRecursion P (inserted x l) → P x × AllByRecursion P l
  all_without x [] all = (all.0, tt)
  all_without x (y ∷ ys) all = by_place (is_before y x) (λ every. all_without x ys every) all
    where
      by_place : (b : Bool) → (AllByRecursion P (inserted x ys) → P x × AllByRecursion P ys) → AllByRecursion P (cond b (y ∷ inserted x ys) (x ∷ y ∷ ys)) → P x × AllByRecursion P (y ∷ ys)
      by_place true without every = let rest = without every.1 in (rest.0, (every.0, rest.1))
      by_place false without every = every

  all_weaker : (Q : Filed → Type 0) → ((x : Filed) → P x → Q x) → (l : List Filed) → AllByRecursion P l → AllByRecursion Q l
  all_weaker Q follows [] all = tt
  all_weaker Q follows (x ∷ xs) all = (follows x all.0, all_weaker Q follows xs all.1)

  -- and so of each that the entries name
  all_beside : (o : Option Filed) (l : List Filed) → AllByRecursion P (with_filed o l) → AllByRecursion P l
  all_beside None l all = all
  all_beside (Some x) l all = (all_without x l all).1

  first_filed : (o : Option Filed) (l : List Filed) (x : Filed) → AllByRecursion P (with_filed o l) → o ≡ Some x → P x
  first_filed None l x all is = cc
  first_filed (Some y) l x all is = let same : y ≡ x = cc in subst P same (all_without y l all).0

  pub all_filed : (xs : List Entry) → AllByRecursion P (index_of xs) → (i : ℕ) (d : Entry) → i < length xs → (x : Filed) → filed (get_or xs i d) ≡ Some x → P x
  all_filed [] all i d within x is = absurd (omega arith)
  all_filed (e ∷ rest) all zero d within x is = first_filed (filed e) (index_of rest) x all is
  all_filed (e ∷ rest) all (suc i) d within x is = all_filed rest (all_beside (filed e) (index_of rest) all) i d (omega arith) x is

sorted-inserted : (x : Filed) (l : List Filed) → AreSorted l → AreSorted (inserted x l)
sorted-inserted x [] sorted = (tt, tt)
sorted-inserted x (y ∷ ys) sorted = by_place (is_before y x) refl (sorted-inserted x ys sorted.1)
  where
    by_place : (b : Bool) → is_before y x ≡ b → AreSorted (inserted x ys) → AreSorted (cond b (y ∷ inserted x ys) (x ∷ y ∷ ys))
    by_place true below rest = (all_with (λ z. is_before z y ≡ false) x ys (one_way y x below) sorted.0, rest)
    by_place false above rest = ((above, all_weaker (λ z. is_before z y ≡ false) (λ z. is_before z x ≡ false) (λ z later. not_before_then x y z above later) ys sorted.0), sorted)

-- What is filed of a table.

pub sorted_index : (xs : List Entry) → AreSorted (index_of xs)
sorted_index [] = tt
sorted_index (e ∷ rest) = by_entry (filed e) (sorted_index rest)
  where
    by_entry : (o : Option Filed) → AreSorted (index_of rest) → AreSorted (with_filed o (index_of rest))
    by_entry None sorted = sorted
    by_entry (Some x) sorted = sorted-inserted x (index_of rest) sorted

length-inserted : (x : Filed) (l : List Filed) → length (inserted x l) ≡ length l + 1
length-inserted x [] = refl
length-inserted x (y ∷ ys) = by_place (is_before y x) (length-inserted x ys)
  where
    by_place : (b : Bool) → length (inserted x ys) ≡ length ys + 1 → length (cond b (y ∷ inserted x ys) (x ∷ y ∷ ys)) ≡ length (y ∷ ys) + 1
    by_place true rest = omega arith
    by_place false rest = omega arith

length-with : (o : Option Filed) (l : List Filed) → length (with_filed o l) ≤ length l + 1
length-with None l = omega arith
length-with (Some x) l = let one : length (inserted x l) ≡ length l + 1 = length-inserted x l in omega arith

pub length_index : (xs : List Entry) → length (index_of xs) ≤ length xs
length_index [] = omega arith
length_index (e ∷ rest) =
    let more : length (with_filed (filed e) (index_of rest)) ≤ length (index_of rest) + 1 = length-with (filed e) (index_of rest) in
    let less : length (index_of rest) ≤ length rest = length_index rest in
    omega arith

-- an entry joins
pub index_joined : (xs : List Entry) (x : Entry) → index_of (xs ++ x ∷ []) ≡ with_filed (filed x) (index_of xs)
index_joined [] x = refl
index_joined (e ∷ rest) x = ap (λ (l : List Filed). with_filed (filed e) l) (index_joined rest x) ∙ twice-filed (filed e) (filed x) (index_of rest)

-- an entry is written that is filed as the one before it
index_set : (xs : List Entry) (i : ℕ) (y d : Entry) → filed y ≡ filed (get_or xs i d) → index_of (set xs i y) ≡ index_of xs
index_set [] i y d same = refl
index_set (x ∷ xs) zero y d same = ap (λ (o : Option Filed). with_filed o (index_of xs)) same
index_set (x ∷ xs) (suc i) y d same = ap (λ (l : List Filed). with_filed (filed x) l) (index_set xs i y d same)

-- the same of entries that were lent as a slice
pub index_written : (index : List Filed) (xs zs : List Entry) (i : ℕ) (y d : Entry) → index ≡ index_of xs → zs ≡ xs → filed y ≡ filed (get_or zs i d) → index ≡ index_of (refill (length xs) xs (set zs i y))
index_written index xs zs i y d is lent same =
    is ∙ sym (index_set xs i y d (same ∙ ap (λ (ws : List Entry). filed (get_or ws i d)) lent)) ∙ ap index_of (sym (refill_set xs zs i y lent))

-- Binary search.

-- none stands before one in front of it, or before itself
pub sorted_from : (l : List Filed) → AreSorted l → (i j : ℕ) (d : Filed) → i ≤ j → j < length l → is_before (get_or l j d) (get_or l i d) ≡ false
sorted_from [] sorted i j d low within = absurd (omega arith)
sorted_from (x ∷ xs) sorted zero zero d low within = grind (arith, nat_tests)
sorted_from (x ∷ xs) sorted (suc i) zero d low within = absurd (omega arith)
sorted_from (x ∷ xs) sorted zero (suc j) d low within = All-from_recursion (λ y. is_before y x ≡ false) xs sorted.0 j d (omega arith)
sorted_from (x ∷ xs) sorted (suc i) (suc j) d low within = sorted_from xs sorted.1 i j d (omega arith) (omega arith)

-- what stands before x comes first
pub parted_by_place : (x : Filed) (l : List Filed) → AreSorted l → IsPartitionedBy (λ y. is_before y x) l
parted_by_place x l sorted i j d low within first = front (get_or l i d) (get_or l j d) (sorted_from l sorted i j d low within) first
  where
    front : (a b : Filed) → is_before b a ≡ false → is_before b x ≡ true → is_before a x ≡ true
    front a b behind below = grind (arith, nat_tests)

itself : (x : Filed) → is_before x x ≡ true → ⊥
itself x first = grind (arith, nat_tests)

-- the place behind what stands before x is that of x
pub inserted_there : (x : Filed) (l : List Filed) (i : ℕ) → i ≤ length l → IsPartitionPoint (λ y. is_before y x ≡ true) (λ y. is_before y x ≡ false) l i → insert l i x ≡ inserted x l
inserted_there x [] zero within parts = refl
inserted_there x [] (suc i) within parts = absurd (omega arith)
inserted_there x (y ∷ ys) zero within parts = rw (parts.1 0 y (omega arith) (omega arith)) refl
inserted_there x (y ∷ ys) (suc i) within parts =
    rw (parts.0 0 y (omega arith) (omega arith))
    (ap (λ ws. y ∷ ws) (inserted_there x ys i (omega arith) ((λ k d low below. parts.0 (suc k) d (omega arith) (omega arith)), (λ k d low below. parts.1 (suc k) d (omega arith) (omega arith)))))

-- and that of x where it stands: taken out, the others are left
removed_there : (x : Filed) (l : List Filed) (i : ℕ) → i ≤ length (inserted x l) → IsPartitionPoint (λ y. is_before y x ≡ true) (λ y. is_before y x ≡ false) (inserted x l) i → (i < length (inserted x l)) × (remove (inserted x l) i ≡ l)
removed_there x [] zero within parts = (omega arith, refl)
removed_there x [] (suc i) within parts = absurd (itself x (parts.0 0 x (omega arith) (omega arith)))
removed_there x (y ∷ ys) i within parts = by_place (is_before y x) refl i within parts (λ j. removed_there x ys j)
  where
    by_place : (b : Bool) → is_before y x ≡ b → (i : ℕ) → i ≤ length (cond b (y ∷ inserted x ys) (x ∷ y ∷ ys)) → IsPartitionPoint (λ z. is_before z x ≡ true) (λ z. is_before z x ≡ false) (cond b (y ∷ inserted x ys) (x ∷ y ∷ ys)) i
        → ((j : ℕ) → j ≤ length (inserted x ys) → IsPartitionPoint (λ z. is_before z x ≡ true) (λ z. is_before z x ≡ false) (inserted x ys) j → (j < length (inserted x ys)) × (remove (inserted x ys) j ≡ ys))
        → (i < length (cond b (y ∷ inserted x ys) (x ∷ y ∷ ys))) × (remove (cond b (y ∷ inserted x ys) (x ∷ y ∷ ys)) i ≡ y ∷ ys)
    by_place true below zero within parts rest = absurd (let no : is_before y x ≡ false = parts.1 0 y (omega arith) (omega arith) in let bad : true ≡ false = sym below ∙ no in cc)
    by_place true below (suc i) within parts rest =
        let behind = rest i (omega arith) ((λ k d low high. parts.0 (suc k) d (omega arith) (omega arith)), (λ k d low high. parts.1 (suc k) d (omega arith) (omega arith))) in
        (omega (arith, behind.0), ap (λ ws. y ∷ ws) behind.1)
    by_place false above zero within parts rest = (omega arith, refl)
    by_place false above (suc i) within parts rest = absurd (itself x (parts.0 0 x (omega arith) (omega arith)))

-- an entry leaves
pub index_without : (xs : List Entry) (i : ℕ) (d : Entry) → i < length xs → index_of xs ≡ with_filed (filed (get_or xs i d)) (index_of (remove xs i))
index_without [] i d within = absurd (omega arith)
index_without (e ∷ rest) zero d within = refl
index_without (e ∷ rest) (suc i) d within = ap (λ (l : List Filed). with_filed (filed e) l) (index_without rest i d (omega arith)) ∙ twice-filed (filed e) (filed (get_or rest i d)) (index_of (remove rest i))

-- another entry is written at its place
index_with : (xs : List Entry) (i : ℕ) (y : Entry) → i < length xs → index_of (set xs i y) ≡ with_filed (filed y) (index_of (remove xs i))
index_with [] i y within = absurd (omega arith)
index_with (e ∷ rest) zero y within = refl
index_with (e ∷ rest) (suc i) y within = ap (λ (l : List Filed). with_filed (filed e) l) (index_with rest i y (omega arith)) ∙ twice-filed (filed e) (filed y) (index_of (remove rest i))

-- What a function of the table leaves filed.

-- what was looked for in a slice that was lent
pub filed_there : (x : Filed) (l ws : List Filed) (i : ℕ) → AreSorted l → ws ≡ l → i ≤ length ws
    → (IsPartitionedBy (λ y. is_before y x) ws → IsPartitionPoint (λ y. is_before y x ≡ true) (λ y. is_before y x ≡ false) ws i) → insert l i x ≡ inserted x l
filed_there x l ws i sorted lent within parts =
    let at : (vs : List Filed) → vs ≡ l → (IsPartitionedBy (λ y. is_before y x) vs → IsPartitionPoint (λ y. is_before y x ≡ true) (λ y. is_before y x ≡ false) vs i) → IsPartitionPoint (λ y. is_before y x ≡ true) (λ y. is_before y x ≡ false) l i =
    λ vs same. subst (λ (us : List Filed). (IsPartitionedBy (λ y. is_before y x) us → IsPartitionPoint (λ y. is_before y x ≡ true) (λ y. is_before y x ≡ false) us i) → IsPartitionPoint (λ y. is_before y x ≡ true) (λ y. is_before y x ≡ false) l i) (sym same)
    (λ says. says (parted_by_place x l sorted))
    in
    inserted_there x l i (subst (λ (us : List Filed). i ≤ length us) lent within) (at ws lent parts)

-- what an entry is filed as in entries that were lent
module _ (xs zs : List Entry) (i : ℕ) (d : Entry) (before : Option Filed) (old : List Filed) (was : old ≡ index_of xs) (lent : zs ≡ xs) (within : i < length xs) (is : before ≡ filed (get_or zs i d)) where
  beside : old ≡ with_filed before (index_of (remove xs i))
  beside = was ∙ index_without xs i d within ∙ ap (λ (o : Option Filed). with_filed o (index_of (remove xs i))) (ap (λ (ws : List Entry). filed (get_or ws i d)) (sym lent) ∙ sym is)

  -- it may be filed as another, and there is room
  pub may_refile : (most : ℕ) → length xs ≤ most → (rest : List Filed) × AreSorted rest × (old ≡ with_filed before rest) × (length rest < most)
  may_refile most room =
      let fewer : length (remove xs i) + 1 ≡ length xs = length-remove xs i within in
      let less : length (index_of (remove xs i)) ≤ length (remove xs i) = length_index (remove xs i) in
      (index_of (remove xs i), sorted_index (remove xs i), beside, omega arith)

  -- and so it is
  pub index_refiled : (new : List Filed) (y : Entry) → ((rest : List Filed) → AreSorted rest → old ≡ with_filed before rest → new ≡ with_filed (filed y) rest) → new ≡ index_of (refill (length xs) xs (set zs i y))
  index_refiled new y refiled =
      refiled (index_of (remove xs i)) (sorted_index (remove xs i)) beside ∙ sym (index_with xs i y within) ∙ ap index_of (sym (refill_set xs zs i y lent))

-- an entry joined that was filed, or that has no port
pub index_pushed : (index : List Filed) (xs ys : List Entry) (e : Entry) → ys ≡ xs ++ e ∷ [] → index ≡ with_filed (filed e) (index_of xs) → index ≡ index_of ys
index_pushed index xs ys e joined is = is ∙ sym (index_joined xs e) ∙ ap index_of (sym joined)

pub index_pushed_none : (index : List Filed) (xs ys : List Entry) (e : Entry) → index ≡ index_of xs → ys ≡ xs ++ e ∷ [] → filed e ≡ None → index ≡ index_of ys
index_pushed_none index xs ys e was joined none =
    was ∙ ap (λ (o : Option Filed). with_filed o (index_of xs)) (sym none) ∙ sym (index_joined xs e) ∙ ap index_of (sym joined)

-- .. and of one that is taken out
pub unfiled_there : (x : Filed) (l rest ws : List Filed) (i : ℕ) → AreSorted rest → l ≡ inserted x rest → ws ≡ l → i ≤ length ws
    → (IsPartitionedBy (λ y. is_before y x) ws → IsPartitionPoint (λ y. is_before y x ≡ true) (λ y. is_before y x ≡ false) ws i) → (i < length l) × (remove l i ≡ rest)
unfiled_there x l rest ws i sorted is lent within parts =
    subst (λ (us : List Filed). (i < length us) × (remove us i ≡ rest)) (sym is)
    (removed_there x rest i (subst (λ (us : List Filed). i ≤ length us) (lent ∙ is) within)
    (subst (λ (us : List Filed). (IsPartitionedBy (λ y. is_before y x) us → IsPartitionPoint (λ y. is_before y x ≡ true) (λ y. is_before y x ≡ false) us i)) (lent ∙ is) parts (parted_by_place x (inserted x rest) (sorted-inserted x rest sorted))))
