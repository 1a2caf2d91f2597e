-- How often a test passes in lists that change, and what is left out of them.
use Rattle.std.proofs.Common.{◌≡◌, inl, inr, ℕ, ◌+◌, ◌≤◌, ◌==◌, Bool, true, false, cond, List, [], ◌∷◌, ◌++◌, length, count_by, Option, Some, None, refl, ◌∙◌, ap, subst, arith}
use Rattle.std.specs.List.{find, filter, list_any, AllByRecursion}
use Rattle.std.proofs.lemmas.List.Sums.{sum_by-cons, sum_by_push}
use Rattle.std.proofs.lemmas.Bool.{eqb-true}
use Rattle.std.proofs.lemmas.Bool.Decides.{nat_tests}
use Rattle.sockets.specs.declared.entry.SocketId.{SocketId}
use Rattle.sockets.specs.declared.entry.Entry.{Entry}
use Rattle.sockets.specs.Lists.{change_first, remove_first}
use Rattle.sockets.specs.Causes.{Follows}
use Rattle.sockets.specs.Offered.{is_id}
use Rattle.sockets.proofs.Ends.{eqb-same}
use Rattle.sockets.proofs.Followed.{IsNothing, by_test}

-- One element.

-- how often a test passes one element
unfoldable pub one : Bool → ℕ
one b = cond b 1 0

pub one-true : (b : Bool) → b ≡ true → one b ≡ 1
unfolding one
one-true b e = rw e

pub one-false : (b : Bool) → b ≡ false → one b ≡ 0
unfolding one
one-false b e = rw e

one-less : (b c : Bool) → (b ≡ true → c ≡ true) → one b ≤ one c
unfolding one
one-less b c implies = grind (arith, nat_tests)

-- a list by its first element ..
pub count-cons : {X : Type 0} (test : X → Bool) (x : X) (xs : List X) → count_by test (x ∷ xs) ≡ one (test x) + count_by test xs
unfolding one
count-cons test x xs = sum_by-cons (λ e. cond (test e) 1 0) x xs

-- .. and by its last
pub count-joined : {X : Type 0} (test : X → Bool) (xs : List X) (x : X) → count_by test (xs ++ x ∷ []) ≡ count_by test xs + one (test x)
unfolding one
count-joined test xs x = sum_by_push (λ e. cond (test e) 1 0) xs x

-- What is found, and what passes.

-- by what is found
pub by_option : {X P : Type 0} (o : Option X) → (o ≡ None → P) → ((x : X) → o ≡ Some x → P) → P
by_option None none some = none refl
by_option (Some x) none some = some x refl

-- the first that passes goes ..
pub count-removed : {X : Type 0} (test s : X → Bool) (xs : List X) (e : X) → find s xs ≡ Some e → count_by test xs ≡ count_by test (remove_first s xs) + one (test e)
count-removed test s [] e found = cc
count-removed test s (x ∷ xs) e found = grind (arith, nat_tests, count-cons test x xs, count-cons test x (remove_first s xs), count-removed test s xs e)

-- .. or changes
pub count-changed : {X : Type 0} (test s : X → Bool) (f : X → X) (xs : List X) (e : X) → find s xs ≡ Some e → count_by test (change_first s f xs) + one (test e) ≡ count_by test xs + one (test (f e))
count-changed test s f [] e found = cc
count-changed test s f (x ∷ xs) e found = grind (arith, nat_tests, count-cons test x xs, count-cons test (f x) xs, count-cons test x (change_first s f xs), count-changed test s f xs e)

-- where one is found that passes, the count is not 0
pub count-found : {X : Type 0} (s test : X → Bool) (xs : List X) (e : X) → find s xs ≡ Some e → test e ≡ true → 1 ≤ count_by test xs
count-found s test xs e found passes = omega (arith, count-removed test s xs e found, one-true (test e) passes)

-- a list has one that passes where the count is not 0
pub count-any : {X : Type 0} (s : X → Bool) (xs : List X) → list_any s xs ≡ true → 1 ≤ count_by s xs
count-any s [] any = cc
count-any s (x ∷ xs) any = grind (arith, nat_tests, count-cons s x xs, one-true (s x), count-any s xs)

pub count-no : {X : Type 0} (s : X → Bool) (xs : List X) → list_any s xs ≡ false → count_by s xs ≡ 0
count-no s [] none = refl
count-no s (x ∷ xs) none = grind (arith, nat_tests, count-cons s x xs, one-false (s x), count-no s xs)

pub any-counted : {X : Type 0} (s : X → Bool) (xs : List X) → 1 ≤ count_by s xs → list_any s xs ≡ true
any-counted s xs some = by_test (list_any s xs) (λ any. any) (λ none. absurd (omega (arith, count-no s xs none)))

-- one that passes is found
pub any-found : {X : Type 0} (s : X → Bool) (xs : List X) → 1 ≤ count_by s xs → (e : X) × (find s xs ≡ Some e)
any-found s [] some = absurd (omega arith)
any-found {X} s (x ∷ xs) some =
    by_test (s x)
    (λ here. (x, rw here))
    (λ there.
    let later : (e : X) × (find s xs ≡ Some e) = any-found s xs (omega (arith, count-cons s x xs, one-false (s x) there)) in
    let next : find s (x ∷ xs) ≡ find s xs = rw there in (later.0, next ∙ later.1))

-- two tests that never pass together, and a third that passes where one of them does
pub count-apart : {X : Type 0} (p q r : X → Bool) (xs : List X) → ((x : X) → one (p x) + one (q x) ≤ one (r x)) → count_by p xs + count_by q xs ≤ count_by r xs
count-apart p q r [] apart = omega arith
count-apart p q r (x ∷ xs) apart = omega (arith, count-cons p x xs, count-cons q x xs, count-cons r x xs, apart x, count-apart p q r xs apart)

-- a test that passes only where one of two others does
pub count-either : {X : Type 0} (p q r : X → Bool) (xs : List X) → ((x : X) → one (r x) ≤ one (p x) + one (q x)) → count_by r xs ≤ count_by p xs + count_by q xs
count-either p q r [] either = omega arith
count-either p q r (x ∷ xs) either = omega (arith, count-cons p x xs, count-cons q x xs, count-cons r x xs, either x, count-either p q r xs either)

-- Tables of which each entry is followed.

module _ (Step : Entry → Option Entry → Type 0) where
  -- a test passes no further entry ..
  pub fewer : (test : Entry → Bool) → ((x y : Entry) → Step x (Some y) → test y ≡ true → test x ≡ true) → (xs ys : List Entry) → Follows Step IsNothing xs ys → count_by test ys ≤ count_by test xs
  fewer test keeps [] ys f = rw f (omega arith)
  fewer test keeps (x ∷ xs) [] f = omega arith
  fewer test keeps (x ∷ xs) (y ∷ ys) (inl f) = omega (arith, count-cons test x xs, count-cons test y ys, one-less (test y) (test x) (keeps x y f.0), fewer test keeps xs ys f.1)
  fewer test keeps (x ∷ xs) (y ∷ ys) (inr f) = omega (arith, count-cons test x xs, fewer test keeps xs (y ∷ ys) f.1)

  -- .. or passes what is left of each that another passes, and nothing else
  pub as-many-left : (before after : Entry → Bool) → ((x y : Entry) → Step x (Some y) → after y ≡ before x) → ((x : Entry) → Step x None → before x ≡ false)
      → (xs ys : List Entry) → Follows Step IsNothing xs ys → count_by after ys ≡ count_by before xs
  as-many-left before after same gone [] ys f = rw f
  as-many-left before after same gone (x ∷ xs) [] f = omega (arith, count-cons before x xs, one-false (before x) (gone x f.0), as-many-left before after same gone xs [] f.1)
  as-many-left before after same gone (x ∷ xs) (y ∷ ys) (inl f) =
      omega (arith, count-cons before x xs, count-cons after y ys, ap one (same x y f.0), as-many-left before after same gone xs ys f.1)
  as-many-left before after same gone (x ∷ xs) (y ∷ ys) (inr f) = omega (arith, count-cons before x xs, one-false (before x) (gone x f.0), as-many-left before after same gone xs (y ∷ ys) f.1)

  pub no-longer : (xs ys : List Entry) → Follows Step IsNothing xs ys → length ys ≤ length xs
  no-longer [] ys f = rw f (omega arith)
  no-longer (x ∷ xs) [] f = omega arith
  no-longer (x ∷ xs) (y ∷ ys) (inl f) = omega (arith, no-longer xs ys f.1)
  no-longer (x ∷ xs) (y ∷ ys) (inr f) = omega (arith, no-longer xs (y ∷ ys) f.1)

-- All of a list.

-- what holds of all holds of what is found
pub all-found : {X : Type 0} (P : X → Type 0) (test : X → Bool) (xs : List X) (x : X) → AllByRecursion P xs → find test xs ≡ Some x → P x
all-found P test [] x all found = cc
all-found P test (y ∷ ys) x all found =
    by_test (test y)
    (λ here. let same : y ≡ x = (let at : Some y ≡ Some x = (rw here at found) in cc) in subst P same all.0)
    (λ there. all-found P test ys x all.1 (rw there at found))

pub all-with : {X : Type 0} (P Q R : X → Type 0) → ((x : X) → P x → Q x → R x) → (xs : List X) → AllByRecursion P xs → AllByRecursion Q xs → AllByRecursion R xs
all-with P Q R joins [] ps qs = tt
all-with P Q R joins (x ∷ xs) ps qs = (joins x ps.0 qs.0, all-with P Q R joins xs ps.1 qs.1)

-- what follows from it holds of all, too
pub all-mapped : {X : Type 0} (P Q : X → Type 0) → ((x : X) → P x → Q x) → (xs : List X) → AllByRecursion P xs → AllByRecursion Q xs
all-mapped P Q implies [] ps = tt
all-mapped P Q implies (x ∷ xs) ps = (implies x ps.0, all-mapped P Q implies xs ps.1)

-- Parts of a list.

-- a list from which some elements were left out
pub data IsPart {X : Type 0} : List X → List X → Type 0 where
  Empty : IsPart [] []
  Keeps : {x : X} {ys xs : List X} → IsPart ys xs → IsPart (x ∷ ys) (x ∷ xs)
  Skips : {x : X} {ys xs : List X} → IsPart ys xs → IsPart ys (x ∷ xs)

-- the whole list is a part of it
pub part-whole : {X : Type 0} (xs : List X) → IsPart xs xs
part-whole [] = Empty
part-whole (x ∷ xs) = Keeps (part-whole xs)

-- .. and so is what is left where the first that passes goes ..
pub part-removed : {X : Type 0} (s : X → Bool) (xs : List X) → IsPart (remove_first s xs) xs
part-removed s [] = Empty
part-removed s (x ∷ xs) = by_test (s x) (λ here. rw here (Skips (part-whole xs))) (λ there. rw there (Keeps (part-removed s xs)))

-- .. what a filter lets through ..
pub part-filtered : {X : Type 0} (s : X → Bool) (xs : List X) → IsPart (filter s xs) xs
part-filtered s [] = Empty
part-filtered s (x ∷ xs) = by_test (s x) (λ stays. rw stays (Keeps (part-filtered s xs))) (λ goes. rw goes (Skips (part-filtered s xs)))

-- .. and the list without its last
pub part-joined : {X : Type 0} (xs : List X) (x : X) → IsPart xs (xs ++ x ∷ [])
part-joined [] x = Skips Empty
part-joined (y ∷ ys) x = Keeps (part-joined ys x)

-- a test passes no more of it
pub count-part : {X : Type 0} (test : X → Bool) {ys xs : List X} → IsPart ys xs → count_by test ys ≤ count_by test xs
count-part test Empty = omega arith
count-part test (Keeps {x} {ys} {xs} p) = omega (arith, count-cons test x xs, count-cons test x ys, count-part test p)
count-part test (Skips {x} {ys} {xs} p) = omega (arith, count-cons test x xs, count-part test p)

-- Ids.

-- two ids of one number are one
pub same-id : (a b : SocketId) → (a.0 == b.0) ≡ true → a ≡ b
same-id a b e = ap (λ (k : ℕ). let i : SocketId = record { 0 = k } in i) (eqb-true a.0 b.0 e)

-- an id stands in a list that it begins
pub count-first : (x : SocketId) (rest : List SocketId) → count_by (is_id x) (x ∷ rest) ≡ 1 + count_by (is_id x) rest
count-first x rest = omega (arith, count-cons (is_id x) x rest, one-true (is_id x x) (eqb-same x.0))

-- an id stays where it passes
pub count-filtered : (s : SocketId → Bool) (i : SocketId) (ids : List SocketId) → count_by (is_id i) (filter s ids) ≡ cond (s i) (count_by (is_id i) ids) 0
count-filtered s i [] = grind (arith, nat_tests)
count-filtered s i (x ∷ rest) = grind (arith, nat_tests, count-cons (is_id i) x rest, count-cons (is_id i) x (filter s rest), count-filtered s i rest, one-false (is_id i x), same-id x i)

-- a part of a list is what passes a test that passes all of it, and passes nothing else of the list
pub filter-part : (test : SocketId → Bool) {ys xs : List SocketId} → IsPart ys xs → ((z : SocketId) → 1 ≤ count_by (is_id z) ys → test z ≡ true) → ((z : SocketId) → test z ≡ true → count_by (is_id z) xs ≤ count_by (is_id z) ys)
    → filter test xs ≡ ys
filter-part test Empty passes fails = refl
filter-part test (Keeps {x} {ys} {xs} p) passes fails =
    rw (passes x (omega (arith, count-first x ys)))
    (ap (λ (l : List SocketId). x ∷ l)
    (filter-part test p (λ z there. passes z (omega (arith, count-cons (is_id z) x ys))) (λ z its. omega (arith, count-cons (is_id z) x ys, count-cons (is_id z) x xs, fails z its))))
filter-part test (Skips {x} {ys} {xs} p) passes fails =
    by_test (test x)
    (λ its. absurd (omega (arith, count-first x xs, count-part (is_id x) p, fails x its)))
    (λ other. rw other (filter-part test p passes (λ z its. omega (arith, count-cons (is_id z) x xs, fails z its))))
