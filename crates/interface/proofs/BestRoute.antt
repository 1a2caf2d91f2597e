-- The best route as a function is the one that `Routes::pick` finds.
use Rattle.std.proofs.Common.{◌≡◌, ℕ, zero, suc, ◌<◌, ◌≤◌, Bool, true, false, not, ◌&&◌, ◌||◌, nat_eq, nat_le, List, [], ◌∷◌, length, get_or, find, Option, Some, None, option_map, Contains, refl, sym, ◌∙◌, ap, arith, subst}
use Rattle.std.specs.List.{list_all}
use Rattle.std.proofs.lemmas.Bool.Decides.{nat_tests}
use Rattle.ipv4.specs.declared.addr.Addr.{Addr}
use Rattle.ipv4.specs.Prefixes.{bit, StartAlike}
use Rattle.routes.specs.declared.route.Route.{Route}
use Rattle.routes.specs.declared.route.Hop.{Hop}
use Rattle.routes.specs.Routes.{IsTable, IsBest, Picks}
use Rattle.routes.proofs.Tables.{one_best}
use Rattle.interface.specs.Routing.{start_alike, matches, is_best, pick}

-- A conjunction of tests.

both : (a b : Bool) → a ≡ true → b ≡ true → (a && b) ≡ true
both true b p q = q
both false b p q = p

left_of : (a b : Bool) → (a && b) ≡ true → a ≡ true
left_of true b e = refl
left_of false b e = e

right_of : (a b : Bool) → (a && b) ≡ true → b ≡ true
right_of true b e = e
right_of false b e = absurd cc

-- The first bits agree exactly where the test says so.

alike_test : (n : ℕ) (a b : Addr) → StartAlike n a b → start_alike n a b ≡ true
unfolding start_alike
alike_test zero a b h = refl
alike_test (suc k) a b h =
    let below : start_alike k a b ≡ true = alike_test k a b (λ i less. h i (omega (arith, less))) in
    let here : bit a k ≡ bit b k = h k (omega arith) in
    both (start_alike k a b) (nat_eq (bit a k) (bit b k)) below (grind (arith, nat_tests, here))

by_last : (k : ℕ) (a b : Addr) → StartAlike k a b → bit a k ≡ bit b k → (i : ℕ) → i < suc k → (t : Bool) → nat_eq i k ≡ t → bit a i ≡ bit b i
by_last k a b below here i less true same = let e : i ≡ k = grind (arith, nat_tests, same) in subst (λ (j : ℕ). bit a j ≡ bit b j) (sym e) here
by_last k a b below here i less false other = let lower : i < k = grind (arith, nat_tests, other, less) in below i lower

alike_from_test : (n : ℕ) (a b : Addr) → start_alike n a b ≡ true → StartAlike n a b
unfolding start_alike
alike_from_test zero a b e = λ i less. absurd (omega (arith, less))
alike_from_test (suc k) a b e =
    let below : StartAlike k a b = alike_from_test k a b (left_of (start_alike k a b) (nat_eq (bit a k) (bit b k)) e) in
    let last : nat_eq (bit a k) (bit b k) ≡ true = right_of (start_alike k a b) (nat_eq (bit a k) (bit b k)) e in
    let here : bit a k ≡ bit b k = grind (arith, nat_tests, last) in
    λ i less. by_last k a b below here i less (nat_eq i k) refl

-- Where a test holds of every element, and where it holds of the first that passes.

all_test : {X : Type 0} (p : X → Bool) (xs : List X) → ((x : X) → Contains xs x → p x ≡ true) → list_all p xs ≡ true
all_test p [] h = refl
all_test p (x ∷ xs) h =
    both (p x) (list_all p xs) (h x (0, omega arith, refl)) (all_test p xs (λ y at. h y (suc at.0, omega (arith, at.1), at.2)))

all_from_test : {X : Type 0} (p : X → Bool) (xs : List X) → list_all p xs ≡ true → (x : X) → Contains xs x → p x ≡ true
all_from_test p [] e x at = absurd (omega (arith, at.1))
all_from_test p (y ∷ ys) e x at = by_place (all_from_test p ys (right_of (p y) (list_all p ys) e) x) at.0 at.1 at.2
  where
    by_place : (Contains ys x → p x ≡ true) → (k : ℕ) → k < length (y ∷ ys) → get_or (y ∷ ys) k x ≡ x → p x ≡ true
    by_place rest zero within is = ap p (sym is) ∙ left_of (p y) (list_all p ys) e
    by_place rest (suc k) within is = rest (k, omega (arith, within), is)

-- the first that passes is one of them, and passes
record IsFound {X : Type 0} (p : X → Bool) (xs : List X) (o : Option X) : Type 0 where
  one : X
  is : o ≡ Some one
  among : Contains xs one
  passes : p one ≡ true

found_behind : {X : Type 0} (p : X → Bool) (z : X) (zs : List X) → p z ≡ false → IsFound p zs (find p zs) → IsFound p (z ∷ zs) (find p (z ∷ zs))
found_behind p z zs not_here rest =
    let at = rest.among in
    record { one = rest.one; is = rw not_here rest.is; among = (suc at.0, omega (arith, at.1), at.2); passes = rest.passes }

found_here : {X : Type 0} (p : X → Bool) (z : X) (zs : List X) → p z ≡ true → IsFound p (z ∷ zs) (find p (z ∷ zs))
found_here p z zs here = record { one = z; is = rw here refl; among = (0, omega arith, refl); passes = here }

found : {X : Type 0} (p : X → Bool) (xs : List X) (x : X) → Contains xs x → p x ≡ true → IsFound p xs (find p xs)
found p [] x at e = absurd (omega (arith, at.1))
found p (z ∷ zs) x at e = by_test (λ rest. found p zs x rest e) (p z) refl
  where
    behind : p z ≡ false → (k : ℕ) → k < length (z ∷ zs) → get_or (z ∷ zs) k x ≡ x → Contains zs x
    behind not_here zero within is = absurd (let same : p z ≡ true = ap p is ∙ e in cc)
    behind not_here (suc k) within is = (k, omega (arith, within), is)

    by_test : (Contains zs x → IsFound p zs (find p zs)) → (b : Bool) → p z ≡ b → IsFound p (z ∷ zs) (find p (z ∷ zs))
    by_test rest true here = found_here p z zs here
    by_test rest false not_here = found_behind p z zs not_here (rest (behind not_here at.0 at.1 at.2))

none_found : {X : Type 0} (p : X → Bool) (xs : List X) → ((x : X) → Contains xs x → p x ≡ false) → find p xs ≡ None
none_found p [] h = refl
none_found p (x ∷ xs) h =
    let first : p x ≡ false = h x (0, omega arith, refl) in
    rw first (none_found p xs (λ y at. h y (suc at.0, omega (arith, at.1), at.2)))

-- The best route, by tests.

best_test : (table : List Route) (addr : Addr) (best : Route) → IsBest table addr best → is_best table addr best ≡ true
best_test table addr best is = both (matches addr best) (list_all _ table) (alike_test best.prefix.length best.prefix.addr addr is.matches) (all_test _ table longer)
  where
    longer : (other : Route) → Contains table other → (not (matches addr other) || nat_le other.prefix.length best.prefix.length) ≡ true
    longer other here = by_match (matches addr other) refl
      where
        by_match : (b : Bool) → matches addr other ≡ b → (not b || nat_le other.prefix.length best.prefix.length) ≡ true
        by_match false e = refl
        by_match true e =
            let less : other.prefix.length ≤ best.prefix.length = is.longest other here (alike_from_test other.prefix.length other.prefix.addr addr e) in
            grind (arith, nat_tests, less)

best_from_test : (table : List Route) (addr : Addr) (best : Route) → Contains table best → is_best table addr best ≡ true → IsBest table addr best
best_from_test table addr best here e = record {
  entry = here;
  matches = alike_from_test best.prefix.length best.prefix.addr addr (left_of (matches addr best) (list_all _ table) e);
  longest = λ other inside its. longer other inside (alike_test other.prefix.length other.prefix.addr addr its);
}
  where
    longer : (other : Route) → Contains table other → matches addr other ≡ true → other.prefix.length ≤ best.prefix.length
    longer other inside its =
        let tested : (not (matches addr other) || nat_le other.prefix.length best.prefix.length) ≡ true =
        all_from_test (λ (o : Route). not (matches addr o) || nat_le o.prefix.length best.prefix.length) table (right_of (matches addr best) (list_all _ table) e) other inside in
        let less : nat_le other.prefix.length best.prefix.length ≡ true = ap (λ b. not b || nat_le other.prefix.length best.prefix.length) (sym its) ∙ tested in
        grind (arith, nat_tests, less)

-- so what is picked is the function's answer
pub picked : (table : List Route) (addr : Addr) (hop : Option Hop) → IsTable table → Picks table addr hop → hop ≡ pick table addr
unfolding pick
picked table addr None is none = sym (ap (option_map (λ (best : Route). best.hop)) (none_found (is_best table addr) table not_best))
  where
    not_best : (route : Route) → Contains table route → is_best table addr route ≡ false
    not_best route here = by_test (is_best table addr route) refl
      where
        by_test : (b : Bool) → is_best table addr route ≡ b → b ≡ false
        by_test false e = refl
        by_test true e = absurd (none route here (best_from_test table addr route here e).matches)
picked table addr (Some hop) is picks =
    let best : Route = picks.0 in
    let first = found (is_best table addr) table best picks.1.entry (best_test table addr best picks.1) in
    let same : first.one ≡ best = one_best table addr first.one best is (best_from_test table addr first.one first.among first.passes) picks.1 in
    sym (ap (option_map (λ (route : Route). route.hop)) first.is ∙ ap (λ (route : Route). Some route.hop) same ∙ ap (λ (h : Hop). Some h) picks.2)
