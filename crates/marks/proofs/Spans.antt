-- What lies below a node: the leaves of a span, whose least it is.
use Rattle.std.proofs.Common.{◌≡◌, ℕ, zero, suc, ◌+◌, ◌-◌, ◌*◌, ◌^◌, ◌<◌, ◌≤◌, List, [], ◌∷◌, ◌++◌, length, get_or, min, take, drop, Option, Some, None, refl, sym, ◌∙◌, ap, arith}
use Rattle.std.specs.List.{fold, remove}
use Rattle.std.specs.Int.{IsPowerOfTwo}
use Rattle.std.proofs.Math.Nat.{two-pow-succ, mul-le-mul_left}
use Rattle.std.proofs.Math.Seq.{take-add}
use Rattle.std.proofs.lemmas.Bool.Decides.{nat_tests}
use Rattle.std.proofs.lemmas.Nat.{pow_pos}
use Rattle.std.proofs.lemmas.List.{drop-drop, take_all, map-append, take-map, drop-map}
use Rattle.std.proofs.lemmas.List.Sums.{fold-append}
use Rattle.clock.specs.declared.moment.Moment.{Moment}
use Rattle.clock.specs.Moments.{sooner}
use Rattle.marks.specs.Tree.{never, key, keys, at_place, IsTree}
use Rattle.marks.specs.Walk.{Stands}
use Rattle.marks.proofs.Leasts.{at-node, at-leaf}

-- The sooner of many.

sooner-None : (a : Option Moment) → sooner a None ≡ a
sooner-None None = refl
sooner-None (Some a) = refl

sooner_assoc_some : (a b c : Moment) → sooner (sooner (Some a) (Some b)) (Some c) ≡ sooner (Some a) (sooner (Some b) (Some c))
sooner_assoc_some a b c = grind (arith, nat_tests)

sooner_assoc : (a b c : Option Moment) → sooner (sooner a b) c ≡ sooner a (sooner b c)
sooner_assoc None b c = refl
sooner_assoc (Some a) None c = refl
sooner_assoc (Some a) (Some b) None = sooner-None (sooner (Some a) (Some b))
sooner_assoc (Some a) (Some b) (Some c) = sooner_assoc_some a b c

least_from : (a : Option Moment) (xs : List (Option Moment)) → fold sooner a xs ≡ sooner a (fold sooner None xs)
least_from a [] = sym (sooner-None a)
least_from a (x ∷ xs) = least_from (sooner a x) xs ∙ sooner_assoc a x (fold sooner None xs) ∙ ap (λ (b : Option Moment). sooner a b) (sym (least_from x xs))

least_append : (xs ys : List (Option Moment)) → fold sooner None (xs ++ ys) ≡ sooner (fold sooner None xs) (fold sooner None ys)
least_append xs ys = fold-append sooner None xs ys ∙ least_from (fold sooner None xs) ys

least_alone : (xs : List (Option Moment)) (leaf : ℕ) → get_or xs leaf None ≡ fold sooner None (take 1 (drop leaf xs))
least_alone [] zero = refl
least_alone [] (suc leaf) = refl
least_alone (x ∷ xs) zero = refl
least_alone (x ∷ xs) (suc leaf) = least_alone xs leaf

-- The leaves below a node.
mul_pos : (a b : ℕ) → 0 < a * b → 0 < a
mul_pos zero b h = absurd (omega arith)
mul_pos (suc a) b h = omega arith

-- it is a leaf at height 0
pub low : (nodes node start : ℕ) → Stands nodes node start 0 → node ≡ nodes + start
low nodes node start stands = let place : node * 1 ≡ nodes + start = stands.place in omega arith

-- and else one of the nodes, with two below it
pub record Halves (nodes node start height : ℕ) : Type 0 where
  pub left : Stands nodes (2 * node) start height
  pub right : Stands nodes (2 * node + 1) (start + 2 ^ height) height
  pub first : 0 < node
  pub inside : node < nodes

pub halves : (nodes node start height : ℕ) → Stands nodes node start (suc height) → Halves nodes node start height
halves nodes node start height stands =
    let width : ℕ = 2 ^ height in
    let double : 2 ^ suc height ≡ width + width = two-pow-succ height in
    let some : 0 < width = pow_pos height in
    let place : node * (width + width) ≡ nodes + start = ap (λ m. node * m) (sym double) ∙ stands.place in
    let grown : node * 1 ≤ node * width = mul-le-mul_left node (omega arith) in
    let room : start + (width + width) ≤ nodes = omega (arith, stands.within, double) in
    record {
      left = record { place = omega arith; within = omega arith };
      right = record { place = omega arith; within = omega arith };
      first = mul_pos node (width + width) (omega arith);
      inside = omega arith;
    }

-- Keys.

key_sooner_some : (a b : Moment) → min (key (Some a)) (key (Some b)) ≡ key (sooner (Some a) (Some b))
key_sooner_some a b = grind (arith, nat_tests)

key_sooner : (a b : Option Moment) → min (key a) (key b) ≡ key (sooner a b)
key_sooner None None = refl
key_sooner None (Some b) = let h : min (2 ^ 64 - 1) (min b.0 (2 ^ 64 - 2)) ≡ min b.0 (2 ^ 64 - 2) = omega arith in h
key_sooner (Some a) None = let h : min (min a.0 (2 ^ 64 - 2)) (2 ^ 64 - 1) ≡ min a.0 (2 ^ 64 - 2) = omega arith in h
key_sooner (Some a) (Some b) = key_sooner_some a b

pub key-at : (moments : List (Option Moment)) (leaf : ℕ) → get_or (keys moments) leaf never ≡ key (get_or moments leaf None)
key-at [] leaf = refl
key-at (x ∷ xs) zero = refl
key-at (x ∷ xs) (suc leaf) = key-at xs leaf

module _ (nodes : List ℕ) (moments : List (Option Moment)) where
  -- a node is the key of the least of the leaves of its span
  pub least_span : IsTree nodes (keys moments) → (height node start : ℕ) → Stands (length nodes) node start height → at_place nodes (keys moments) node ≡ key (fold sooner None (take (2 ^ height) (drop start moments)))
  least_span tree zero node start stands =
      let place : node ≡ length nodes + start = low (length nodes) node start stands in
      let leaf : node - length nodes ≡ start = omega arith in
      at-leaf nodes (keys moments) node (omega arith) ∙ ap (λ i. get_or (keys moments) i never) leaf ∙ key-at moments start ∙ ap key (least_alone moments start)
  least_span tree (suc height) node start stands =
      let below : Halves (length nodes) node start height = halves (length nodes) node start height stands in
      let width : ℕ = 2 ^ height in
      let double : 2 ^ suc height ≡ width + width = two-pow-succ height in
      let left : List (Option Moment) = take width (drop start moments) in
      let right : List (Option Moment) = take width (drop width (drop start moments)) in
      tree.right node below.first below.inside (λ _. below.first)
      ∙ ap (λ a. min a (at_place nodes (keys moments) (2 * node + 1))) (least_span tree height (2 * node) start below.left)
      ∙ ap (λ b. min (key (fold sooner None left)) b) (least_span tree height (2 * node + 1) (start + width) below.right ∙ ap (λ (ys : List (Option Moment)). key (fold sooner None (take width ys))) (sym (drop-drop width start moments)))
      ∙ key_sooner (fold sooner None left) (fold sooner None right)
      ∙ ap key (sym (ap (λ n. fold sooner None (take n (drop start moments))) double ∙ ap (λ (ys : List (Option Moment)). fold sooner None ys) (take-add width width (drop start moments)) ∙ least_append left right))

  -- so the first node is the key of the least of all
  pub least_root : IsPowerOfTwo (length nodes) → 1 < length nodes → length moments ≤ length nodes → IsTree nodes (keys moments) → key (fold sooner None moments) ≡ get_or nodes 1 never
  least_root power top held tree =
      let height : ℕ = power.0 in
      let all : length nodes ≡ 2 ^ height = power.1 in
      sym (sym (at-node nodes (keys moments) 1 top) ∙ least_span tree height 1 0 (record { place = omega (arith, all); within = omega (arith, all) }) ∙ ap (λ (ys : List (Option Moment)). key (fold sooner None ys)) (take_all (2 ^ height) moments (omega (arith, all))))

-- what a key tells
pub key-early : (a : Option Moment) (k : ℕ) → key a ≡ k → k < 2 ^ 64 - 2 → a ≡ Some (record { 0 = k })
key-early None k is early = absurd (let h : 2 ^ 64 - 1 ≡ k = is in omega arith)
key-early (Some a) k is early = let h : min a.0 (2 ^ 64 - 2) ≡ k = is in let same : a.0 ≡ k = omega arith in λ i. Some (record { 0 = same i })

pub key-never : (a : Option Moment) → key a ≡ never → a ≡ None
key-never None is = refl
key-never (Some a) is = absurd (let h : min a.0 (2 ^ 64 - 2) ≡ 2 ^ 64 - 1 = is in omega arith)

-- Keys of changed moments.

pub keys_remove : (moments : List (Option Moment)) (place : ℕ) → keys (remove moments place) ≡ remove (keys moments) place
keys_remove moments place = simp (map-append, take-map, drop-map)
