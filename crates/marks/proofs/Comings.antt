-- The walk to the first moment that has come.
use Rattle.std.proofs.Common.{◌≡◌, inl, inr, ℕ, zero, suc, ◌+◌, ◌-◌, ◌*◌, ◌/◌, ◌%◌, ◌^◌, ◌<◌, ◌≤◌, Bool, true, false, cond, nat_lt, nat_le, min, List, length, get_or, drop, Option, Some, None, refl, sym, ◌∙◌, ap, subst, arith, length-drop}
use Rattle.std.specs.Int.{IsPowerOfTwo}
use Rattle.std.specs.List.{position, position_or_len}
use Rattle.std.specs.Option.{option_map}
use Rattle.std.proofs.Math.Nat.{two-pow-succ}
use Rattle.std.proofs.lemmas.Bool.{cases_lt}
use Rattle.std.proofs.lemmas.Bool.Decides.{nat_tests}
use Rattle.std.proofs.lemmas.Nat.{mul-le}
use Rattle.std.proofs.lemmas.List.{get_or-drop, get_or_past}
use Rattle.std.proofs.lemmas.List.Sums.{position_or_len_is}
use Rattle.clock.specs.declared.moment.Moment.{Moment}
use Rattle.clock.specs.Moments.{has_come}
use Rattle.marks.specs.First.{first_from}
use Rattle.marks.specs.Tree.{never, key, keys, at_place, least_below, IsTree}
use Rattle.marks.specs.Walk.{ArePassed, Stands, LiesBelow, IsReached, IsFirst}
use Rattle.marks.proofs.Leasts.{at-leaf}
use Rattle.marks.proofs.Spans.{Halves, halves, low, key-at}

-- The first that passes a test.

module _ {X : Type 0} (test : X → Bool) where
  position_there : (xs : List X) (place : ℕ) (d : X) → place < length xs → ((k : ℕ) → k < place → test (get_or xs k d) ≡ false) → test (get_or xs place d) ≡ true → position test xs ≡ Some place
  position_there xs place d within fails passes =
      let here : position_or_len test xs ≡ place = position_or_len_is test xs place d (omega arith) fails (λ _. passes) in
      let inside : nat_lt place (length xs) ≡ true = grind (arith, nat_tests, within) in
      ap (λ n. cond (nat_lt n (length xs)) (Some n) None) here ∙ ap (λ b. cond b (Some place) None) inside

  position_nowhere : (xs : List X) (d : X) → ((k : ℕ) → k < length xs → test (get_or xs k d) ≡ false) → position test xs ≡ None
  position_nowhere xs d fails =
      let behind : position_or_len test xs ≡ length xs = position_or_len_is test xs (length xs) d (omega arith) fails (λ h. absurd (omega (arith, h))) in
      let outside : nat_lt (length xs) (length xs) ≡ false = grind (arith, nat_tests) in
      ap (λ n. cond (nat_lt n (length xs)) (Some n) None) behind ∙ ap (λ b. cond b (Some (length xs)) None) outside

  pub first_there : (from : ℕ) (xs : List X) (place : ℕ) (d : X) → from ≤ place → place < length xs → ((k : ℕ) → from ≤ k → k < place → test (get_or xs k d) ≡ false) → test (get_or xs place d) ≡ true → first_from test from xs ≡ Some place
  first_there from xs place d behind within fails passes =
      let whole : from + (place - from) ≡ place = omega arith in
      let there : position test (drop from xs) ≡ Some (place - from) =
      position_there (drop from xs) (place - from) d (omega (arith, length-drop from xs))
      (λ k h. ap test (get_or-drop from xs k d) ∙ fails (from + k) (omega arith) (omega arith))
      (ap test (get_or-drop from xs (place - from) d ∙ ap (λ i. get_or xs i d) whole) ∙ passes)
      in
      ap (λ (o : Option ℕ). option_map (λ ahead. from + ahead) o) there ∙ ap Some whole

  pub first_nowhere : (from : ℕ) (xs : List X) (d : X) → ((k : ℕ) → from ≤ k → k < length xs → test (get_or xs k d) ≡ false) → first_from test from xs ≡ None
  first_nowhere from xs d fails =
      ap (λ (o : Option ℕ). option_map (λ ahead. from + ahead) o)
      (position_nowhere (drop from xs) d (λ k h. ap test (get_or-drop from xs k d) ∙ fails (from + k) (omega arith) (omega (arith, length-drop from xs))))

module _ (nodes leaves : List ℕ) (now : ℕ) (tree : IsTree nodes leaves) where
  -- no leaf below a node that has not come has
  pub quiet : (height node start : ℕ) → Stands (length nodes) node start height → now < at_place nodes leaves node → ArePassed leaves now start (start + 2 ^ height)
  quiet zero node start stands not_yet leaf behind before =
      let place : node ≡ length nodes + start = low (length nodes) node start stands in
      let only : leaf < start + 1 = before in
      let here : node - length nodes ≡ leaf = omega arith in
      let same : at_place nodes leaves node ≡ get_or leaves leaf never = at-leaf nodes leaves node (omega arith) ∙ ap (λ i. get_or leaves i never) here in
      omega arith
  quiet (suc height) node start stands not_yet leaf behind before =
      let below : Halves (length nodes) node start height = halves (length nodes) node start height stands in
      let double : 2 ^ suc height ≡ 2 ^ height + 2 ^ height = two-pow-succ height in
      let least : at_place nodes leaves node ≡ least_below nodes leaves node = tree.right node below.first below.inside (λ _. below.first) in
      elim (cases_lt leaf (start + 2 ^ height)) [
        | inl near ↦ quiet height (2 * node) start below.left (omega (arith, least)) leaf behind near
        | inr far ↦ quiet height (2 * node + 1) (start + 2 ^ height) below.right (omega (arith, least)) leaf far (omega (arith, double, before))
      ]

  passed_on : (from start : ℕ) (to : ℕ) → ArePassed leaves now from start → ArePassed leaves now start to → ArePassed leaves now from to
  passed_on from start to before after leaf behind within = elim (cases_lt leaf start) [ inl near ↦ before leaf behind near | inr far ↦ after leaf far within ]

  -- The walk to the right.

  stands_reached : (from node end : ℕ) (reached : IsReached nodes leaves now from node end) → node < end → Stands (length nodes) node reached.start reached.height
  stands_reached from node end reached inside =
      let width : ℕ = 2 ^ reached.height in
      let below : (node + 1) * width ≤ end * width = mul-le (node + 1) width end width (omega arith) (omega arith) in
      record { place = reached.place; within = omega (arith, below, reached.place, reached.last) }

  -- a node that has come is one below which the first lies
  pub found_node : (from node end : ℕ) → IsReached nodes leaves now from node end → node < end → at_place nodes leaves node ≤ now → LiesBelow nodes leaves now from node
  found_node from node end reached inside come =
      record { height = reached.height; start = reached.start; stands = stands_reached from node end reached inside; behind = reached.behind; passed = reached.passed; come = come }

  -- and else it is passed by
  pub reached_next : (from node end : ℕ) → IsReached nodes leaves now from node end → node < end → now < at_place nodes leaves node → IsReached nodes leaves now from (node + 1) end
  reached_next from node end reached inside not_yet =
      let width : ℕ = 2 ^ reached.height in
      let stands : Stands (length nodes) node reached.start reached.height = stands_reached from node end reached inside in
      record {
        height = reached.height;
        level = reached.level;
        start = reached.start + width;
        place = omega (arith, reached.place);
        last = reached.last;
        power = reached.power;
        within = omega arith;
        behind = omega (arith, reached.behind);
        passed = passed_on from reached.start (reached.start + width) reached.passed (quiet reached.height node reached.start stands not_yet);
      }

  -- a left node and the one above it begin with the same leaf
  pub reached_above : (from node end : ℕ) → 0 < node → node % 2 ≡ 0 → IsReached nodes leaves now from node end → IsReached nodes leaves now from (node / 2) (end / 2)
  reached_above from node end first left reached = by_level reached.level reached.power
    where
      by_level : (level : ℕ) → end ≡ 2 ^ level → IsReached nodes leaves now from (node / 2) (end / 2)
      by_level zero power = let one : end ≡ 1 = power in absurd (omega (arith, one, reached.within))
      by_level (suc level) power =
          let width : ℕ = 2 ^ reached.height in
          let double : 2 ^ suc reached.height ≡ width + width = two-pow-succ reached.height in
          let half : end ≡ 2 ^ level + 2 ^ level = power ∙ two-pow-succ level in
          let above : node * width ≡ (2 * (node / 2)) * width = let twice : node ≡ 2 * (node / 2) = omega arith in ap (λ m. m * width) twice in
          let ends : end * width ≡ (2 * (end / 2)) * width = let twice : end ≡ 2 * (end / 2) = omega arith in ap (λ m. m * width) twice in
          let place : node / 2 * (width + width) ≡ length nodes + reached.start = omega (arith, above, reached.place) in
          let last : end / 2 * (width + width) ≡ length nodes + length nodes = omega (arith, ends, reached.last) in
          record {
            height = suc reached.height;
            level = level;
            start = reached.start;
            place = ap (λ m. node / 2 * m) double ∙ place;
            last = ap (λ m. end / 2 * m) double ∙ last;
            power = omega arith;
            within = omega (arith, reached.within);
            behind = reached.behind;
            passed = reached.passed;
          }

  -- The walk down.

  -- of the two below a node that has come the left one is the next, where it has come, and else the right one
  pub next_left : (from node left : ℕ) → left ≡ 2 * node → node < length nodes → at_place nodes leaves left ≤ now → LiesBelow nodes leaves now from node → LiesBelow nodes leaves now from left
  next_left from node left is inside come lies = by_height lies.height lies.stands
    where
      by_height : (height : ℕ) → Stands (length nodes) node lies.start height → LiesBelow nodes leaves now from left
      by_height zero stands = let leaf : node ≡ length nodes + lies.start = low (length nodes) node lies.start stands in absurd (omega arith)
      by_height (suc height) stands =
          let below : Halves (length nodes) node lies.start height = halves (length nodes) node lies.start height stands in
          record { height = height; start = lies.start; stands = let P : ℕ → Type 0 = λ k. Stands (length nodes) k lies.start height in subst P (sym is) below.left; behind = lies.behind; passed = lies.passed; come = come }

  pub next_right : (from node left : ℕ) → left ≡ 2 * node → node < length nodes → now < at_place nodes leaves left → LiesBelow nodes leaves now from node → LiesBelow nodes leaves now from (left + 1)
  next_right from node left is inside not_yet lies = by_height lies.height lies.stands
    where
      by_height : (height : ℕ) → Stands (length nodes) node lies.start height → LiesBelow nodes leaves now from (left + 1)
      by_height zero stands = let leaf : node ≡ length nodes + lies.start = low (length nodes) node lies.start stands in absurd (omega arith)
      by_height (suc height) stands =
          let below : Halves (length nodes) node lies.start height = halves (length nodes) node lies.start height stands in
          let left_not : now < at_place nodes leaves (2 * node) = let P : ℕ → Type 0 = λ k. now < at_place nodes leaves k in subst P is not_yet in
          let least : at_place nodes leaves node ≡ least_below nodes leaves node = tree.right node below.first below.inside (λ _. below.first) in
          let right_has : at_place nodes leaves (2 * node + 1) ≤ now = omega (arith, least, left_not, lies.come) in
          let P : ℕ → Type 0 = λ k. LiesBelow nodes leaves now from (k + 1) in
          subst P (sym is) (record {
            height = height;
            start = lies.start + 2 ^ height;
            stands = below.right;
            behind = omega (arith, lies.behind);
            passed = passed_on from lies.start (lies.start + 2 ^ height) lies.passed (quiet height (2 * node) lies.start below.left left_not);
            come = right_has;
          })

  -- a leaf that has come is the first
  pub found_leaf : (from node : ℕ) → length nodes ≤ node → LiesBelow nodes leaves now from node → IsFirst leaves now from (node - length nodes)
  found_leaf from node leaf lies = by_height lies.height lies.stands
    where
      by_height : (height : ℕ) → Stands (length nodes) node lies.start height → IsFirst leaves now from (node - length nodes)
      by_height (suc height) stands =
          let below : Halves (length nodes) node lies.start height = halves (length nodes) node lies.start height stands in
          let inside : node < length nodes = below.inside in
          absurd (omega arith)
      by_height zero stands =
          let place : node ≡ length nodes + lies.start = low (length nodes) node lies.start stands in
          let here : node - length nodes ≡ lies.start = omega arith in
          let same : at_place nodes leaves node ≡ get_or leaves (node - length nodes) never = at-leaf nodes leaves node leaf in
          record {
            behind = omega (arith, lies.behind);
            passed = λ k behind before. lies.passed k behind (omega arith);
            come = omega (arith, lies.come);
          }

  -- The first node.

  root : (power : IsPowerOfTwo (length nodes)) → Stands (length nodes) 1 0 power.0
  root power = let all : length nodes ≡ 2 ^ power.0 = power.1 in record { place = omega (arith, all); within = omega (arith, all) }

  -- where it has not come none has
  pub none_come : IsPowerOfTwo (length nodes) → now < at_place nodes leaves 1 → ArePassed leaves now 0 (length nodes)
  none_come power not_yet leaf behind inside = let all : length nodes ≡ 2 ^ power.0 = power.1 in quiet power.0 1 0 (root power) not_yet leaf behind (omega (arith, all, inside))

  -- and else the first of all lies below it
  pub below_root : IsPowerOfTwo (length nodes) → at_place nodes leaves 1 ≤ now → LiesBelow nodes leaves now 0 1
  below_root power come = record { height = power.0; start = 0; stands = root power; behind = omega arith; passed = λ leaf behind within. absurd (omega arith); come = come }

-- the walk to the right begins with the leaf itself
pub reached_first : (nodes leaves : List ℕ) (now from : ℕ) → IsPowerOfTwo (length nodes) → from < length nodes → IsReached nodes leaves now from (length nodes + from) (2 * length nodes)
reached_first nodes leaves now from power inside =
    let all : length nodes ≡ 2 ^ power.0 = power.1 in
    let double : 2 ^ suc power.0 ≡ 2 ^ power.0 + 2 ^ power.0 = two-pow-succ power.0 in
    let alone : (length nodes + from) * 1 ≡ length nodes + from = omega arith in
    let last : 2 * length nodes * 1 ≡ length nodes + length nodes = omega arith in
    record {
      height = 0;
      level = suc power.0;
      start = from;
      place = alone;
      last = last;
      power = omega arith;
      within = omega arith;
      behind = omega arith;
      passed = λ leaf behind within. absurd (omega arith);
    }

-- A moment before the last two has come as its key says.

module _ (moments : List (Option Moment)) (now : Moment) (early : now.0 < 2 ^ 64 - 2) where
  come_key : (a : Option Moment) → key a ≤ now.0 → has_come a now ≡ true
  come_key None come = absurd (let h : 2 ^ 64 - 1 ≤ now.0 = come in omega arith)
  come_key (Some a) come = let h : min a.0 (2 ^ 64 - 2) ≤ now.0 = come in let before : a.0 ≤ now.0 = omega arith in early_enough a before
    where
      early_enough : (b : Moment) → b.0 ≤ now.0 → nat_le b.0 now.0 ≡ true
      early_enough b before = grind (arith, nat_tests)

  not_key : (a : Option Moment) → now.0 < key a → has_come a now ≡ false
  not_key None late = refl
  not_key (Some a) late = let h : now.0 < min a.0 (2 ^ 64 - 2) = late in let behind : now.0 < a.0 = omega arith in too_late a behind
    where
      too_late : (b : Moment) → now.0 < b.0 → nat_le b.0 now.0 ≡ false
      too_late b behind = grind (arith, nat_tests)

  not_passed : (leaf : ℕ) → now.0 < get_or (keys moments) leaf never → has_come (get_or moments leaf None) now ≡ false
  not_passed leaf late = not_key (get_or moments leaf None) (let P : ℕ → Type 0 = λ k. now.0 < k in subst P (key-at moments leaf) late)

  pub first_is : (from leaf : ℕ) → IsFirst (keys moments) now.0 from leaf → first_from (λ deadline. has_come deadline now) from moments ≡ Some leaf
  first_is from leaf first =
      let come : has_come (get_or moments leaf None) now ≡ true = come_key (get_or moments leaf None) (let P : ℕ → Type 0 = λ k. k ≤ now.0 in subst P (key-at moments leaf) first.come) in
      let held : leaf < length moments =
      elim (cases_lt leaf (length moments)) [
        | inl inside ↦ inside
        | inr past ↦ let none : has_come None now ≡ true = ap (λ (a : Option Moment). has_come a now) (sym (get_or_past moments leaf None past)) ∙ come in cc
      ]
      in
      first_there (λ deadline. has_come deadline now) from moments leaf None first.behind held (λ k behind before. not_passed k (first.passed k behind before)) come

  pub first_is_none : (from to : ℕ) → length moments ≤ to → ArePassed (keys moments) now.0 from to → first_from (λ deadline. has_come deadline now) from moments ≡ None
  first_is_none from to held passed = first_nowhere (λ deadline. has_come deadline now) from moments None (λ k behind inside. not_passed k (passed k behind (omega arith)))
