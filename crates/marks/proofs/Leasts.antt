-- How a tree of least moments stays one.
use Rattle.std.proofs.Common.{◌≡◌, ◌≢◌, inl, inr, ℕ, ◌+◌, ◌-◌, ◌*◌, ◌/◌, ◌<◌, ◌≤◌, min, List, [], ◌∷◌, ◌++◌, length, get_or, set, Option, Some, None, true, refl, sym, ◌∙◌, ap, subst, arith, length-set, get_or-set_same, get_or-set_other}
use Rattle.std.specs.List.{remove}
use Rattle.std.specs.Option.{option_eq}
use Rattle.std.proofs.lemmas.Bool.{cases_eq, cases_lt, eqb-true}
use Rattle.std.proofs.lemmas.List.{get_or_append_left, get_or-append_right, set-append_left, get_or_past, length_push}
use Rattle.std.proofs.lemmas.List.Edits.{get_or-remove_below, get_or-remove_above}
use Rattle.clock.specs.declared.moment.Moment.{Moment}
use Rattle.clock.specs.contracts.moment.MomentPartialEq.TheImpl.{eq-value}
use Rattle.marks.specs.Tree.{never, at_place, least_below, IsTreeBut, IsTree}

-- a node beside those from one place to another stands below none of the places that lie below those
left_beside : (from to place : ℕ) → (from / 2 ≤ place → to / 2 < place) → from ≤ 2 * place → to < 2 * place
left_beside from to place beside behind = elim (cases_lt place (from / 2)) [ inl below ↦ absurd (omega arith) | inr above ↦ omega (arith, beside above) ]

right_beside : (from to place : ℕ) → (from / 2 ≤ place → to / 2 < place) → from ≤ 2 * place + 1 → to < 2 * place + 1
right_beside from to place beside behind = elim (cases_lt place (from / 2)) [ inl below ↦ absurd (omega arith) | inr above ↦ omega (arith, beside above) ]

left_other : (node place : ℕ) → (node / 2 ≤ place → node / 2 < place) → 2 * place ≢ node
left_other node place beside = λ e. elim (cases_lt place (node / 2)) [ inl below ↦ omega arith | inr above ↦ omega (arith, beside above) ]

right_other : (node place : ℕ) → (node / 2 ≤ place → node / 2 < place) → 2 * place + 1 ≢ node
right_other node place beside = λ e. elim (cases_lt place (node / 2)) [ inl below ↦ omega arith | inr above ↦ omega (arith, beside above) ]

module _ (nodes leaves : List ℕ) where
  -- a node by itself
  pub at-node : (place : ℕ) → place < length nodes → at_place nodes leaves place ≡ get_or nodes place never
  at-node place within = get_or_append_left nodes leaves never place within

  -- a leaf by itself
  pub at-leaf : (place : ℕ) → length nodes ≤ place → at_place nodes leaves place ≡ get_or leaves (place - length nodes) never
  at-leaf place behind = get_or-append_right nodes leaves (length nodes) place never refl behind

  -- what a write of a node leaves
  written-other : (node place : ℕ) (key : ℕ) → node < length nodes → place ≢ node → at_place (set nodes node key) leaves place ≡ at_place nodes leaves place
  written-other node place key within other =
      ap (λ (all : List ℕ). get_or all place never) (sym (set-append_left nodes leaves node key within)) ∙ get_or-set_other (nodes ++ leaves) node place key never other

  written-same : (node : ℕ) (key : ℕ) → node < length nodes → at_place (set nodes node key) leaves node ≡ key
  written-same node key within = at-first ∙ get_or-set_same nodes node key never within
    where
      at-first : at_place (set nodes node key) leaves node ≡ get_or (set nodes node key) node never
      at-first = get_or_append_left (set nodes node key) leaves never node (omega (arith, length-set nodes node key))

  -- a node that is neither written nor above what is
  still : (node place : ℕ) (key : ℕ) → node < length nodes → place ≢ node → 2 * place ≢ node → 2 * place + 1 ≢ node → at_place nodes leaves place ≡ least_below nodes leaves place → at_place (set nodes node key) leaves place ≡ least_below (set nodes node key) leaves place
  still node place key within other left right is =
      written-other node place key within other ∙ is
      ∙ sym (ap (λ (a : ℕ). min a (at_place (set nodes node key) leaves (2 * place + 1))) (written-other node (2 * place) key within left)
      ∙ ap (λ (b : ℕ). min (at_place nodes leaves (2 * place)) b) (written-other node (2 * place + 1) key within right))

  -- a node that is written
  fresh : (node : ℕ) (key : ℕ) → 0 < node → node < length nodes → key ≡ least_below nodes leaves node → at_place (set nodes node key) leaves node ≡ least_below (set nodes node key) leaves node
  fresh node key first within is =
      written-same node key within ∙ is
      ∙ sym (ap (λ (a : ℕ). min a (at_place (set nodes node key) leaves (2 * node + 1))) (written-other node (2 * node) key within (λ e. omega arith))
      ∙ ap (λ (b : ℕ). min (at_place nodes leaves (2 * node)) b) (written-other node (2 * node + 1) key within (λ e. omega arith)))

  -- a node is put right, and the one above it may be wrong now
  pub climbed : (node : ℕ) (key : ℕ) → 0 < node → node < length nodes → key ≡ least_below nodes leaves node → IsTreeBut node node nodes leaves → IsTreeBut (node / 2) (node / 2) (set nodes node key) leaves
  climbed node key first within is tree = record {
    right = λ place above inside beside.
        let inner : place < length nodes = omega (arith, length-set nodes node key) in
        elim (cases_eq place node) [
          | inl same ↦ let P : ℕ → Type 0 = λ k. at_place (set nodes node key) leaves k ≡ least_below (set nodes node key) leaves k in subst P (sym same) (fresh node key first within is)
          | inr other ↦ still node place key within other (left_other node place beside) (right_other node place beside) (tree.right place above inner (omega arith))
        ];
  }

  -- a node that is right as it is
  pub stopped : (node : ℕ) → at_place nodes leaves node ≡ least_below nodes leaves node → IsTreeBut node node nodes leaves → IsTree nodes leaves
  stopped node is tree = record {
    right = λ place above inside beside.
        elim (cases_eq place node) [
          | inl same ↦ let P : ℕ → Type 0 = λ k. at_place nodes leaves k ≡ least_below nodes leaves k in subst P (sym same) is
          | inr other ↦ tree.right place above inside (omega arith)
        ];
  }

  -- leaves change from one place to another
  pub changed : (now : List ℕ) (from to : ℕ) → length nodes ≤ from → ((place : ℕ) → (from ≤ place → to < place) → at_place nodes now place ≡ at_place nodes leaves place) → IsTree nodes leaves → IsTreeBut (from / 2) (to / 2) nodes now
  changed now from to behind same tree = record {
    right = λ place above inside beside.
        same place (omega arith) ∙ tree.right place above inside (omega arith)
        ∙ sym (ap (λ (a : ℕ). min a (at_place nodes now (2 * place + 1))) (same (2 * place) (left_beside from to place beside))
        ∙ ap (λ (b : ℕ). min (at_place nodes leaves (2 * place)) b) (same (2 * place + 1) (right_beside from to place beside)));
  }

  -- and so where one is written
  pub changed_set : (leaf : ℕ) (key : ℕ) → IsTree nodes leaves → IsTreeBut ((length nodes + leaf) / 2) ((length nodes + leaf) / 2) nodes (set leaves leaf key)
  changed_set leaf key tree = changed (set leaves leaf key) (length nodes + leaf) (length nodes + leaf) (omega arith) (λ place beside.
      elim (cases_lt place (length nodes)) [
        | inl inside ↦ get_or_append_left nodes (set leaves leaf key) never place inside ∙ sym (at-node place inside)
        | inr behind ↦ get_or-append_right nodes (set leaves leaf key) (length nodes) place never refl behind ∙ get_or-set_other leaves leaf (place - length nodes) key never (λ e. omega arith) ∙ sym (at-leaf place behind)
      ]) tree

  -- where one joins
  pub changed_push : (key : ℕ) → IsTree nodes leaves → IsTreeBut ((length nodes + length leaves) / 2) ((length nodes + length leaves) / 2) nodes (leaves ++ key ∷ [])
  changed_push key tree = changed (leaves ++ key ∷ []) (length nodes + length leaves) (length nodes + length leaves) (omega arith) (λ place beside.
      elim (cases_lt place (length nodes)) [
        | inl inside ↦ get_or_append_left nodes (leaves ++ key ∷ []) never place inside ∙ sym (at-node place inside)
        | inr behind ↦ get_or-append_right nodes (leaves ++ key ∷ []) (length nodes) place never refl behind ∙ beside_push (place - length nodes) (λ e. omega arith) ∙ sym (at-leaf place behind)
      ]) tree
    where
      beside_push : (leaf : ℕ) → leaf ≢ length leaves → get_or (leaves ++ key ∷ []) leaf never ≡ get_or leaves leaf never
      beside_push leaf other =
          elim (cases_lt leaf (length leaves)) [
            | inl inside ↦ get_or_append_left leaves (key ∷ []) never leaf inside
            | inr behind ↦ get_or_past (leaves ++ key ∷ []) leaf never (omega (arith, length_push leaves key)) ∙ sym (get_or_past leaves leaf never behind)
          ]

  -- and where one leaves
  pub changed_remove : (leaf : ℕ) → leaf < length leaves → IsTree nodes leaves → IsTreeBut ((length nodes + leaf) / 2) ((length nodes + (length leaves - 1)) / 2) nodes (remove leaves leaf)
  changed_remove leaf held tree = changed (remove leaves leaf) (length nodes + leaf) (length nodes + (length leaves - 1)) (omega arith) (λ place beside.
      elim (cases_lt place (length nodes)) [
        | inl inside ↦ get_or_append_left nodes (remove leaves leaf) never place inside ∙ sym (at-node place inside)
        | inr behind ↦ get_or-append_right nodes (remove leaves leaf) (length nodes) place never refl behind ∙ beside_removed (place - length nodes) (λ e. omega arith) ∙ sym (at-leaf place behind)
      ]) tree
    where
      beside_removed : (place : ℕ) → (leaf ≤ place → length leaves ≤ place) → get_or (remove leaves leaf) place never ≡ get_or leaves place never
      beside_removed place beside =
          elim (cases_lt place leaf) [
            | inl inside ↦ get_or-remove_below leaves leaf never place inside held
            | inr behind ↦ get_or-remove_above leaves leaf never place behind held ∙ get_or_past leaves (place + 1) never (omega arith) ∙ sym (get_or_past leaves place never (beside behind))
          ]

-- the nodes from one place to another of one level are put right one by one, and meanwhile those above them may be wrong
pub record IsRenewed (next to from last : ℕ) (nodes leaves : List ℕ) : Type 0 where
  pub right : (node : ℕ) → 0 < node → node < length nodes → (next ≤ node → to < node) → (from ≤ node → last < node) → at_place nodes leaves node ≡ least_below nodes leaves node

pub renewed_first : (from to : ℕ) (nodes leaves : List ℕ) → IsTreeBut from to nodes leaves → IsRenewed from to (from / 2) (to / 2) nodes leaves
renewed_first from to nodes leaves tree = record { right = λ node above inside beside _. tree.right node above inside beside }

pub renewed_next : (next to from last : ℕ) (nodes leaves : List ℕ) (key : ℕ) → from ≤ next / 2 → next / 2 ≤ last → next < length nodes → key ≡ least_below nodes leaves next → IsRenewed next to from last nodes leaves → IsRenewed (next + 1) to from last (set nodes next key) leaves
renewed_next next to from last nodes leaves key low high within is renewed = record {
  right = λ place above inside beside apart.
      let inner : place < length nodes = omega (arith, length-set nodes next key) in
      let half : next / 2 ≤ place → next / 2 < place = λ h. omega (arith, apart (omega arith)) in
      elim (cases_eq place next) [
        | inl same ↦ let P : ℕ → Type 0 = λ k. at_place (set nodes next key) leaves k ≡ least_below (set nodes next key) leaves k in subst P (sym same) (fresh nodes leaves next key (omega arith) within is)
        | inr other ↦ still nodes leaves next place key within other (left_other next place half) (right_other next place half) (renewed.right place above inner (λ h. beside (omega arith)) apart)
      ];
}

pub renewed_last : (next to from last : ℕ) (nodes leaves : List ℕ) → to < next → IsRenewed next to from last nodes leaves → IsTreeBut from last nodes leaves
renewed_last next to from last nodes leaves all renewed = record { right = λ node above inside beside. renewed.right node above inside (λ h. omega arith) beside }

-- equal lists make equal trees
pub carried : (from to was_from was_to : ℕ) (nodes was_nodes leaves was_leaves : List ℕ) → from ≡ was_from → to ≡ was_to → nodes ≡ was_nodes → leaves ≡ was_leaves → IsTreeBut was_from was_to was_nodes was_leaves → IsTreeBut from to nodes leaves
carried from to was_from was_to nodes was_nodes leaves was_leaves f t n m tree =
    subst (λ (zs : List ℕ). IsTreeBut from to nodes zs) (sym m)
    (subst (λ (ys : List ℕ). IsTreeBut from to ys was_leaves) (sym n)
    (subst (λ (k : ℕ). IsTreeBut from k was_nodes was_leaves) (sym t)
    (subst (λ (k : ℕ). IsTreeBut k was_to was_nodes was_leaves) (sym f) tree)))

-- what the comparison of two finds the same is so
pub same-from_eq : (a b : Option Moment) → option_eq eq-value.it a b ≡ true → a ≡ b
same-from_eq None None e = refl
same-from_eq None (Some b) e = cc
same-from_eq (Some a) None e = cc
same-from_eq (Some a) (Some b) e = let k : a.0 ≡ b.0 = eqb-true _ _ e in λ i. Some (record { 0 = k i })
