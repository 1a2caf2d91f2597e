-- What reports name: places of the ranges that are kept.
use Rattle.std.proofs.Common.{◌≡◌, ◌⊎◌, ℕ, zero, suc, ◌+◌, ◌%◌, ◌^◌, ◌<◌, ◌≤◌, Bool, true, false, not, cond, nat_le, nat_lt, ◌&&◌, inl, inr, List, [], ◌∷◌, ◌++◌, length, get_or, take, map, filter, reverse, Any, refl, sym, ◌∙◌, ap, subst, arith}
use Rattle.std.proofs.lemmas.Bool.{leb-true, ltb-true, le-leb, lt-ltb, and_parts}
use Rattle.std.proofs.lemmas.List.{append-nil, reverse-append, take_all, length-map, length-append, length-reverse}
use Rattle.std.proofs.lemmas.List.Elements.{filter-append}
use Rattle.std.proofs.lemmas.List.Filters.{length-filter_both}
use Rattle.stream_buf.specs.declared.ranges.Range.{Range}
use Rattle.stream_buf.specs.Receiving.{runs, ranges}
use Rattle.stream_buf.proofs.Runs.{runs_keep, runs_counted}
use Rattle.tcp_segment.specs.declared.blocks.Block.{Block}
use Rattle.tcp_segment.specs.Wire.{past}
use Rattle.tcp_halves.specs.Halves.{Receiving}
use Rattle.tcp_halves.specs.Blocks.{block_of, has_place, in_turn, reported}
use Rattle.tcp_halves.specs.Reports.{IsKept, IsOf, IsOfOne}
use Rattle.tcp_halves.proofs.Runs.{ends_within}

-- P holds of one of these
module _ {X : Type 0} (P : X → Type 0) where
  abbrev pub InOne : List X → Type 0
  InOne [] = ⊥
  InOne (x ∷ xs) = P x ⊎ InOne xs

  pub to_one : (xs : List X) → Any P xs → InOne xs
  to_one [] (k, x, below, is, holds) = absurd (omega (arith, below))
  to_one (y ∷ xs) (zero, x, below, is, holds) = inl (subst P (sym is) holds)
  to_one (y ∷ xs) (suc k, x, below, is, holds) = inr (to_one xs (k, x, omega (arith, below), is, holds))

  pub from_one : (xs : List X) → InOne xs → Any P xs
  from_one [] none = elim none [ ]
  from_one (x ∷ xs) (inl holds) = (0, x, omega arith, refl, holds)
  from_one (x ∷ xs) (inr one) = let a = from_one xs one in (suc a.0, a.1, omega (arith, a.2), a.3, a.4)

  one_of_taken : (n : ℕ) (xs : List X) → InOne (take n xs) → InOne xs
  one_of_taken zero xs one = absurd one
  one_of_taken (suc n) [] one = elim one [ ]
  one_of_taken (suc n) (x ∷ xs) (inl holds) = inl holds
  one_of_taken (suc n) (x ∷ xs) (inr one) = inr (one_of_taken n xs one)

  one_of_both : (xs ys : List X) → InOne (xs ++ ys) → InOne xs ⊎ InOne ys
  one_of_both [] ys one = inr one
  one_of_both (x ∷ xs) ys (inl holds) = inl (inl holds)
  one_of_both (x ∷ xs) ys (inr one) = elim (one_of_both xs ys one) [ inl front ↦ inl (inr front) | inr back ↦ inr back ]

  in_front : (xs ys : List X) → InOne xs → InOne (xs ++ ys)
  in_front [] ys none = elim none [ ]
  in_front (x ∷ xs) ys (inl holds) = inl holds
  in_front (x ∷ xs) ys (inr one) = inr (in_front xs ys one)

  behind : (xs ys : List X) → InOne ys → InOne (xs ++ ys)
  behind [] ys one = one
  behind (x ∷ xs) ys one = inr (behind xs ys one)

  one_of_filtered : (p : X → Bool) (xs : List X) → InOne (filter p xs) → InOne xs
  one_of_filtered p [] one = one
  one_of_filtered p (x ∷ xs) one = by (p x) (one_of_filtered p xs) one
    where
      by : (b : Bool) → (InOne (filter p xs) → InOne xs) → InOne (cond b (x ∷ filter p xs) (filter p xs)) → InOne (x ∷ xs)
      by true rest (inl holds) = inl holds
      by true rest (inr one) = inr (rest one)
      by false rest one = inr (rest one)

  turned_round : (x : X) (xs : List X) → reverse (x ∷ xs) ≡ reverse xs ++ x ∷ []
  turned_round x xs = reverse-append (x ∷ []) xs

  one_of_reversed : (xs : List X) → InOne (reverse xs) → InOne xs
  one_of_reversed [] one = one
  one_of_reversed (x ∷ xs) one =
      elim (one_of_both (reverse xs) (x ∷ []) (subst InOne (turned_round x xs) one)) [
        | inl front ↦ inr (one_of_reversed xs front)
        | inr (inl holds) ↦ inl holds
        | inr (inr none) ↦ absurd none
      ]

  in_reversed : (xs : List X) → InOne xs → InOne (reverse xs)
  in_reversed [] none = none
  in_reversed (x ∷ xs) (inl holds) = subst InOne (sym (turned_round x xs)) (behind (reverse xs) (x ∷ []) (inl holds))
  in_reversed (x ∷ xs) (inr one) = subst InOne (sym (turned_round x xs)) (in_front (reverse xs) (x ∷ []) (in_reversed xs one))

  -- what one filter keeps or the other
  filtered : (p q : X → Bool) → ((x : X) → q x ≡ not (p x)) → (xs : List X) → InOne xs → InOne (filter p xs) ⊎ InOne (filter q xs)
  filtered p q other [] none = inl none
  filtered p q other (x ∷ xs) one = by (p x) (q x) (other x) (filtered p q other xs) one
    where
      by : (b c : Bool) → c ≡ not b → (InOne xs → InOne (filter p xs) ⊎ InOne (filter q xs)) → InOne (x ∷ xs)
          → InOne (cond b (x ∷ filter p xs) (filter p xs)) ⊎ InOne (cond c (x ∷ filter q xs) (filter q xs))
      by true true is rest one = absurd (cc)
      by true false is rest (inl holds) = inl (inl holds)
      by true false is rest (inr one) = elim (rest one) [ inl first ↦ inl (inr first) | inr second ↦ inr second ]
      by false true is rest (inl holds) = inr (inl holds)
      by false true is rest (inr one) = elim (rest one) [ inl first ↦ inl first | inr second ↦ inr (inr second) ]
      by false false is rest one = absurd (cc)

-- of one list to that of its images, and back
module _ {X Y : Type 0} (f : X → Y) (P : Y → Type 0) where
  one_of_images : (xs : List X) → InOne P (map f xs) → InOne (λ x. P (f x)) xs
  one_of_images [] none = elim none [ ]
  one_of_images (x ∷ xs) (inl holds) = inl holds
  one_of_images (x ∷ xs) (inr one) = inr (one_of_images xs one)

  in_images : (xs : List X) → InOne (λ x. P (f x)) xs → InOne P (map f xs)
  in_images [] none = elim none [ ]
  in_images (x ∷ xs) (inl holds) = inl holds
  in_images (x ∷ xs) (inr one) = inr (in_images xs one)

mapped_one : {X : Type 0} (P Q : X → Type 0) → ((x : X) → P x → Q x) → (xs : List X) → InOne P xs → InOne Q xs
mapped_one P Q to [] none = elim none [ ]
mapped_one P Q to (x ∷ xs) (inl holds) = inl (to x holds)
mapped_one P Q to (x ∷ xs) (inr one) = inr (mapped_one P Q to xs one)

-- a list turned round, and then filtered
filter_reversed : {X : Type 0} (p : X → Bool) (xs : List X) → filter p (reverse xs) ≡ reverse (filter p xs)
filter_reversed p [] = refl
filter_reversed p (x ∷ xs) =
    ap (filter p) (reverse-append (x ∷ []) xs) ∙ filter-append p (reverse xs) (x ∷ [])
    ∙ ap (λ l. l ++ cond (p x) (x ∷ []) []) (filter_reversed p xs) ∙ by (p x)
  where
    by : (b : Bool) → reverse (filter p xs) ++ cond b (x ∷ []) [] ≡ reverse (cond b (x ∷ filter p xs) (filter p xs))
    by true = sym (reverse-append (x ∷ []) (filter p xs))
    by false = append-nil (reverse (filter p xs))

-- the numbers of a block are those of its range's places
abbrev Has : ℕ → Range → Type 0
Has place r = (r.start ≤ place) × (place < r.end)

has_both : (r : Range) (place : ℕ) → r.start ≤ place → place < r.end → has_place place r ≡ true
has_both r place low high = ap (λ b. b && nat_lt place r.end) (le-leb r.start place low) ∙ lt-ltb place r.end high

clash_by : false ≡ true → ⊥
clash_by never = cc

-- a number of a block stands at a place of the range
is_in_range : (rnext number start end : ℕ) → rnext < 2 ^ 32 → number < 2 ^ 32 → start < end → end ≤ 2 ^ 30
    → past number ((rnext + start) % 2 ^ 32) < past ((rnext + end) % 2 ^ 32) ((rnext + start) % 2 ^ 32) → (start ≤ past number rnext) × (past number rnext < end)
is_in_range rnext number start end a b some near of = (omega arith, omega arith)

is_in_block : (rnext number start end : ℕ) → rnext < 2 ^ 32 → number < 2 ^ 32 → start < end → end ≤ 2 ^ 30
    → start ≤ past number rnext → past number rnext < end → past number ((rnext + start) % 2 ^ 32) < past ((rnext + end) % 2 ^ 32) ((rnext + start) % 2 ^ 32)
is_in_block rnext number start end a b some near low high = omega arith

-- each of the ranges has a place, and ends within those that there are
abbrev IsRun : ℕ → Range → Type 0
IsRun most r = (r.start < r.end) × (r.end ≤ most)

both_one : {X : Type 0} (P Q : X → Type 0) (xs : List X) → ((k : ℕ) (d : X) → k < length xs → Q (get_or xs k d)) → InOne P xs → InOne (λ x. P x × Q x) xs
both_one P Q [] all none = elim none [ ]
both_one P Q (x ∷ xs) all (inl holds) = inl (holds, all 0 x (omega arith))
both_one P Q (x ∷ xs) all (inr one) = inr (both_one P Q xs (λ k d below. all (suc k) d (omega (arith, below))) one)

module _ (r : Receiving) (latest number : ℕ) (few : length r.kept ≤ 2 ^ 30) (next : r.rnext < 2 ^ 32) (small : number < 2 ^ 32) where
  abbrev Of : Range → Type 0
  Of range = IsOf (block_of r.rnext range) number

  bounds : (k : ℕ) (d : Range) → k < length (runs r.kept) → IsRun (length r.kept) (get_or (runs r.kept) k d)
  bounds k d below = ends_within r.kept k d below

  to_place : (range : Range) → Of range × IsRun (length r.kept) range → Has (past number r.rnext) range
  to_place range (of, (some, most)) = is_in_range r.rnext number range.start range.end next small some (omega (arith, most, few)) of

  of_place : (range : Range) → Has (past number r.rnext) range × IsRun (length r.kept) range → Of range
  of_place range ((low, high), (some, most)) = is_in_block r.rnext number range.start range.end next small some (omega (arith, most, few)) low high

  of_runs : InOne Of (in_turn (past latest r.rnext) (runs r.kept)) → InOne Of (runs r.kept)
  of_runs one =
      elim (one_of_both Of (filter (has_place (past latest r.rnext)) (runs r.kept)) (filter (λ x. not (has_place (past latest r.rnext) x)) (reverse (runs r.kept))) one) [
        | inl front ↦ one_of_filtered Of (has_place (past latest r.rnext)) (runs r.kept) front
        | inr back ↦ one_of_reversed Of (runs r.kept) (one_of_filtered Of (λ x. not (has_place (past latest r.rnext) x)) (reverse (runs r.kept)) back)
      ]

  pub reported_is_kept : IsOfOne (reported r latest) number → IsKept r number
  reported_is_kept of =
      let turn = in_turn (past latest r.rnext) (runs r.kept) in
      let blocks = map (block_of r.rnext) turn in
      let one = one_of_images (block_of r.rnext) (λ b. IsOf b number) turn (one_of_taken (λ b. IsOf b number) 4 blocks (to_one (λ b. IsOf b number) (take 4 blocks) of)) in
      (runs_keep r.kept (past number r.rnext)).1
      (from_one (Has (past number r.rnext)) (runs r.kept) (mapped_one (λ x. Of x × IsRun (length r.kept) x) (Has (past number r.rnext)) to_place (runs r.kept) (both_one Of (IsRun (length r.kept)) (runs r.kept) bounds (of_runs one))))

  has_run : IsKept r number → InOne Of (runs r.kept)
  has_run kept =
      mapped_one (λ x. Has (past number r.rnext) x × IsRun (length r.kept) x) Of of_place (runs r.kept)
      (both_one (Has (past number r.rnext)) (IsRun (length r.kept)) (runs r.kept) bounds (to_one (Has (past number r.rnext)) (runs r.kept) ((runs_keep r.kept (past number r.rnext)).0 kept)))

  length_in_turn : length (in_turn (past latest r.rnext) (runs r.kept)) ≡ length (runs r.kept)
  length_in_turn =
      let p = has_place (past latest r.rnext) in
      let q : Range → Bool = λ x. not (p x) in
      length-append (filter p (runs r.kept)) (filter q (reverse (runs r.kept)))
      ∙ omega (arith, length-filter_both p q (λ x. refl) (runs r.kept), ap length (filter_reversed q (runs r.kept)), length-reverse (filter q (runs r.kept)))

  pub kept_is_reported : ranges r.kept ≤ 4 → IsKept r number → IsOfOne (reported r latest) number
  kept_is_reported least kept =
      let p = has_place (past latest r.rnext) in
      let q : Range → Bool = λ x. not (p x) in
      let turn = in_turn (past latest r.rnext) (runs r.kept) in
      let blocks = map (block_of r.rnext) turn in
      let one : InOne Of turn = elim (filtered Of p q (λ x. refl) (runs r.kept) (has_run kept)) [
        | inl front ↦ in_front Of (filter p (runs r.kept)) (filter q (reverse (runs r.kept))) front
        | inr back ↦ behind Of (filter p (runs r.kept)) (filter q (reverse (runs r.kept))) (subst (InOne Of) (sym (filter_reversed q (runs r.kept))) (in_reversed Of (filter q (runs r.kept)) back))
      ] in
      let all : take 4 blocks ≡ blocks = take_all 4 blocks (omega (arith, length-map turn (block_of r.rnext), length_in_turn, runs_counted r.kept, least)) in
      subst (λ l. IsOfOne l number) (sym all) (from_one (λ b. IsOf b number) blocks (in_images (block_of r.rnext) (λ b. IsOf b number) turn one))

-- the first is the range with the place
module _ (r : Receiving) (latest : ℕ) (few : length r.kept ≤ 2 ^ 30) (next : r.rnext < 2 ^ 32) (small : latest < 2 ^ 32) where
  abbrev First : List Range → Type 0
  First rs = (x : Range) × (more : List Range) × (rs ≡ x ∷ more) × Has (past latest r.rnext) x × IsRun (length r.kept) x

  found : (xs : List Range) → InOne (λ x. Has (past latest r.rnext) x × IsRun (length r.kept) x) xs
      → ((k : ℕ) (d : Range) → k < length xs → IsRun (length r.kept) (get_or xs k d)) → First (filter (has_place (past latest r.rnext)) xs)
  found [] one all = elim one [ ]
  found (x ∷ xs) one all = by (has_place (past latest r.rnext) x) refl (λ rest. found xs rest (λ k d below. all (suc k) d (omega (arith, below)))) one
    where
      by : (b : Bool) → has_place (past latest r.rnext) x ≡ b
          → (InOne (λ y. Has (past latest r.rnext) y × IsRun (length r.kept) y) xs → First (filter (has_place (past latest r.rnext)) xs))
          → InOne (λ y. Has (past latest r.rnext) y × IsRun (length r.kept) y) (x ∷ xs)
          → First (cond b (x ∷ filter (has_place (past latest r.rnext)) xs) (filter (has_place (past latest r.rnext)) xs))
      by true has later one =
          let parts = and_parts (nat_le x.start (past latest r.rnext)) (nat_lt (past latest r.rnext) x.end) has in
          (x, filter (has_place (past latest r.rnext)) xs, refl, (leb-true x.start (past latest r.rnext) parts.0, ltb-true (past latest r.rnext) x.end parts.1), all 0 x (omega arith))
      by false lacks later (inl ((low, high), some)) = absurd (clash_by (sym lacks ∙ has_both x (past latest r.rnext) low high))
      by false lacks later (inr one) = later one

  pub latest_is_first : IsKept r latest → (first : Block) × (others : List Block) × (reported r latest ≡ first ∷ others) × IsOf first latest
  latest_is_first kept =
      let rs = runs r.kept in
      let ends : (k : ℕ) (d : Range) → k < length rs → IsRun (length r.kept) (get_or rs k d) = λ k d below. ends_within r.kept k d below in
      let one = both_one (Has (past latest r.rnext)) (IsRun (length r.kept)) rs ends (to_one (Has (past latest r.rnext)) rs ((runs_keep r.kept (past latest r.rnext)).0 kept)) in
      let f = found rs one ends in
      let back = filter (λ x. not (has_place (past latest r.rnext) x)) (reverse rs) in (
        block_of r.rnext f.0,
        take 3 (map (block_of r.rnext) (f.1 ++ back)),
        ap (λ l. take 4 (map (block_of r.rnext) (l ++ back))) f.2,
        is_in_block r.rnext latest (f.0).start (f.0).end next small f.4.0 (omega (arith, f.4.1, few)) f.3.0 f.3.1,
      )
