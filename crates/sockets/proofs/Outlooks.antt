-- What is noted of the entries, where one of them is written, joins or goes.
use Rattle.std.proofs.Common.{◌≡◌, ◌⊎◌, inl, inr, subst, ◌&&◌, nat_le, ℕ, zero, suc, ◌+◌, ◌-◌, ◌<◌, ◌≤◌, ◌==◌, nat_lt, Bool, true, false, if◌then◌else◌, List, [], ◌∷◌, ◌++◌, length, get_or, set, Option, Some, None, refl, sym, ◌∙◌, ap, arith}
use Rattle.std.specs.Prelude.{map, IfSome}
use Rattle.std.specs.Bool.{then_some}
use Rattle.std.specs.List.{remove, refill, fold}
use Rattle.std.proofs.lemmas.List.{length-map, length-set, length_push, map-set, map-append, set-set, set-get_or, get_or-map}
use Rattle.std.proofs.lemmas.List.Edits.{length-remove}
use Rattle.std.proofs.lemmas.Bool.{eqb-true, eqb-false}
use Rattle.std.proofs.lemmas.Bool.Decides.{nat_tests}
use Rattle.sockets.specs.declared.entry.Entry.{Entry}
use Rattle.sockets.specs.declared.outlook.Outlook.{Outlook}
use Rattle.sockets.specs.Outlook.{is_busy_entry, is_pending_entry, deadline_of_entry, with_at, at_without, first_of, IsOutlook}
use Rattle.marks.specs.First.{first_from}
use Rattle.clock.specs.declared.moment.Moment.{Moment}
use Rattle.clock.specs.Moments.{has_come, sooner}
use Rattle.sockets.specs.Entries.{deadline_of}
use Rattle.sockets.proofs.FirstFrom.{first-none, first-here, first-behind, further}
use Rattle.sockets.proofs.AtHand.{apart, least}
use Rattle.sockets.proofs.Firsts.{refill_set, remove-set}
use Rattle.sockets.proofs.Followed.{by_test}

-- Lists.

set-joined : {T : Type 0} (xs ys : List T) (i : ℕ) (x : T) → i < length xs → set (xs ++ ys) i x ≡ set xs i x ++ ys
set-joined [] ys i x within = absurd (omega arith)
set-joined (z ∷ zs) ys zero x within = refl
set-joined (z ∷ zs) ys (suc i) x within = ap (λ l. z ∷ l) (set-joined zs ys i x (omega arith))

map-removed : {S T : Type 0} (f : S → T) (xs : List S) (i : ℕ) → i < length xs → map f (remove xs i) ≡ remove (map f xs) i
map-removed f [] i within = absurd (omega arith)
map-removed f (x ∷ xs) zero within = refl
map-removed f (x ∷ xs) (suc i) within = ap (λ l. f x ∷ l) (map-removed f xs i (omega arith))

-- a place behind the one that is taken out moves down
removed-above : {T : Type 0} (xs : List T) (i p : ℕ) (x : T) → p ≤ i → suc i < length xs → remove (set xs (suc i) x) p ≡ set (remove xs p) i x
removed-above [] i p x behind within = absurd (omega arith)
removed-above (y ∷ ys) i zero x behind within = refl
removed-above (y ∷ ys) zero (suc p) x behind within = absurd (omega arith)
removed-above (y ∷ ys) (suc i) (suc p) x behind within = ap (λ l. y ∷ l) (removed-above ys i p x (omega arith) (omega arith))

removed-below : {T : Type 0} (xs : List T) (i p : ℕ) (x : T) → i < p → p < length xs → remove (set xs i x) p ≡ set (remove xs p) i x
removed-below [] i p x before within = absurd (omega arith)
removed-below (y ∷ ys) i zero x before within = absurd (omega arith)
removed-below (y ∷ ys) zero (suc p) x before within = refl
removed-below (y ∷ ys) (suc i) (suc p) x before within = ap (λ l. y ∷ l) (removed-below ys i p x (omega arith) (omega arith))

abbrev IsWithin : Option ℕ → ℕ → Type 0
IsWithin at n = IfSome at (λ i. i < n)

-- What is noted by one function.

module _ {T : Type 0} (f : Entry → T) (x : T) where
  -- of the entry at hand too
  pub noted-again : (i : ℕ) (xs : List Entry) (d : Entry) → set (set (map f xs) i x) i (f (get_or xs i d)) ≡ map f xs
  noted-again i xs d = set-set (map f xs) i x (f (get_or xs i d)) ∙ sym (map-set f xs i (get_or xs i d)) ∙ ap (map f) (set-get_or xs i d)

  noted-written : (i : ℕ) (xs : List Entry) (y : Entry) → set (map f (set xs i y)) i x ≡ set (map f xs) i x
  noted-written i xs y = ap (λ l. set l i x) (map-set f xs i y) ∙ set-set (map f xs) i (f y) x

  noted-joined : (at : Option ℕ) (xs : List Entry) (y : Entry) → IsWithin at (length xs) → with_at at x (map f (xs ++ y ∷ [])) ≡ with_at at x (map f xs) ++ f y ∷ []
  noted-joined None xs y within = map-append f xs (y ∷ [])
  noted-joined (Some i) xs y within =
      let same : length (map f xs) ≡ length xs = length-map xs f in
      ap (λ l. set l i x) (map-append f xs (y ∷ [])) ∙ set-joined (map f xs) (f y ∷ []) i x (omega (arith, within))

  noted-removed : (at : Option ℕ) (xs : List Entry) (p : ℕ) → p < length xs → IsWithin at (length xs) → remove (with_at at x (map f xs)) p ≡ with_at (at_without at p) x (map f (remove xs p))
  noted-removed None xs p inside within = sym (map-removed f xs p inside)
  noted-removed (Some i) xs p inside within =
      let same : length (map f xs) ≡ length xs = length-map xs f in
      by_test (i == p)
      (λ it. rw it (ap (λ k. remove (set (map f xs) k x) p) (eqb-true i p it) ∙ remove-set (map f xs) p x ∙ sym (map-removed f xs p inside)))
      (λ other. by_test (nat_lt p i)
      (λ behind.
      let up : i ≡ suc (i - 1) = grind (arith, nat_tests) in
      let low : p ≤ i - 1 = grind (arith, nat_tests) in
      let high : suc (i - 1) < length (map f xs) = omega (arith, within, same, up) in
      rw (other, behind) (ap (λ k. remove (set (map f xs) k x) p) up ∙ removed-above (map f xs) (i - 1) p x low high ∙ ap (λ l. set l (i - 1) x) (sym (map-removed f xs p inside))))
      (λ before.
      let less : i < p = let apart = eqb-false i p other in grind (arith, nat_tests) in
      let in_list : p < length (map f xs) = omega (arith, inside, same) in
      rw (other, before) (removed-below (map f xs) i p x less in_list ∙ ap (λ l. set l i x) (sym (map-removed f xs p inside)))))

  -- and the same of a list that is noted
  still-written : (at : Option ℕ) (items : List T) (i : ℕ) (xs : List Entry) (y : Entry) → items ≡ with_at at x (map f xs) → at ≡ Some i → items ≡ with_at at x (map f (set xs i y))
  still-written at items i xs y known is = known ∙ ap (λ a. with_at a x (map f xs)) is ∙ sym (noted-written i xs y) ∙ ap (λ a. with_at a x (map f (set xs i y))) (sym is)

  still-away : (at to : Option ℕ) (items new : List T) (i : ℕ) (xs : List Entry) (d : Entry) (b : T) → items ≡ with_at at x (map f xs) → at ≡ Some i → b ≡ f (get_or xs i d) → to ≡ None → new ≡ set items i b → new ≡ with_at to x (map f xs)
  still-away at to items new i xs d b known is is_b none written =
      written ∙ ap (λ l. set l i b) (known ∙ ap (λ a. with_at a x (map f xs)) is) ∙ ap (λ c. set (set (map f xs) i x) i c) is_b ∙ noted-again i xs d ∙ ap (λ a. with_at a x (map f xs)) (sym none)

  still-joined : (at to : Option ℕ) (items new : List T) (xs : List Entry) (y : Entry) → items ≡ with_at at x (map f xs) → IsWithin at (length xs) → to ≡ at → new ≡ items ++ f y ∷ [] → new ≡ with_at to x (map f (xs ++ y ∷ []))
  still-joined at to items new xs y known within same joined = joined ∙ ap (λ l. l ++ f y ∷ []) known ∙ sym (noted-joined at xs y within) ∙ ap (λ a. with_at a x (map f (xs ++ y ∷ []))) (sym same)

  still-removed : (at to : Option ℕ) (items new : List T) (xs : List Entry) (i : ℕ) → items ≡ with_at at x (map f xs) → i < length xs → IsWithin at (length xs) → to ≡ at_without at i → new ≡ remove items i → new ≡ with_at to x (map f (remove xs i))
  still-removed at to items new xs i known inside within same removed = removed ∙ ap (λ l. remove l i) known ∙ noted-removed at xs i inside within ∙ ap (λ a. with_at a x (map f (remove xs i))) (sym same)

-- the place at hand lies in what is left
within-removed : (at : Option ℕ) (xs : List Entry) (p : ℕ) → p < length xs → IsWithin at (length xs) → IsWithin (at_without at p) (length (remove xs p))
within-removed None xs p inside within = tt
within-removed (Some i) xs p inside within =
    let left : length (remove xs p) + 1 ≡ length xs = length-remove xs p inside in
    by_test (i == p)
    (λ it. rw it tt)
    (λ other. by_test (nat_lt p i)
    (λ behind. rw (other, behind) (let less : i - 1 < length (remove xs p) = grind (arith, nat_tests) in less))
    (λ before. let apart = eqb-false i p other in rw (other, before) (let less : i < length (remove xs p) = grind (arith, nat_tests) in less)))

within-joined : (at : Option ℕ) (xs : List Entry) (y : Entry) → IsWithin at (length xs) → IsWithin at (length (xs ++ y ∷ []))
within-joined None xs y within = tt
within-joined (Some i) xs y within = let more : length (xs ++ y ∷ []) ≡ length xs + 1 = length_push xs y in omega (arith, within, more)

-- the entry at hand is written, in a slice that was lent
pub outlook_written : (o : Outlook) (most : ℕ) (xs zs : List Entry) (i : ℕ) (y : Entry) → IsOutlook o most xs → o.at_hand ≡ Some i → zs ≡ xs → IsOutlook o most (refill (length xs) xs (set zs i y))
outlook_written o most xs zs i y known at lent =
    subst (λ (ws : List Entry). IsOutlook o most ws) (sym (refill_set xs zs i y lent))
    (record {
      within = subst (λ n. IsWithin o.at_hand n) (sym (length-set xs i y)) known.within;
      busy = still-written is_busy_entry false o.at_hand o.busy.items i xs y known.busy at;
      pending = still-written is_pending_entry false o.at_hand o.pending.items i xs y known.pending at;
      deadlines = still-written deadline_of_entry None o.at_hand o.deadlines.items i xs y known.deadlines at;
      busy_most = known.busy_most;
      pending_most = known.pending_most;
      deadlines_most = known.deadlines_most;
    })

-- What happens to an outlook.

pub outlook_turned_away : (o p : Outlook) (most : ℕ) (xs : List Entry) (i : ℕ) (d : Entry) (b w : Bool) (m : Option Moment) → IsOutlook o most xs → o.at_hand ≡ Some i → b ≡ is_busy_entry (get_or xs i d) → w ≡ is_pending_entry (get_or xs i d) → m ≡ deadline_of_entry (get_or xs i d)
    → p.at_hand ≡ None → p.busy.items ≡ set o.busy.items i b → p.busy.most ≡ o.busy.most → p.pending.items ≡ set o.pending.items i w → p.pending.most ≡ o.pending.most → p.deadlines.items ≡ set o.deadlines.items i m → p.deadlines.most ≡ o.deadlines.most → IsOutlook p most xs
outlook_turned_away o p most xs i d b w m known at is_b is_w is_m none busy busy_most pending pending_most deadlines deadlines_most = record {
  within = subst (λ a. IsWithin a (length xs)) (sym none) tt;
  busy = still-away is_busy_entry false o.at_hand p.at_hand o.busy.items p.busy.items i xs d b known.busy at is_b none busy;
  pending = still-away is_pending_entry false o.at_hand p.at_hand o.pending.items p.pending.items i xs d w known.pending at is_w none pending;
  deadlines = still-away deadline_of_entry None o.at_hand p.at_hand o.deadlines.items p.deadlines.items i xs d m known.deadlines at is_m none deadlines;
  busy_most = busy_most ∙ known.busy_most;
  pending_most = pending_most ∙ known.pending_most;
  deadlines_most = deadlines_most ∙ known.deadlines_most;
}

pub outlook_joined : (o p : Outlook) (most : ℕ) (xs : List Entry) (y : Entry) → IsOutlook o most xs → p.at_hand ≡ o.at_hand → p.busy.items ≡ o.busy.items ++ is_busy_entry y ∷ [] → p.busy.most ≡ o.busy.most
    → p.pending.items ≡ o.pending.items ++ is_pending_entry y ∷ [] → p.pending.most ≡ o.pending.most → p.deadlines.items ≡ o.deadlines.items ++ deadline_of_entry y ∷ [] → p.deadlines.most ≡ o.deadlines.most → IsOutlook p most (xs ++ y ∷ [])
outlook_joined o p most xs y known at busy busy_most pending pending_most deadlines deadlines_most = record {
  within = subst (λ a. IsWithin a (length (xs ++ y ∷ []))) (sym at) (within-joined o.at_hand xs y known.within);
  busy = still-joined is_busy_entry false o.at_hand p.at_hand o.busy.items p.busy.items xs y known.busy known.within at busy;
  pending = still-joined is_pending_entry false o.at_hand p.at_hand o.pending.items p.pending.items xs y known.pending known.within at pending;
  deadlines = still-joined deadline_of_entry None o.at_hand p.at_hand o.deadlines.items p.deadlines.items xs y known.deadlines known.within at deadlines;
  busy_most = busy_most ∙ known.busy_most;
  pending_most = pending_most ∙ known.pending_most;
  deadlines_most = deadlines_most ∙ known.deadlines_most;
}

pub outlook_removed : (o p : Outlook) (most : ℕ) (xs : List Entry) (i : ℕ) → i < length xs → IsOutlook o most xs → p.at_hand ≡ at_without o.at_hand i → p.busy.items ≡ remove o.busy.items i → p.busy.most ≡ o.busy.most
    → p.pending.items ≡ remove o.pending.items i → p.pending.most ≡ o.pending.most → p.deadlines.items ≡ remove o.deadlines.items i → p.deadlines.most ≡ o.deadlines.most → IsOutlook p most (remove xs i)
outlook_removed o p most xs i inside known at busy busy_most pending pending_most deadlines deadlines_most = record {
  within = subst (λ a. IsWithin a (length (remove xs i))) (sym at) (within-removed o.at_hand xs i inside known.within);
  busy = still-removed is_busy_entry false o.at_hand p.at_hand o.busy.items p.busy.items xs i known.busy inside known.within at busy;
  pending = still-removed is_pending_entry false o.at_hand p.at_hand o.pending.items p.pending.items xs i known.pending inside known.within at pending;
  deadlines = still-removed deadline_of_entry None o.at_hand p.at_hand o.deadlines.items p.deadlines.items xs i known.deadlines inside known.within at deadlines;
  busy_most = busy_most ∙ known.busy_most;
  pending_most = pending_most ∙ known.pending_most;
  deadlines_most = deadlines_most ∙ known.deadlines_most;
}

-- What it tells.

first-mapped : {S T : Type 0} (f : S → T) (test : T → Bool) (from : ℕ) (xs : List S) → first_from test from (map f xs) ≡ first_from (λ x. test (f x)) from xs
first-mapped f test zero [] = refl
first-mapped f test (suc n) [] = first-none test (suc n) ∙ sym (first-none (λ x. test (f x)) (suc n))
first-mapped f test zero (x ∷ xs) = first-here test (f x) (map f xs) ∙ ap (λ o. if test (f x) then Some 0 else further o) (first-mapped f test 0 xs) ∙ sym (first-here (λ y. test (f y)) x xs)
first-mapped f test (suc n) (x ∷ xs) = first-behind test n (f x) (map f xs) ∙ ap further (first-mapped f test n xs) ∙ sym (first-behind (λ y. test (f y)) n x xs)

-- whether the entry at hand was looked at, which is where it isn't in front of the place
abbrev pub Looked : (Entry → Bool) → List Entry → ℕ → ℕ → Bool → Type 0
Looked f xs i from b = ((from ≤ i) × (d : Entry) × (b ≡ f (get_or xs i d))) ⊎ ((i < from) × (b ≡ false))

looked : (f : Entry → Bool) (xs : List Entry) (i from : ℕ) (b : Bool) → i < length xs → Looked f xs i from b → b ≡ (nat_le from i && get_or (map f xs) i false)
looked f xs i from b inside (inl (behind, d, is)) =
    let yes_le : nat_le from i ≡ true = grind (arith, nat_tests) in
    is ∙ sym (get_or-map f xs i d false inside) ∙ ap (λ c. c && get_or (map f xs) i false) (sym yes_le)
looked f xs i from b inside (inr (before, is)) =
    let no_le : nat_le from i ≡ false = grind (arith, nat_tests) in
    is ∙ ap (λ c. c && get_or (map f xs) i false) (sym no_le)

then-chosen : (b : Bool) (i : ℕ) → then_some b i ≡ (if b then Some i else None)
then-chosen true i = refl
then-chosen false i = refl

-- a place in front
pub in_front : (from i : ℕ) (b : Bool) → i < from → b ≡ nat_le from i → b ≡ false
in_front from i b before is = let no_le : nat_le from i ≡ false = grind (arith, nat_tests) in is ∙ no_le

next-apart : (f : Entry → Bool) (xs : List Entry) (i from : ℕ) (b : Bool) → i < length xs → Looked f xs i from b → first_of (then_some b i) (first_from (λ c. c) from (set (map f xs) i false)) ≡ first_from f from xs
next-apart f xs i from b inside look =
    let same : length (map f xs) ≡ length xs = length-map xs f in
    ap (λ at. first_of at (first_from (λ c. c) from (set (map f xs) i false))) (then-chosen b i)
    ∙ ap (λ c. first_of (if c then Some i else None) (first_from (λ c. c) from (set (map f xs) i false))) (looked f xs i from b inside look)
    ∙ sym (apart (map f xs) i from (omega (arith, inside, same))) ∙ first-mapped f (λ c. c) from xs

-- of what is noted as marks
module _ (f : Entry → Bool) (xs : List Entry) (at : Option ℕ) (items : List Bool) (known : items ≡ with_at at false (map f xs)) where
  pub marked_alone : (from : ℕ) (noted : Option ℕ) → at ≡ None → noted ≡ first_from (λ b. b) from items → noted ≡ first_from f from xs
  marked_alone from noted none is = is ∙ ap (first_from (λ b. b) from) (known ∙ ap (λ a. with_at a false (map f xs)) none) ∙ first-mapped f (λ b. b) from xs

  pub marked_beside : IsWithin at (length xs) → (from : ℕ) (noted : Option ℕ) (i : ℕ) (b : Bool) → at ≡ Some i → noted ≡ first_from (λ b. b) from items → Looked f xs i from b → first_of (then_some b i) noted ≡ first_from f from xs
  marked_beside within from noted i b here is look =
      let inside : i < length xs = subst (λ a. IsWithin a (length xs)) here within in
      ap (first_of (then_some b i)) (is ∙ ap (first_from (λ c. c) from) (known ∙ ap (λ a. with_at a false (map f xs)) here)) ∙ next-apart f xs i from b inside look

module _ (o : Outlook) (most : ℕ) (xs : List Entry) (known : IsOutlook o most xs) where
  -- the deadlines that have come
  come : (now : Moment) (from : ℕ) (ds : List (Option Moment)) → first_from (λ d. has_come d now) from ds ≡ first_from (λ b. b) from (map (λ d. has_come d now) ds)
  come now from ds = sym (first-mapped (λ d. has_come d now) (λ b. b) from ds)

  pub come_alone : (now : Moment) (from : ℕ) (noted : Option ℕ) → o.at_hand ≡ None → noted ≡ first_from (λ d. has_come d now) from o.deadlines.items → noted ≡ first_from (λ e. has_come (deadline_of e.role) now) from xs
  come_alone now from noted none is = is ∙ ap (first_from (λ d. has_come d now) from) (known.deadlines ∙ ap (λ a. with_at a None (map deadline_of_entry xs)) none) ∙ first-mapped deadline_of_entry (λ d. has_come d now) from xs

  pub come_beside : (now : Moment) (from : ℕ) (noted : Option ℕ) (i : ℕ) (b : Bool) → o.at_hand ≡ Some i → noted ≡ first_from (λ d. has_come d now) from o.deadlines.items → Looked (λ e. has_come (deadline_of e.role) now) xs i from b → first_of (then_some b i) noted ≡ first_from (λ e. has_come (deadline_of e.role) now) from xs
  come_beside now from noted i b at is look =
      let inside : i < length xs = subst (λ a. IsWithin a (length xs)) at known.within in
      let test : Option Moment → Bool = λ d. has_come d now in
      ap (first_of (then_some b i)) (is ∙ ap (first_from test from) (known.deadlines ∙ ap (λ a. with_at a None (map deadline_of_entry xs)) at) ∙ come now from (set (map deadline_of_entry xs) i None)
      ∙ ap (first_from (λ c. c) from) (map-set test (map deadline_of_entry xs) i None ∙ ap (λ l. set l i false) (map-twice xs)))
      ∙ next-apart (λ e. has_come (deadline_of e.role) now) xs i from b inside look
    where
      map-twice : (ys : List Entry) → map (λ d. has_come d now) (map deadline_of_entry ys) ≡ map (λ (e : Entry). has_come (deadline_of e.role) now) ys
      map-twice [] = refl
      map-twice (y ∷ ys) = ap (λ l. has_come (deadline_of y.role) now ∷ l) (map-twice ys)

  fold-mapped : (a : Option Moment) (ys : List Entry) → fold sooner a (map deadline_of_entry ys) ≡ fold (λ l e. sooner l (deadline_of e.role)) a ys
  fold-mapped a [] = refl
  fold-mapped a (y ∷ ys) = fold-mapped (sooner a (deadline_of y.role)) ys

  pub least_alone : (noted : Option Moment) → o.at_hand ≡ None → noted ≡ fold sooner None o.deadlines.items → noted ≡ fold (λ l e. sooner l (deadline_of e.role)) None xs
  least_alone noted none is = is ∙ ap (fold sooner None) (known.deadlines ∙ ap (λ a. with_at a None (map deadline_of_entry xs)) none) ∙ fold-mapped None xs

  pub least_beside : (noted m : Option Moment) (i : ℕ) (d : Entry) → o.at_hand ≡ Some i → noted ≡ fold sooner None o.deadlines.items → m ≡ deadline_of_entry (get_or xs i d) → sooner noted m ≡ fold (λ l e. sooner l (deadline_of e.role)) None xs
  least_beside noted m i d at is is_m =
      let inside : i < length xs = subst (λ a. IsWithin a (length xs)) at known.within in
      let same : length (map deadline_of_entry xs) ≡ length xs = length-map xs deadline_of_entry in
      ap (λ n. sooner n m) (is ∙ ap (fold sooner None) (known.deadlines ∙ ap (λ a. with_at a None (map deadline_of_entry xs)) at))
      ∙ ap (sooner (fold sooner None (set (map deadline_of_entry xs) i None))) (is_m ∙ sym (get_or-map deadline_of_entry xs i d None inside))
      ∙ sym (least (map deadline_of_entry xs) i (omega (arith, inside, same))) ∙ fold-mapped None xs
