-- What the turn comes to is the first in the order of turns.
use Rattle.std.proofs.Common.{◌≡◌, ℕ, zero, suc, ◌<◌, Bool, true, false, ◌&&◌, ◌||◌, not, List, [], ◌∷◌, length, get_or, filter, Option, None, refl, ◌∙◌, ap, arith}
use Rattle.std.specs.List.{find, list_any}
use Rattle.std.specs.Option.{option_or}
use Rattle.std.proofs.lemmas.List.Folds.{find-append}
use Rattle.sockets.specs.declared.entry.Entry.{Entry}
use Rattle.sockets.specs.Emission.{is_behind, in_turn}
use Rattle.sockets.specs.SocketsView.{SocketsView}
use Rattle.sockets.proofs.Firsts.{find-position_none, position-none_passes}
use Rattle.sockets.proofs.Followed.{by_test}
use Rattle.sockets.proofs.InTurn.{later, turn_fails, turn_nobody}
use Rattle.host.specs.Places.{turns}

module _ {X : Type 0} (p q : X → Bool) where
  -- the first of what a filter leaves
  find-filter : (xs : List X) → find q (filter p xs) ≡ find (λ x. p x && q x) xs
  find-filter [] = refl
  find-filter (x ∷ xs) = by_test (p x)
      (λ keeps. let further = find-filter xs in rw keeps (by_test (q x) (λ passes. rw passes refl) (λ fails. rw fails further)))
      (λ drops. let further = find-filter xs in rw drops further)

  -- the same, where they pass alike
  find-alike : ((x : X) → p x ≡ q x) → (xs : List X) → find p xs ≡ find q xs
  find-alike same [] = refl
  find-alike same (x ∷ xs) = rw (same x) (by_test (q x) (λ passes. rw passes refl) (λ fails. rw fails (find-alike same xs)))

  -- nothing passes both
  find-beside : (xs : List X) → list_any (λ x. p x && q x) xs ≡ false → find (λ x. not (p x) && q x) xs ≡ find q xs
  find-beside [] none = refl
  find-beside (x ∷ xs) none = by_test (p x)
      (λ here. by_test (q x) (λ passes. let bad : true ≡ false = (rw (here, passes) at none) in cc) (λ fails. let rest : list_any (λ x. p x && q x) xs ≡ false = (rw (here, fails) at none) in rw (here, fails) (find-beside xs rest)))
      (λ beside. let rest : list_any (λ x. p x && q x) xs ≡ false = (rw beside at none) in rw beside (by_test (q x) (λ passes. rw passes refl) (λ fails. rw fails (find-beside xs rest))))

find-none : {X : Type 0} (p : X → Bool) (xs : List X) → list_any p xs ≡ false → find p xs ≡ None
find-none p [] none = refl
find-none p (x ∷ xs) none = by_test (p x) (λ passes. let bad : true ≡ false = (rw passes at none) in cc) (λ fails. let rest : list_any p xs ≡ false = (rw fails at none) in rw fails (find-none p xs rest))

find-some : {X : Type 0} (p : X → Bool) (xs : List X) (o : Option X) → list_any p xs ≡ true → option_or (find p xs) o ≡ find p xs
find-some p [] o some = let bad : false ≡ true = some in cc
find-some p (x ∷ xs) o some = by_test (p x) (λ passes. rw passes refl) (λ fails. let rest : list_any p xs ≡ true = (rw fails at some) in rw fails (find-some p xs o rest))

both_ways : (a b : Bool) → (a && b) ≡ (b && a)
both_ways true true = refl
both_ways true false = refl
both_ways false true = refl
both_ways false false = refl

module _ (t : SocketsView) (test : Entry → Bool) where
  by_turn : (b : Bool) → list_any (later t test) t.entries ≡ b → option_or (find (later t test) t.entries) (find (λ x. not (is_behind t x) && test x) t.entries) ≡ find (in_turn t test) t.entries
  unfolding in_turn
  by_turn true some =
      find-some (later t test) t.entries (find (λ x. not (is_behind t x) && test x) t.entries) some
      ∙ find-alike (later t test) (in_turn t test) (λ x. ahead x (is_behind t x) (test x)) t.entries
    where
      ahead : (x : Entry) (a b : Bool) → (a && b) ≡ (b && (a || not (list_any (later t test) t.entries)))
      ahead x true true = refl
      ahead x true false = refl
      ahead x false true = rw some refl
      ahead x false false = refl
  by_turn false none =
      ap (λ (o : Option Entry). option_or o (find (λ x. not (is_behind t x) && test x) t.entries)) (find-none (later t test) t.entries none)
      ∙ find-beside (is_behind t) test t.entries none
      ∙ find-alike test (in_turn t test) (λ x. round x (is_behind t x) (test x)) t.entries
    where
      round : (x : Entry) (a b : Bool) → b ≡ (b && (a || not (list_any (later t test) t.entries)))
      round x true true = refl
      round x true false = refl
      round x false true = rw none refl
      round x false false = refl

  pub turns_find : find test (turns t) ≡ find (in_turn t test) t.entries
  turns_find =
      find-append test (filter (is_behind t) t.entries) (filter (λ e. not (is_behind t e)) t.entries)
      ∙ ap (λ (o : Option Entry). option_or o (find test (filter (λ e. not (is_behind t e)) t.entries))) (find-filter (is_behind t) test t.entries)
      ∙ ap (λ (o : Option Entry). option_or (find (later t test) t.entries) o) (find-filter (λ e. not (is_behind t e)) test t.entries)
      ∙ by_turn (list_any (later t test) t.entries) refl

  fails_all : (p : Entry → Bool) (xs : List Entry) → find p xs ≡ None → (k : ℕ) (d : Entry) → k < length xs → p (get_or xs k d) ≡ false
  fails_all p [] none k d within = absurd (omega (arith, within))
  fails_all p (x ∷ xs) none zero d within = by_test (p x) (λ passes. let some = (rw passes at none) in cc) (λ fails. fails)
  fails_all p (x ∷ xs) none (suc k) d within = by_test (p x) (λ passes. let some = (rw passes at none) in cc) (λ fails. fails_all p xs (rw fails at none) k d (omega (arith, within)))

  -- where none passes the turn comes to none, and the other way round
  pub turn_none : find test t.entries ≡ None → find (in_turn t test) t.entries ≡ None
  turn_none none = find-position_none (in_turn t test) t.entries (position-none_passes (in_turn t test) t.entries (λ k d low high. turn_fails t test (get_or t.entries k d) (fails_all test t.entries none k d high)))

  pub none_turn : find (in_turn t test) t.entries ≡ None → find test t.entries ≡ None
  none_turn none =
      find-position_none test t.entries
      (position-none_passes test t.entries (λ k d low high. turn_nobody t test (position-none_passes (in_turn t test) t.entries (λ j e least within. fails_all (in_turn t test) t.entries none j e within)) k d high))
