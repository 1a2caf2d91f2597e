-- To which entry the turn comes, by the place of the first behind the one that sent last.
use Rattle.std.proofs.Common.{◌≡◌, inl, inr, ℕ, ◌+◌, ◌<◌, nat_lt, Bool, true, false, ◌&&◌, ◌||◌, not, length, get_or, Option, Some, None, refl, sym, ◌∙◌, ap, subst, arith}
use Rattle.std.specs.List.{list_any, position}
use Rattle.std.specs.Option.{option_or}
use Rattle.std.proofs.lemmas.Bool.Decides.{nat_tests}
use Rattle.std.proofs.lemmas.List.{get_or_default}
use Rattle.std.proofs.lemmas.List.Folds.{list_any_at, list_any_none}
use Rattle.std.proofs.lemmas.List.Quantifiers.{position-Some}
use Rattle.std.proofs.lemmas.Option.{slice_get_cases}
use Rattle.marks.specs.First.{first_from}
use Rattle.tcp_state.proofs.Edges.{and_left, and_right}
use Rattle.sockets.specs.declared.entry.Entry.{Entry}
use Rattle.sockets.specs.Emission.{is_behind, in_turn}
use Rattle.sockets.specs.SocketsView.{SocketsView}
use Rattle.sockets.specs.Turns.{IsTurnPlace}
use Rattle.sockets.proofs.Either.{none_passes}
use Rattle.sockets.proofs.FirstFrom.{first_from-found, fails-before, fails-behind}
use Rattle.sockets.proofs.Firsts.{position-from_fails, position-none_passes}
use Rattle.sockets.proofs.Followed.{by_test}

both_pass : (a b : Bool) → a ≡ true → b ≡ true → (a && b) ≡ true
both_pass a b one two = rw (one, two) refl

fails_left : (a b : Bool) → a ≡ false → (a && b) ≡ false
fails_left a b one = rw one refl

fails_right : (a b : Bool) → b ≡ false → (a && b) ≡ false
fails_right true b two = two
fails_right false b two = refl

module _ (h : SocketsView) (test : Entry → Bool) where
  -- it passes, and stands behind the entry that sent last
  abbrev pub later : Entry → Bool
  later x = is_behind h x && test x

  pub turn_passes : (e : Entry) → in_turn h test e ≡ true → test e ≡ true
  unfolding in_turn
  turn_passes e turn = and_left (test e) (is_behind h e || not (list_any later h.entries)) turn

  pub turn_fails : (e : Entry) → test e ≡ false → in_turn h test e ≡ false
  unfolding in_turn
  turn_fails e fails = fails_left (test e) _ fails

  pub turn_behind : (e : Entry) → test e ≡ true → is_behind h e ≡ true → in_turn h test e ≡ true
  unfolding in_turn
  turn_behind e passes behind = rw (passes, behind) refl

  pub turn_round : (e : Entry) → test e ≡ true → list_any later h.entries ≡ false → in_turn h test e ≡ true
  unfolding in_turn
  turn_round e passes none = let rest : (is_behind h e || not (list_any later h.entries)) ≡ true = ap (λ b. is_behind h e || not b) none ∙ always (is_behind h e) in both_pass (test e) _ passes rest
    where
      always : (b : Bool) → (b || true) ≡ true
      always true = refl
      always false = refl

  -- where one behind passes the turn comes to none of the others
  pub turn_misses : (e : Entry) → is_behind h e ≡ false → list_any later h.entries ≡ true → in_turn h test e ≡ false
  unfolding in_turn
  turn_misses e front some = fails_right (test e) _ (rw (front, some) refl)

  pub one_behind : (place : ℕ) (x : Entry) → place < length h.entries → x ≡ get_or h.entries place x → test x ≡ true → is_behind h x ≡ true → list_any later h.entries ≡ true
  one_behind place x within at passes behind = list_any_at later h.entries place x within (ap later (sym at) ∙ both_pass (is_behind h x) (test x) behind passes)

  pub none_behind : ((k : ℕ) (d : Entry) → k < length h.entries → later (get_or h.entries k d) ≡ false) → list_any later h.entries ≡ false
  none_behind fails = list_any_none later h.entries fails

  -- the first behind that passes, or else the first of all
  pub turn_is : (start : ℕ) → IsTurnPlace h start → position (in_turn h test) h.entries ≡ option_or (first_from test start h.entries) (first_from test 0 h.entries)
  turn_is start at = by_first (first_from test start h.entries) refl
    where
      by_rest : first_from test start h.entries ≡ None → (o : Option ℕ) → first_from test 0 h.entries ≡ o → position (in_turn h test) h.entries ≡ o
      by_rest none None silent = position-none_passes (in_turn h test) h.entries (λ k d low high. turn_fails (get_or h.entries k d) (fails-behind test 0 h.entries silent k d low high))
      by_rest none (Some p) found =
          let it = first_from-found test 0 h.entries p found in
          let nobody : list_any later h.entries ≡ false =
          none_behind (λ k d high. by_test (nat_lt k start)
          (λ early. fails_left _ _ (at.before k d (omega arith) (grind (arith, nat_tests))))
          (λ late. fails_right _ _ (fails-behind test start h.entries none k d (grind (arith, nat_tests)) high)))
          in
          elim (slice_get_cases h.entries p).1 [
            | inl here ↦
                position-from_fails (in_turn h test) h.entries p here.0 it.within (λ k d low high. turn_fails (get_or h.entries k d) (fails-before test 0 h.entries p found k d low high)) (sym here.3)
                (turn_round here.0 (ap test (sym here.3) ∙ it.passes here.0) nobody)
            | inr past ↦ absurd (omega (arith, past.0, it.within))
          ]

      by_first : (o : Option ℕ) → first_from test start h.entries ≡ o → position (in_turn h test) h.entries ≡ option_or o (first_from test 0 h.entries)
      by_first None none = by_rest none (first_from test 0 h.entries) refl
      by_first (Some p) found =
          let it = first_from-found test start h.entries p found in
          elim (slice_get_cases h.entries p).1 [
            | inl here ↦
                let passes : test here.0 ≡ true = ap test (sym here.3) ∙ it.passes here.0 in
                let behind : is_behind h here.0 ≡ true = ap (is_behind h) (sym here.3) ∙ at.behind p here.0 it.behind it.within in
                position-from_fails (in_turn h test) h.entries p here.0 it.within
                (λ k d low high. by_test (nat_lt k start)
                (λ early. turn_misses (get_or h.entries k d) (at.before k d low (grind (arith, nat_tests))) (one_behind p here.0 it.within (sym here.3) passes behind))
                (λ late. turn_fails (get_or h.entries k d) (fails-before test start h.entries p found k d (grind (arith, nat_tests)) high)))
                (sym here.3) (turn_behind here.0 passes behind)
            | inr past ↦ absurd (omega (arith, past.0, it.within))
          ]

  -- where only one passes the turn comes to it
  pub turn_alone : (o : Option ℕ) → first_from test 0 h.entries ≡ o → ((p : ℕ) → o ≡ Some p → first_from test (p + 1) h.entries ≡ None) → position (in_turn h test) h.entries ≡ o
  turn_alone None silent only = position-none_passes (in_turn h test) h.entries (λ k d low high. turn_fails (get_or h.entries k d) (fails-behind test 0 h.entries silent k d low high))
  turn_alone (Some p) found only =
      let it = first_from-found test 0 h.entries p found in
      elim (slice_get_cases h.entries p).1 [
        | inl here ↦
            let passes : test here.0 ≡ true = ap test (sym here.3) ∙ it.passes here.0 in
            position-from_fails (in_turn h test) h.entries p here.0 it.within (λ k d low high. turn_fails (get_or h.entries k d) (fails-before test 0 h.entries p found k d low high)) (sym here.3)
            (by_test (is_behind h here.0) (turn_behind here.0 passes) (λ front. turn_round here.0 passes (none_behind (λ k d high. alone here.0 (sym here.3) front k d high))))
        | inr past ↦ absurd (omega (arith, past.0, it.within))
      ]
    where
      alone : (x : Entry) → x ≡ get_or h.entries p x → is_behind h x ≡ false → (k : ℕ) (d : Entry) → k < length h.entries → later (get_or h.entries k d) ≡ false
      alone x at front k d high =
          by_test (nat_lt k p) (λ early. fails_right _ _ (fails-before test 0 h.entries p found k d (omega arith) (grind (arith, nat_tests))))
          (λ late. by_test (nat_lt p k) (λ past. fails_right _ _ (fails-behind test (p + 1) h.entries (only p refl) k d (grind (arith, nat_tests)) high))
          (λ here. let same : k ≡ p = grind (arith, nat_tests) in fails_left _ _ (ap (λ n. is_behind h (get_or h.entries n d)) same ∙ ap (is_behind h) (get_or_default h.entries p d x (subst (λ n. n < length h.entries) same high)) ∙ ap (is_behind h) (sym at) ∙ front)))

-- where the turn comes to none, none passes
pub turn_nobody : (h : SocketsView) (test : Entry → Bool) → position (in_turn h test) h.entries ≡ None → (k : ℕ) (d : Entry) → k < length h.entries → test (get_or h.entries k d) ≡ false
turn_nobody h test nobody k d high = by_test (test (get_or h.entries k d)) (λ passes. absurd (some (get_or h.entries k d) passes (none_passes (in_turn h test) h.entries nobody k d high))) (λ fails. fails)
  where
    none : list_any (later h test) h.entries ≡ false
    none =
        none_behind h test (λ j e within. by_test (later h test (get_or h.entries j e))
        (λ passes. let turn : in_turn h test (get_or h.entries j e) ≡ true = turn_behind h test (get_or h.entries j e) (and_right (is_behind h (get_or h.entries j e)) (test (get_or h.entries j e)) passes) (and_left (is_behind h (get_or h.entries j e)) (test (get_or h.entries j e)) passes) in let bad : true ≡ false = sym turn ∙ none_passes (in_turn h test) h.entries nobody j e within in cc)
        (λ fails. fails))

    some : (x : Entry) → test x ≡ true → in_turn h test x ≡ false → ⊥
    some x passes missed = let bad : true ≡ false = sym (turn_round h test x passes none) ∙ missed in cc

-- the turn comes to what passes a narrower test too, where it does to it by a wider one
pub turn_narrows : (h : SocketsView) (test wide : Entry → Bool) → ((e : Entry) → test e ≡ true → wide e ≡ true) → (place : ℕ) (x : Entry) → position (in_turn h wide) h.entries ≡ Some place → x ≡ get_or h.entries place x → test x ≡ true → position (in_turn h test) h.entries ≡ Some place
turn_narrows h test wide widens place x found at passes =
    position-from_fails (in_turn h test) h.entries place x first.0 (λ k d low high. by_test (in_turn h test (get_or h.entries k d)) (λ turn. absurd (before k d high turn)) (λ none. none)) at
    (by_test (is_behind h x) (turn_behind h test x passes) (λ front. turn_round h test x passes (none_behind h test (λ k d high. narrow front k d high))))
  where
    first : (place < length h.entries) × (in_turn h wide (get_or h.entries place x) ≡ true) × ((k : ℕ) → k < place → in_turn h wide (get_or h.entries k x) ≡ false)
    first = position-Some (in_turn h wide) h.entries place x found

    has_turn : in_turn h wide x ≡ true
    has_turn = ap (in_turn h wide) at ∙ first.1

    some_wide : (k : ℕ) (d : Entry) → k < length h.entries → later h test (get_or h.entries k d) ≡ true → list_any (later h wide) h.entries ≡ true
    some_wide k d high passes_it =
        let e : Entry = get_or h.entries k d in
        list_any_at (later h wide) h.entries k d high (both_pass (is_behind h e) (wide e) (and_left (is_behind h e) (test e) passes_it) (widens e (and_right (is_behind h e) (test e) passes_it)))

    -- none behind passes where what has the turn stands in front
    narrow : is_behind h x ≡ false → (k : ℕ) (d : Entry) → k < length h.entries → later h test (get_or h.entries k d) ≡ false
    narrow front k d high =
        by_test (later h test (get_or h.entries k d))
        (λ some. let misses : in_turn h wide x ≡ false = turn_misses h wide x front (some_wide k d high some) in let bad : true ≡ false = sym has_turn ∙ misses in cc)
        (λ none. none)

    -- and the turn comes to none in front of it
    before : (k : ℕ) (d : Entry) → k < place → in_turn h test (get_or h.entries k d) ≡ true → ⊥
    before k d early turn =
        let e : Entry = get_or h.entries k d in
        let it = position-Some (in_turn h wide) h.entries place d found in
        let missed : in_turn h wide e ≡ false = it.2 k early in
        let goes : test e ≡ true = turn_passes h test e turn in
        by_test (is_behind h e)
        (λ behind. let has : in_turn h wide e ≡ true = turn_behind h wide e (widens e goes) behind in let bad : true ≡ false = sym has ∙ missed in cc)
        (λ front. by_test (is_behind h x)
        (λ behind. let misses : in_turn h test e ≡ false = turn_misses h test e front (one_behind h test place x first.0 at passes behind) in let bad : true ≡ false = sym turn ∙ misses in cc)
        (λ ahead. by_test (list_any (later h wide) h.entries)
        (λ some. let misses : in_turn h wide x ≡ false = turn_misses h wide x ahead some in let bad : true ≡ false = sym has_turn ∙ misses in cc)
        (λ none. let has : in_turn h wide e ≡ true = turn_round h wide e (widens e goes) none in let bad : true ≡ false = sym has ∙ missed in cc)))
