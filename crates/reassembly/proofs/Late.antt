-- Datagrams that were whole lately.
use Rattle.std.proofs.Common.{◌≡◌, suc, ◌≤◌, ◌&&◌, ◌||◌, Bool, true, false, nat_lt, cond, List, [], ◌∷◌, ◌++◌, length, drop, refl, ◌∙◌, ap, length-append, arith}
use Rattle.std.specs.List.{list_any}
use Rattle.std.proofs.lemmas.Bool.Decides.{nat_tests}
use Rattle.std.proofs.lemmas.List.{length-drop}
use Rattle.clock.specs.declared.moment.Moment.{Moment}
use Rattle.clock.specs.Moments.{after}
use Rattle.reassembly.specs.declared.finished.Finished.{Finished}
use Rattle.reassembly.specs.declared.key.Key.{Key}
use Rattle.reassembly.specs.Keys.{same_key}
use Rattle.reassembly.specs.Lately.{is_recent, noted, was_whole, with_room}
use Rattle.reassembly.proofs.OverEvents.{same_key-refl}

one_behind : {X : Type 0} (p : X → Bool) (xs : List X) (x : X) → list_any p (xs ++ x ∷ []) ≡ (p x || list_any p xs)
one_behind p [] x = refl
one_behind p (y ∷ ys) x = by_tests (p y) (p x) (list_any p ys) (list_any p (ys ++ x ∷ [])) (one_behind p ys x)
  where
    by_tests : (a b c d : Bool) → d ≡ (b || c) → (a || d) ≡ (b || (a || c))
    by_tests true true c d e = refl
    by_tests true false c d e = refl
    by_tests false true c d e = e
    by_tests false false c d e = e

-- the one that is noted
pub noted_is : (finished : List Finished) (key : Key) (since now : Moment)
    → was_whole key now (noted key since finished) ≡ (nat_lt now.0 (after since 1000).0 || was_whole key now (with_room finished))
noted_is finished key since now =
    one_behind (is_recent key now) (with_room finished) (record { key = key; since = since })
    ∙ ap (λ b. (b && nat_lt now.0 (after since 1000).0) || was_whole key now (with_room finished)) (same_key-refl key)

pub others_are : (finished : List Finished) (key other : Key) (since now : Moment) → same_key other key ≡ false
    → was_whole key now (noted other since finished) ≡ was_whole key now (with_room finished)
others_are finished key other since now apart =
    one_behind (is_recent key now) (with_room finished) (record { key = other; since = since })
    ∙ ap (λ b. (b && nat_lt now.0 (after since 1000).0) || was_whole key now (with_room finished)) apart

pub few : (finished : List Finished) (key : Key) (since : Moment) → length finished ≤ 64 → length (noted key since finished) ≤ 64
few finished key since h = by_test (nat_lt (length finished) 64) refl
  where
    behind : (xs : List Finished) → length xs ≤ 63 → length (xs ++ record { key = key; since = since } ∷ []) ≤ 64
    behind xs k = omega (arith, k, length-append xs (record { key = key; since = since } ∷ []))

    by_test : (b : Bool) → nat_lt (length finished) 64 ≡ b → length (cond b finished (drop 1 finished) ++ record { key = key; since = since } ∷ []) ≤ 64
    by_test true e = behind finished (let less : suc (length finished) ≤ 64 = grind (arith, nat_tests, e) in omega (arith, less))
    by_test false e = behind (drop 1 finished) (omega (arith, h, length-drop 1 finished))
