-- The first of the pairs that were heard the longest time ago.
use Rattle.std.proofs.Common.{◌≡◌, ℕ, suc, ◌+◌, ◌<◌, ◌≤◌, Bool, true, false, nat_le, List, [], ◌∷◌, length, get_or, refl, sym, ap, arith}
use Rattle.std.specs.List.{list_all}
use Rattle.std.proofs.lemmas.Bool.Decides.{nat_tests}
use Rattle.std.proofs.lemmas.List.Folds.{list_all_at}
use Rattle.std.proofs.lemmas.List.Sums.{position_or_len_is}
use Rattle.arp.specs.declared.entry.Neighbour.{Neighbour}
use Rattle.arp.specs.Cache.{is_longest_unheard, longest_unheard}

-- when the pair at a place was heard
abbrev pub heard_at : List Neighbour → ℕ → Neighbour → ℕ
heard_at pairs k d = (get_or pairs k d).heard.0

-- of the first pairs, so many, none was heard before the one at the place, and none before it at the same moment
pub record IsFirstUnheard (pairs : List Neighbour) (count place : ℕ) : Type 0 where
  pub within : place < length pairs
  pub passed : place ≤ count
  pub least : (k : ℕ) (d : Neighbour) → k < count → heard_at pairs place d ≤ heard_at pairs k d
  pub first : (k : ℕ) (d : Neighbour) → k < place → heard_at pairs place d < heard_at pairs k d

-- the pair in turn was heard before
pub takes : (pairs : List Neighbour) (count place : ℕ) → IsFirstUnheard pairs count place → count < length pairs
    → ((d : Neighbour) → heard_at pairs count d < heard_at pairs place d) → IsFirstUnheard pairs (count + 1) count
takes pairs count place so_far within before = record {
  within = within;
  passed = omega arith;
  least = λ k d below. least k d below;
  first = λ k d below. omega (arith, so_far.least k d below, before d);
}
  where
    least : (k : ℕ) (d : Neighbour) → k < count + 1 → heard_at pairs count d ≤ heard_at pairs k d
    least k d below = either (nat_le count k) refl
      where
        either : (b : Bool) → nat_le count k ≡ b → heard_at pairs count d ≤ heard_at pairs k d
        either true e = let same : k ≡ count = grind (arith, nat_tests, e, below) in omega (arith, ap (λ j. heard_at pairs j d) same)
        either false e = let earlier : k < count = grind (arith, nat_tests, e) in omega (arith, so_far.least k d earlier, before d)

-- it was not
pub keeps : (pairs : List Neighbour) (count place : ℕ) → IsFirstUnheard pairs count place
    → ((d : Neighbour) → heard_at pairs place d ≤ heard_at pairs count d) → IsFirstUnheard pairs (count + 1) place
keeps pairs count place so_far after = record {
  within = so_far.within;
  passed = omega (arith, so_far.passed);
  least = λ k d below. least k d below;
  first = so_far.first;
}
  where
    least : (k : ℕ) (d : Neighbour) → k < count + 1 → heard_at pairs place d ≤ heard_at pairs k d
    least k d below = either (nat_le count k) refl
      where
        either : (b : Bool) → nat_le count k ≡ b → heard_at pairs place d ≤ heard_at pairs k d
        either true e = let same : k ≡ count = grind (arith, nat_tests, e, below) in omega (arith, ap (λ j. heard_at pairs j d) same, after d)
        either false e = let earlier : k < count = grind (arith, nat_tests, e) in so_far.least k d earlier

all_pass : (p : Neighbour → Bool) (xs : List Neighbour) (d : Neighbour) → ((k : ℕ) → k < length xs → p (get_or xs k d) ≡ true) → list_all p xs ≡ true
all_pass p [] d each = refl
all_pass p (x ∷ xs) d each = rw (each 0 (omega arith)) (all_pass p xs d (λ k below. each (suc k) (omega arith)))

-- of all pairs it is the longest unheard
pub is_longest_unheard_place : (pairs : List Neighbour) (place : ℕ) → IsFirstUnheard pairs (length pairs) place → place ≡ longest_unheard pairs
is_longest_unheard_place pairs place found = sym (position_or_len_is (is_longest_unheard pairs) pairs place none (omega (arith, found.within)) before (λ _. here))
  where
    none : Neighbour
    none = record { addr = record { 0 = [] }; mac = record { 0 = [] }; heard = record { 0 = 0 } }

    here : is_longest_unheard pairs (get_or pairs place none) ≡ true
    here = all_pass (λ other. nat_le (heard_at pairs place none) other.heard.0) pairs none (λ k below. grind (arith, nat_tests, found.least k none below))

    before : (k : ℕ) → k < place → is_longest_unheard pairs (get_or pairs k none) ≡ false
    before k below =
        list_all_at (λ other. nat_le (heard_at pairs k none) other.heard.0) pairs place none found.within (grind (arith, nat_tests, found.first k none below))
