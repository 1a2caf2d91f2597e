-- Where one belongs among what is filed.
use Rattle.std.proofs.Common.{◌≡◌, ℕ, ◌-◌, ◌<◌, ◌≤◌, Bool, List, nat_lt, true, false, length, get_or, refl, sym, ◌∙◌, arith}
use Rattle.std.specs.List.{AllWithin}
use Rattle.std.specs.List.Sorted.{IsPartitionPoint}
use Rattle.std.proofs.lemmas.Bool.Decides.{nat_tests}
use Rattle.sockets.specs.declared.index.Filed.{Filed}
use Rattle.sockets.specs.Index.{is_before, AreSorted}
use Rattle.sockets.proofs.Filed.{parted_by_place}

-- what another would follow from is false, as that is
falls : (a b : Bool) → b ≡ false → (a ≡ true → b ≡ true) → a ≡ false
falls true b not_b carries = sym (carries refl) ∙ not_b
falls false b not_b carries = refl

module _ (x : Filed) (l : List Filed) (sorted : AreSorted l) (at : ℕ) (within : at ≤ length l)
    (before : (d : Filed) → 0 < at → is_before (get_or l (at - 1) d) x ≡ true) (here : (d : Filed) → at < length l → is_before (get_or l at d) x ≡ false) where
  -- those in front of it stand before x, since the last of them does
  lower : AllWithin (λ (y : Filed). is_before y x ≡ true) l 0 at
  lower k d from to = parted_by_place x l sorted k (at - 1) d (omega arith) (omega arith) (before d (omega arith))

  -- and those from it on do not, since it does not
  higher : AllWithin (λ (y : Filed). is_before y x ≡ false) l at (length l)
  higher k d from to = falls (is_before (get_or l k d) x) (is_before (get_or l at d) x) (here d (omega arith)) (λ passes. parted_by_place x l sorted at k d from to passes)

  pub belongs : IsPartitionPoint (λ (y : Filed). is_before y x ≡ true) (λ (y : Filed). is_before y x ≡ false) l at
  belongs = (lower, higher)

-- Before the id 0 stands what has a lower key.
before_least : (y : Filed) (key : ℕ) → is_before y (record { key = key; id = record { 0 = 0 } }) ≡ nat_lt y.key key
before_least y key = grind (arith, nat_tests)

pub parted_by_least : (key : ℕ) (l : List Filed) (i : ℕ) → IsPartitionPoint (λ (y : Filed). is_before y (record { key = key; id = record { 0 = 0 } }) ≡ true) (λ (y : Filed). is_before y (record { key = key; id = record { 0 = 0 } }) ≡ false) l i
    → IsPartitionPoint (λ (y : Filed). nat_lt y.key key ≡ true) (λ (y : Filed). nat_lt y.key key ≡ false) l i
parted_by_least key l i parts = ((λ k d from to. sym (before_least (get_or l k d) key) ∙ parts.0 k d from to), (λ k d from to. sym (before_least (get_or l k d) key) ∙ parts.1 k d from to))
