-- What may be busy, where the entry at hand isn't asked: none in front of it is.
use Rattle.std.proofs.Common.{◌≡◌, ◌≢◌, ℕ, ◌<◌, ◌≤◌, nat_le, Bool, false, List, length, get_or, Option, Some, None, sym, ◌∙◌, ap, subst, arith}
use Rattle.std.specs.Prelude.{map, IfSome, MatchOption}
use Rattle.std.proofs.lemmas.List.{length-map, length-set, get_or-map, get_or-set_other}
use Rattle.std.proofs.lemmas.Bool.Decides.{nat_tests}
use Rattle.sockets.specs.declared.entry.Entry.{Entry}
use Rattle.sockets.specs.declared.outlook.Outlook.{Outlook}
use Rattle.sockets.specs.Outlook.{is_busy_entry, AreQuiet, with_at, first_of, IsOutlook}
use Rattle.marks.specs.First.{first_from}
use Rattle.sockets.proofs.FirstFrom.{first_from-found, fails-before, fails-behind}
use Rattle.sockets.proofs.Followed.{by_test}

-- what is told of the place
abbrev pub IsTold : List Entry → ℕ → Option ℕ → Type 0
IsTold xs from result = MatchOption result (AreQuiet xs from (length xs)) (λ place. (from ≤ place) × (place < length xs) × AreQuiet xs from place)

-- what is noted of another entry than the one at hand is true of it
noted_of : (at : Option ℕ) (xs : List Entry) (k : ℕ) (d : Entry) → k < length xs → IfSome at (λ i. k ≢ i) → get_or (with_at at false (map is_busy_entry xs)) k false ≡ is_busy_entry (get_or xs k d)
noted_of None xs k d within other = get_or-map is_busy_entry xs k d false within
noted_of (Some i) xs k d within other = get_or-set_other (map is_busy_entry xs) i k false false other ∙ get_or-map is_busy_entry xs k d false within

length_noted : (at : Option ℕ) (xs : List Entry) → length (with_at at false (map is_busy_entry xs)) ≡ length xs
length_noted None xs = length-map xs is_busy_entry
length_noted (Some i) xs = length-set (map is_busy_entry xs) i false ∙ length-map xs is_busy_entry

module _ (o : Outlook) (most : ℕ) (xs : List Entry) (known : IsOutlook o most xs) (from : ℕ) (noted : Option ℕ) (is : noted ≡ first_from (λ b. b) from o.busy.items) where
  count : length o.busy.items ≡ length xs
  count = ap length known.busy ∙ length_noted o.at_hand xs

  -- an entry that isn't noted isn't busy, unless it is at hand
  unnoted : (k : ℕ) (d : Entry) → k < length xs → IfSome o.at_hand (λ i. k ≢ i) → get_or o.busy.items k false ≡ false → is_busy_entry (get_or xs k d) ≡ false
  unnoted k d within other fails = sym (noted_of o.at_hand xs k d within other) ∙ ap (λ (bs : List Bool). get_or bs k false) (sym known.busy) ∙ fails

  others : (i k : ℕ) → o.at_hand ≡ Some i → k ≢ i → IfSome o.at_hand (λ j. k ≢ j)
  others i k at apart = subst (λ (a : Option ℕ). IfSome a (λ j. k ≢ j)) (sym at) apart

  none_apart : (k : ℕ) → o.at_hand ≡ None → IfSome o.at_hand (λ j. k ≢ j)
  none_apart k none = subst (λ (a : Option ℕ). IfSome a (λ j. k ≢ j)) (sym none) tt

  -- where the entry at hand is none of those that are looked at
  pub told_alone : ((k : ℕ) → from ≤ k → k < length xs → IfSome o.at_hand (λ i. k ≢ i)) → IsTold xs from noted
  told_alone apart = by_noted noted is
    where
      by_noted : (n : Option ℕ) → n ≡ first_from (λ b. b) from o.busy.items → IsTold xs from n
      by_noted None none = λ k d low high. unnoted k d high (apart k low high) (fails-behind (λ b. b) from o.busy.items (sym none) k false low (omega (arith, high, count)))
      by_noted (Some place) found =
          let there = first_from-found (λ b. b) from o.busy.items place (sym found) in (
            there.behind,
            omega (arith, there.within, count),
            λ k d low high. unnoted k d (omega (arith, high, there.within, count)) (apart k low (omega (arith, high, there.within, count))) (fails-before (λ b. b) from o.busy.items place (sym found) k false low high),
          )

  pub told_none_at_hand : o.at_hand ≡ None → IsTold xs from noted
  told_none_at_hand none = told_alone (λ k low high. none_apart k none)

  pub told_behind : (i : ℕ) → o.at_hand ≡ Some i → i < from → IsTold xs from noted
  told_behind i at before = told_alone (λ k low high. others i k at (λ same. omega (arith, low, before, same)))

  -- where it is one of them
  pub told_beside : (i : ℕ) → o.at_hand ≡ Some i → from ≤ i → IsTold xs from (first_of (Some i) noted)
  told_beside i at low_i = by_noted noted is
    where
      inside : i < length xs
      inside = subst (λ (a : Option ℕ). IfSome a (λ j. j < length xs)) at known.within

      by_noted : (n : Option ℕ) → n ≡ first_from (λ b. b) from o.busy.items → IsTold xs from (first_of (Some i) n)
      by_noted None none = (
        low_i,
        inside,
        λ k d low high. unnoted k d (omega (arith, high, inside)) (others i k at (λ same. omega (arith, high, same))) (fails-behind (λ b. b) from o.busy.items (sym none) k false low (omega (arith, high, inside, count))),
      )
      by_noted (Some place) found =
          by_test (nat_le i place)
          (λ first. rw first (
            low_i,
            inside,
            λ k d low high. unnoted k d (omega (arith, high, inside)) (others i k at (λ same. omega (arith, high, same))) (fails-before (λ b. b) from o.busy.items place (sym found) k false low (grind (arith, nat_tests))),
          ))
          (λ later.
          let there = first_from-found (λ b. b) from o.busy.items place (sym found) in
          rw later (
            there.behind,
            omega (arith, there.within, count),
            λ k d low high. unnoted k d (omega (arith, high, there.within, count)) (others i k at (λ same. grind (arith, nat_tests))) (fails-before (λ b. b) from o.busy.items place (sym found) k false low high),
          ))
