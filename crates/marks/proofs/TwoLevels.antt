-- What a summary says of the words below it.
use Rattle.std.proofs.Common.{◌≡◌, ℕ, ◌+◌, ◌*◌, ◌/◌, ◌%◌, ◌^◌, ◌<◌, ◌≤◌, inl, inr, true, false, List, length, get_or, sym, ◌∙◌, ap, w64, arith, Option, Some, None, MatchOption}
use Rattle.std.specs.Int.{trailing_zeros}
use Rattle.std.proofs.lemmas.Nat.{div-mul-add, mod-mul-add}
use Rattle.std.proofs.lemmas.Nat.Bits.{bit_at-trailing_zeros}
use Rattle.std.proofs.lemmas.Bool.{cases_lt, ltb-true, ltb-false, true≢false}
use Rattle.marks.specs.Bits.{has_bit, has, IsFirst, Summarizes}
use Rattle.marks.proofs.OneWord.{bit_is_set}
use Rattle.marks.proofs.ByPlace.{has_at, none_in_zero, none_past}

-- where each word is 0
none_in_zeros : (words : List ℕ) → ((at : ℕ) → at < length words → get_or words at 0 ≡ 0) → (k : ℕ) → has words k ≡ false
none_in_zeros words zero k = elim (cases_lt (k / 64) (length words)) [
  | inl within ↦ none_in_zero words k (zero (k / 64) within)
  | inr past ↦ none_past words k past
]

-- a word that isn't 0 has a bit that is set
some_bit : (word : ℕ) → 0 < word → word < 2 ^ 64 → (at : ℕ) × (at < 64) × (has_bit word at ≡ true)
some_bit word some fits =
    let low = bit_at-trailing_zeros w64 word some fits in
    (trailing_zeros w64 word, low.0, bit_is_set word _ low.1)

module _ (words summary : List ℕ) (sums : Summarizes summary words) where
  -- a word whose bit is clear has no place that is set
  none_under : (k : ℕ) → has summary (k / 64) ≡ false → has words k ≡ false
  none_under k clear =
      let low : get_or words (k / 64) 0 ≤ 0 = ltb-false _ _ (sym (sums (k / 64)) ∙ clear) in
      none_in_zero words k (omega arith)

  -- none is set where each word of the summary is 0
  pub none_at_all : ((at : ℕ) → at < length summary → get_or summary at 0 ≡ 0) → (k : ℕ) → has words k ≡ false
  none_at_all zero k = none_under k (none_in_zeros summary zero (k / 64))

  -- and one whose bit is set has one
  some_under : (j : ℕ) → has summary j ≡ true → get_or words j 0 < 2 ^ 64 → ((k : ℕ) → j * 64 ≤ k → k / 64 ≡ j * 64 / 64 → has words k ≡ false) → ⊥
  some_under j set fits none =
      let high : 0 < get_or words j 0 = ltb-true _ _ (sym (sums j) ∙ set) in
      let bit = some_bit (get_or words j 0) high fits in
      let here : (j * 64 + bit.0) / 64 ≡ j = div-mul-add j 64 bit.0 bit.1 in
      let place : (j * 64 + bit.0) % 64 ≡ bit.0 = mod-mul-add j 64 bit.0 bit.1 in
      let found : has words (j * 64 + bit.0) ≡ true =
      has_at words (j * 64 + bit.0)
      ∙ ap (λ i. has_bit (get_or words i 0) ((j * 64 + bit.0) % 64)) here
      ∙ ap (λ i. has_bit (get_or words j 0) i) place
      ∙ bit.2
      in
      true≢false (sym found ∙ none (j * 64 + bit.0) (omega arith) (omega arith))

  module _ (from : ℕ) (here : (k : ℕ) → from ≤ k → k / 64 ≡ from / 64 → has words k ≡ false) where
    pub none_above : ((j : ℕ) → from / 64 + 1 ≤ j → has summary j ≡ false) → (k : ℕ) → from ≤ k → has words k ≡ false
    none_above none k behind = elim (cases_lt (from / 64) (k / 64)) [
      | inl further ↦ none_under k (none (k / 64) (omega arith))
      | inr same ↦ here k behind (omega arith)
    ]

    -- what lies in front of the first word that isn't 0
    pub first_under : (j : ℕ) → IsFirst summary (from / 64 + 1) j → get_or words j 0 < 2 ^ 64 → (found : Option ℕ)
        → MatchOption found ((k : ℕ) → j * 64 ≤ k → k / 64 ≡ j * 64 / 64 → has words k ≡ false) (λ place. IsFirst words (j * 64) place)
        → MatchOption found ((k : ℕ) → from ≤ k → has words k ≡ false) (λ place. IsFirst words from place)
    first_under j first fits None none = absurd (some_under j first.found fits none)
    first_under j first fits (Some place) at =
        let behind : from / 64 + 1 ≤ j = first.behind in
        let further : j * 64 ≤ place = at.behind in
        record {
          behind = omega arith;
          found = at.found;
          before = λ k after lower. elim (cases_lt k (j * 64)) [
            | inl passed ↦ elim (cases_lt (from / 64) (k / 64)) [
              | inl next ↦ none_under k (first.before (k / 64) (omega arith) (omega arith))
              | inr same ↦ here k after (omega arith)
            ]
            | inr inside ↦ at.before k inside lower
          ];
        }
