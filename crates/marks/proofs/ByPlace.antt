-- The bits of a list of words, by place.
use Rattle.std.proofs.Common.{◌≡◌, ◌≢◌, ℕ, ◌+◌, ◌*◌, ◌/◌, ◌%◌, ◌<◌, ◌≤◌, inl, inr, true, false, List, length, get_or, set, refl, sym, ◌∙◌, ap, arith, get_or-set_same, get_or-set_other, lit<}
use Rattle.std.proofs.lemmas.Nat.Bits.{bit_at-zero}
use Rattle.std.proofs.lemmas.Nat.{mod_below, div-mul-add, mod-mul-add}
use Rattle.std.proofs.lemmas.List.{get_or_past}
use Rattle.std.proofs.lemmas.Bool.{cases_eq, cases_lt}
use Rattle.marks.specs.Bits.{has_bit, has, IsFirst}
use Rattle.marks.proofs.OneWord.{bit_is_clear}

pub has_at : (words : List ℕ) (k : ℕ) → has words k ≡ has_bit (get_or words (k / 64) 0) (k % 64)
unfolding has
has_at words k = refl

-- a place has its bit where its word is the same
pub same_word : (xs ys : List ℕ) (k : ℕ) → get_or xs (k / 64) 0 ≡ get_or ys (k / 64) 0 → has xs k ≡ has ys k
same_word xs ys k e = has_at xs k ∙ ap (λ w. has_bit w (k % 64)) e ∙ sym (has_at ys k)

-- no bit is set in a word that is 0
pub none_in_zero : (words : List ℕ) (k : ℕ) → get_or words (k / 64) 0 ≡ 0 → has words k ≡ false
none_in_zero words k none = has_at words k ∙ ap (λ w. has_bit w (k % 64)) none ∙ bit_is_clear 0 (k % 64) (bit_at-zero (k % 64))

-- nor behind the last word
pub none_past : (words : List ℕ) (k : ℕ) → length words ≤ k / 64 → has words k ≡ false
none_past words k past = none_in_zero words k (get_or_past words (k / 64) 0 past)

-- another word in place of one
module _ (words : List ℕ) (at word : ℕ) (within : at < length words) where
  pub in_word : (k : ℕ) → k / 64 ≡ at → has (set words at word) k ≡ has_bit word (k % 64)
  in_word k here =
      has_at (set words at word) k
      ∙ ap (λ j. has_bit (get_or (set words at word) j 0) (k % 64)) here
      ∙ ap (λ w. has_bit w (k % 64)) (get_or-set_same words at word 0 within)

  pub out_of_word : (k : ℕ) → (k / 64 ≡ at → ⊥) → has (set words at word) k ≡ has words k
  out_of_word k other = same_word (set words at word) words k (get_or-set_other words at (k / 64) word 0 other)

-- the word of a place with its bit set or not
module _ (words : List ℕ) (place word : ℕ) (within : place / 64 < length words) where
  pub put_others : ((i : ℕ) → i < 64 → i ≢ place % 64 → has_bit word i ≡ has_bit (get_or words (place / 64) 0) i)
      → (k : ℕ) → k ≢ place → has (set words (place / 64) word) k ≡ has words k
  put_others others k other = elim (cases_eq (k / 64) (place / 64)) [
    | inl here ↦ (
        in_word words (place / 64) word within k here
        ∙ others (k % 64) (mod_below k 64 (lit< tt)) (λ e. other (omega arith))
        ∙ ap (λ j. has_bit (get_or words j 0) (k % 64)) (sym here)
        ∙ sym (has_at words k)
        )
    | inr away ↦ out_of_word words (place / 64) word within k away
  ]

  -- the word of a place without its bit
  pub down_before : ((i : ℕ) → i < place % 64 → has_bit word i ≡ has_bit (get_or words (place / 64) 0) i)
      → (k : ℕ) → k < place → has (set words (place / 64) word) k ≡ has words k
  down_before before k lower = elim (cases_eq (k / 64) (place / 64)) [
    | inl here ↦ (
        in_word words (place / 64) word within k here
        ∙ before (k % 64) (omega arith)
        ∙ ap (λ j. has_bit (get_or words j 0) (k % 64)) (sym here)
        ∙ sym (has_at words k)
        )
    | inr away ↦ out_of_word words (place / 64) word within k away
  ]

  pub down_behind : ((i : ℕ) → place % 64 ≤ i → i + 1 < 64 → has_bit word i ≡ has_bit (get_or words (place / 64) 0) (i + 1))
      → has_bit word 63 ≡ has_bit (get_or words (place / 64 + 1) 0) 0
      → (k : ℕ) → place ≤ k → k / 64 ≡ place / 64 → has (set words (place / 64) word) k ≡ has words (k + 1)
  down_behind behind last k higher here = elim (cases_lt (k % 64) 63) [
    | inl low ↦ (
        let same : (k + 1) / 64 ≡ place / 64 = omega arith in
        let next : (k + 1) % 64 ≡ k % 64 + 1 = omega arith in
        in_word words (place / 64) word within k here
        ∙ behind (k % 64) (omega arith) (omega arith)
        ∙ ap (λ j. has_bit (get_or words (place / 64) 0) j) (sym next)
        ∙ ap (λ j. has_bit (get_or words j 0) ((k + 1) % 64)) (sym same)
        ∙ sym (has_at words (k + 1))
        )
    | inr high ↦ (
        let end : k % 64 ≡ 63 = omega arith in
        let further : (k + 1) / 64 ≡ place / 64 + 1 = omega arith in
        let first : (k + 1) % 64 ≡ 0 = omega arith in
        in_word words (place / 64) word within k here
        ∙ ap (λ j. has_bit word j) end
        ∙ last
        ∙ ap (λ j. has_bit (get_or words (place / 64 + 1) 0) j) (sym first)
        ∙ ap (λ j. has_bit (get_or words j 0) ((k + 1) % 64)) (sym further)
        ∙ sym (has_at words (k + 1))
        )
  ]

-- What is found in the word of a place.
module _ (words : List ℕ) (from : ℕ) where
  pub none_in_word : ((i : ℕ) → from % 64 ≤ i → has_bit (get_or words (from / 64) 0) i ≡ false)
      → (k : ℕ) → from ≤ k → k / 64 ≡ from / 64 → has words k ≡ false
  none_in_word none k behind here =
      has_at words k ∙ ap (λ j. has_bit (get_or words j 0) (k % 64)) here ∙ none (k % 64) (omega arith)

  pub first_in_word : (at : ℕ) → (from % 64 ≤ at) × (at < 64) × (has_bit (get_or words (from / 64) 0) at ≡ true) × ((i : ℕ) → from % 64 ≤ i → i < at → has_bit (get_or words (from / 64) 0) i ≡ false)
      → IsFirst words from (from / 64 * 64 + at)
  first_in_word at first =
      let here : (from / 64 * 64 + at) / 64 ≡ from / 64 = div-mul-add (from / 64) 64 at first.1 in
      let bit : (from / 64 * 64 + at) % 64 ≡ at = mod-mul-add (from / 64) 64 at first.1 in
      record {
        behind = omega arith;
        found =
            has_at words (from / 64 * 64 + at)
            ∙ ap (λ j. has_bit (get_or words j 0) ((from / 64 * 64 + at) % 64)) here
            ∙ ap (λ i. has_bit (get_or words (from / 64) 0) i) bit
            ∙ first.2;
        before = λ k behind lower.
            let same : k / 64 ≡ from / 64 = omega arith in
            has_at words k ∙ ap (λ j. has_bit (get_or words j 0) (k % 64)) same ∙ first.3 (k % 64) (omega arith) (omega arith);
      }
