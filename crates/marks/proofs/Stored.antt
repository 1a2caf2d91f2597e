-- The marks as a list, and what becomes of it.
use Rattle.std.proofs.Common.{◌≡◌, ◌≢◌, ℕ, ◌+◌, ◌-◌, ◌<◌, ◌≤◌, ◌⊎◌, inl, inr, Bool, true, false, cond, nat_lt, List, [], ◌∷◌, ◌++◌, length, get_or, set, drop, Option, Some, None, option_map, sym, ◌∙◌, ap, arith, MatchOption, length-set, length-drop, get_or-set_same, get_or-set_other, get_or-drop}
use Rattle.std.specs.List.{remove, position_or_len}
use Rattle.std.proofs.lemmas.List.{same_lists}
use Rattle.std.proofs.lemmas.List.FromFn.{length-map-range_with_len, get_or-map-range_with_len, map-range_with_len_more}
use Rattle.std.proofs.lemmas.List.Edits.{length-remove, get_or-remove_below, get_or-remove_above}
use Rattle.std.proofs.lemmas.List.Sums.{position_or_len_is}
use Rattle.std.proofs.lemmas.Bool.{cases_eq, cases_lt, true≢false, lt-ltb, le-ltb}
use Rattle.marks.specs.Bits.{has, IsFirst}
use Rattle.marks.specs.First.{first_from}
use Rattle.marks.specs.Marked.{marked}

pub length_marked : (words : List ℕ) (n : ℕ) → length (marked words n) ≡ n
length_marked words n = length-map-range_with_len (has words) 0 n

pub mark_at : (words : List ℕ) (n k : ℕ) (d : Bool) → k < n → get_or (marked words n) k d ≡ has words k
mark_at words n k d within = get_or-map-range_with_len (has words) 0 n k k d within (omega arith)

-- the marks of these places are those of a list
same_marks : (words : List ℕ) (n : ℕ) (marks : List Bool) → length marks ≡ n → ((k : ℕ) (d : Bool) → k < n → has words k ≡ get_or marks k d) → marked words n ≡ marks
same_marks words n marks long each =
    let many : length (marked words n) ≡ n = length_marked words n in
    same_lists (marked words n) marks (many ∙ sym long) (λ k d within. mark_at words n k d (omega arith) ∙ each k d (omega arith))

-- one place is written
pub marked_set : (new old : List ℕ) (n place : ℕ) (b : Bool) → place < n → has new place ≡ b → ((k : ℕ) → k ≢ place → has new k ≡ has old k) → marked new n ≡ set (marked old n) place b
marked_set new old n place b within same others =
    let long : length (set (marked old n) place b) ≡ n = length-set (marked old n) place b ∙ length_marked old n in
    let many : length (marked old n) ≡ n = length_marked old n in
    same_marks new n (set (marked old n) place b) long (λ k d inside. elim (cases_eq k place) [
      | inl here ↦ ap (has new) here ∙ same ∙ sym (ap (λ j. get_or (set (marked old n) place b) j d) here ∙ get_or-set_same (marked old n) place b d (omega arith))
      | inr other ↦ others k other ∙ sym (get_or-set_other (marked old n) place k b d other ∙ mark_at old n k d inside)
    ])

-- a further place
pub marked_push : (new old : List ℕ) (n : ℕ) (b : Bool) → has new n ≡ b → ((k : ℕ) → k ≢ n → has new k ≡ has old k) → marked new (n + 1) ≡ marked old n ++ b ∷ []
marked_push new old n b same others =
    let front : marked new n ≡ marked old n = same_marks new n (marked old n) (length_marked old n) (λ k d inside. others k (omega arith) ∙ sym (mark_at old n k d inside)) in
    map-range_with_len_more (has new) 0 n n (omega arith) ∙ ap (λ ms. ms ++ has new n ∷ []) front ∙ ap (λ m. marked old n ++ m ∷ []) same

-- a place leaves
pub marked_remove : (new old : List ℕ) (n place : ℕ) → place < n → ((k : ℕ) → k < place → has new k ≡ has old k) → ((k : ℕ) → place ≤ k → has new k ≡ has old (k + 1)) → marked new (n - 1) ≡ remove (marked old n) place
marked_remove new old n place within before behind =
    let many : length (marked old n) ≡ n = length_marked old n in
    let fewer : length (remove (marked old n) place) + 1 ≡ length (marked old n) = length-remove (marked old n) place (omega arith) in
    same_marks new (n - 1) (remove (marked old n) place) (omega arith) (λ k d inside. elim (cases_lt k place) [
      | inl lower ↦ before k lower ∙ sym (get_or-remove_below (marked old n) place d k lower (omega arith) ∙ mark_at old n k d (omega arith))
      | inr higher ↦ behind k higher ∙ sym (get_or-remove_above (marked old n) place d k higher (omega arith) ∙ mark_at old n (k + 1) d (omega arith))
    ])

-- The first mark from a place on.
module _ (words : List ℕ) (n from : ℕ) (clear : (k : ℕ) → n ≤ k → has words k ≡ false) where
  abbrev pub rest : List Bool
  rest = drop from (marked words n)

  length_rest : length rest ≡ n - from
  length_rest = length-drop from (marked words n) ∙ ap (λ m. m - from) (length_marked words n)

  rest_at : (k : ℕ) (d : Bool) → from + k < n → get_or rest k d ≡ has words (from + k)
  rest_at k d inside = get_or-drop from (marked words n) k d ∙ mark_at words n (from + k) d inside

  abbrev pub is_mark : Bool → Bool
  is_mark m = m

  abbrev ahead_of : Option ℕ → Option ℕ
  ahead_of found = option_map (λ ahead. from + ahead) found

  none_marked : ((k : ℕ) → from ≤ k → has words k ≡ false) → None ≡ first_from is_mark from (marked words n)
  none_marked none =
      let long : length rest ≡ n - from = length_rest in
      let past : position_or_len is_mark rest ≡ length rest =
      position_or_len_is is_mark rest (length rest) false (omega arith)
      (λ k inside. rest_at k false (omega arith) ∙ none (from + k) (omega arith))
      (λ h. absurd (omega (arith, h)))
      in
      let not_in : nat_lt (position_or_len is_mark rest) (length rest) ≡ false = le-ltb _ _ (omega arith) in
      sym (ap (λ b. ahead_of (cond b (Some (position_or_len is_mark rest)) None)) not_in)

  first_marked : (place : ℕ) → IsFirst words from place → Some place ≡ first_from is_mark from (marked words n)
  first_marked place first =
      let long : length rest ≡ n - from = length_rest in
      let behind : from ≤ place = first.behind in
      let within : (place < n) ⊎ (n ≤ place) = cases_lt place n in
      let inside : place < n = elim within [ inl h ↦ h | inr h ↦ absurd (true≢false (sym first.found ∙ clear place h)) ] in
      let back : from + (place - from) ≡ place = omega arith in
      let at : position_or_len is_mark rest ≡ place - from =
      position_or_len_is is_mark rest (place - from) false (omega arith)
      (λ k lower. rest_at k false (omega arith) ∙ first.before (from + k) (omega arith) (omega arith))
      (λ _. rest_at (place - from) false (omega arith) ∙ ap (has words) back ∙ first.found)
      in
      let is_in : nat_lt (position_or_len is_mark rest) (length rest) ≡ true = lt-ltb _ _ (omega arith) in
      let sum : from + position_or_len is_mark rest ≡ place = omega arith in
      sym (ap (λ b. ahead_of (cond b (Some (position_or_len is_mark rest)) None)) is_in ∙ ap (λ p. Some p) sum)

  pub first_is : (found : Option ℕ) → MatchOption found ((k : ℕ) → from ≤ k → has words k ≡ false) (λ place. IsFirst words from place) → found ≡ first_from is_mark from (marked words n)
  first_is None none = none_marked none
  first_is (Some place) first = first_marked place first
