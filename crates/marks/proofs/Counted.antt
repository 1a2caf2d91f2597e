-- How many places are marked.
use Rattle.std.proofs.Common.{◌≡◌, ℕ, ◌+◌, ◌-◌, ◌<◌, ◌≤◌, Bool, true, false, cond, nat_eq, not, List, [], ◌∷◌, ◌++◌, get_or, set, length, refl, sym, ◌∙◌, ap, arith}
use Rattle.std.specs.List.{count_by, list_any, remove}
use Rattle.std.proofs.lemmas.Bool.Decides.{nat_tests}
use Rattle.std.proofs.lemmas.List.Sums.{count_by-le-length, sum_by-cons, sum_by_push, sum_by-set, sum_by-remove}
use Rattle.marks.specs.Bits.{has}
use Rattle.marks.specs.Marked.{marked}
use Rattle.marks.proofs.Stored.{length_marked, mark_at}

abbrev pub is_mark : Bool → Bool
is_mark m = m

abbrev pub one : Bool → ℕ
one m = cond m 1 0

pub at_most_one : (m : Bool) (a : ℕ) → a ≡ one m → a ≤ 1
at_most_one true a is = omega (arith, is)
at_most_one false a is = omega (arith, is)

-- none is where there are 0
pub none_counted : (marks : List Bool) → nat_eq (count_by is_mark marks) 0 ≡ not (list_any is_mark marks)
none_counted [] = refl
none_counted (true ∷ marks) =
    let more : count_by is_mark (true ∷ marks) ≡ 1 + count_by is_mark marks = sum_by-cons one true marks in
    grind (arith, nat_tests)
none_counted (false ∷ marks) =
    let same : count_by is_mark (false ∷ marks) ≡ 0 + count_by is_mark marks = sum_by-cons one false marks in
    let all : count_by is_mark (false ∷ marks) ≡ count_by is_mark marks = omega (arith, same) in
    ap (λ n. nat_eq n 0) all ∙ none_counted marks

-- of places whose bits the words have
module _ (words : List ℕ) (n count : ℕ) (is : count ≡ count_by is_mark (marked words n)) where
  pub few_marked : count ≤ n
  few_marked = omega (arith, count_by-le-length is_mark (marked words n), length_marked words n, is)

  -- once a further place is marked or not
  pub counted_push : (m : Bool) (a : ℕ) (marks : List Bool) → a ≡ one m → marks ≡ marked words n ++ m ∷ [] → count + a ≡ count_by is_mark marks
  counted_push m a marks adds are = ap (λ k. k + a) is ∙ ap (λ k. count_by is_mark (marked words n) + k) adds ∙ sym (sum_by_push one (marked words n) m) ∙ ap (count_by is_mark) (sym are)

  module _ (place b : ℕ) (was : Bool) (within : place < n) (found : was ≡ has words place) (takes : b ≡ one was) where
    had : b ≡ one (get_or (marked words n) place false)
    had = takes ∙ ap one (found ∙ sym (mark_at words n place false within))

    inside : place < length (marked words n)
    inside = omega (arith, within, length_marked words n)

    -- once one is, which was or wasn't
    module _ (m : Bool) (a : ℕ) (adds : a ≡ one m) where
      sums : count_by is_mark (set (marked words n) place m) + b ≡ count + a
      sums = ap (λ k. count_by is_mark (set (marked words n) place m) + k) had ∙ sum_by-set one (marked words n) place m false inside ∙ ap (λ k. k + one m) (sym is) ∙ ap (λ k. count + k) (sym adds)

      pub may_set : b ≤ count + a
      may_set = omega (arith, sums)

      pub counted_set : (marks : List Bool) → marks ≡ set (marked words n) place m → count + a - b ≡ count_by is_mark marks
      counted_set marks are = let left : count + a - b ≡ count_by is_mark (set (marked words n) place m) = omega (arith, sums) in left ∙ ap (count_by is_mark) (sym are)

    -- once one left
    leaves : count_by is_mark (remove (marked words n) place) + b ≡ count
    leaves = ap (λ k. count_by is_mark (remove (marked words n) place) + k) had ∙ sum_by-remove one (marked words n) place false inside ∙ sym is

    pub may_remove : b ≤ count
    may_remove = omega (arith, leaves)

    pub counted_remove : (marks : List Bool) → marks ≡ remove (marked words n) place → count - b ≡ count_by is_mark marks
    counted_remove marks are = let left : count - b ≡ count_by is_mark (remove (marked words n) place) = omega (arith, leaves) in left ∙ ap (count_by is_mark) (sym are)
