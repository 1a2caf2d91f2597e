-- A part of two lists of which one follows the other.
use Rattle.std.proofs.Common.{◌≡◌, ℕ, zero, suc, ◌+◌, ◌-◌, min, List, [], ◌∷◌, ◌++◌, length, take, drop, slice_range, sym, ◌∙◌, ap, arith}
use Rattle.std.proofs.lemmas.List.{length-take, length-drop, take_all, drop_all, take_at, take_min, append-nil}
use Rattle.inet_sum.specs.Sum.{sum_of}
use borrow.Rule.Slice.PartMut.{post_of}

pub drop_of_two : (n : ℕ) (xs ys : List ℕ) → drop n (xs ++ ys) ≡ drop n xs ++ drop (n - length xs) ys
drop_of_two zero xs ys = let none : 0 ≡ 0 - length xs = omega arith in ap (λ (m : ℕ). xs ++ drop m ys) none
drop_of_two (suc n) [] ys = let all : suc n ≡ suc n - 0 = omega arith in ap (λ (m : ℕ). drop m ys) all
drop_of_two (suc n) (x ∷ xs) ys =
    let less : n - length xs ≡ suc n - suc (length xs) = omega arith in
    drop_of_two n xs ys ∙ ap (λ (m : ℕ). drop n xs ++ drop m ys) less

pub take_of_two : (n : ℕ) (xs ys : List ℕ) → take n (xs ++ ys) ≡ take n xs ++ take (n - length xs) ys
take_of_two zero xs ys = let none : 0 ≡ 0 - length xs = omega arith in ap (λ (m : ℕ). take m ys) none
take_of_two (suc n) [] ys = let all : suc n ≡ suc n - 0 = omega arith in ap (λ (m : ℕ). take m ys) all
take_of_two (suc n) (x ∷ xs) ys =
    let less : n - length xs ≡ suc n - suc (length xs) = omega arith in
    ap (λ (zs : List ℕ). x ∷ zs) (take_of_two n xs ys ∙ ap (λ (m : ℕ). take n xs ++ take m ys) less)

drop_min : (n : ℕ) (xs : List ℕ) → drop (min n (length xs)) xs ≡ drop n xs
drop_min zero xs = let none : min 0 (length xs) ≡ 0 = omega arith in ap (λ (m : ℕ). drop m xs) none
drop_min (suc n) [] = drop_all (min (suc n) 0) [] (omega arith)
drop_min (suc n) (x ∷ xs) =
    let less : min (suc n) (suc (length xs)) ≡ suc (min n (length xs)) = omega arith in
    ap (λ (m : ℕ). drop m (x ∷ xs)) less ∙ drop_min n xs

-- the part that begins in the first of two lists and goes on in the second
part_of_two : (front back : List ℕ) (at n : ℕ)
    → slice_range (front ++ back) at (at + n) ≡ take n (drop at front) ++ take (n - length (drop at front)) (drop (at - length front) back)
part_of_two front back at n =
    let count : at + n - at ≡ n = omega arith in
    ap (λ (m : ℕ). take m (drop at (front ++ back))) count ∙ ap (λ (xs : List ℕ). take n xs) (drop_of_two at front back)
    ∙ take_of_two n (drop at front) (drop (at - length front) back)

-- what is written to the beginning of a list, and then to all behind it
written : (first last out : List ℕ) (k : ℕ) → length first ≡ k
    → take k (first ++ drop k out) ++ (last ++ post_of k (length (first ++ drop k out) - k) (first ++ drop k out)) ≡ first ++ last
written first last out k len =
    let whole : List ℕ = first ++ drop k out in
    let behind : post_of k (length whole - k) whole ≡ [] = drop_all (length whole - k) (drop k whole) (omega (arith, length-drop k whole)) in
    ap (λ (xs : List ℕ). take k whole ++ (last ++ xs)) behind ∙ ap (λ (xs : List ℕ). take k whole ++ xs) (append-nil last)
    ∙ ap (λ (xs : List ℕ). xs ++ last) (take_at first (drop k out) k len)

pub copied : (front back out first last : List ℕ) (at skipped k : ℕ) → skipped ≡ min at (length front)
    → k ≡ min (length (take (length front - skipped) (drop skipped front))) (length out)
    → first ≡ take k (take (length front - skipped) (drop skipped front))
    → last ≡ take (at - skipped + (length out - k) - (at - skipped)) (drop (at - skipped) back)
    → take k (first ++ drop k out) ++ (last ++ post_of k (length (first ++ drop k out) - k) (first ++ drop k out))
    ≡ slice_range (front ++ back) at (at + length out)
copied front back out first last at skipped k is_skipped is_k is_first is_last =
    let n : ℕ = length out in
    let rest : List ℕ = drop at front in
    let all : take (length front - skipped) (drop skipped front) ≡ drop skipped front = take_all (length front - skipped) (drop skipped front) (omega (arith, length-drop skipped front)) in
    let same : drop skipped front ≡ rest = ap (λ (m : ℕ). drop m front) is_skipped ∙ drop_min at front in
    let beginning : take (length front - skipped) (drop skipped front) ≡ rest = all ∙ same in
    let k_is : k ≡ min n (length rest) = is_k ∙ ap (λ (xs : List ℕ). min (length xs) n) beginning ∙ omega arith in
    let from_front : first ≡ take n rest = is_first ∙ ap (λ (xs : List ℕ). take k xs) beginning ∙ ap (λ (m : ℕ). take m rest) k_is ∙ take_min n rest in
    let behind : at - skipped ≡ at - length front = omega (arith, is_skipped) in
    let count : at - skipped + (n - k) - (at - skipped) ≡ n - length rest = omega (arith, k_is) in
    let from_back : last ≡ take (n - length rest) (drop (at - length front) back) =
    is_last ∙ ap (λ (m : ℕ). take m (drop (at - skipped) back)) count ∙ ap (λ (m : ℕ). take (n - length rest) (drop m back)) behind in
    let len : length first ≡ k = ap length from_front ∙ omega (arith, k_is, length-take n rest) in
    written first last out k len ∙ ap (λ (xs : List ℕ). xs ++ last) from_front ∙ ap (λ (xs : List ℕ). take n rest ++ xs) from_back
    ∙ sym (part_of_two front back at n)

-- the sum of a beginning of two lists
pub summed_of_two : (front back : List ℕ) (len from_front result : ℕ) → from_front ≡ min len (length front)
    → result ≡ sum_of (take from_front front ++ take (len - from_front) back) → result ≡ sum_of (take len (front ++ back))
summed_of_two front back len from_front result is_front is =
    let first : take from_front front ≡ take len front = ap (λ (n : ℕ). take n front) is_front ∙ take_min len front in
    let behind : len - from_front ≡ len - length front = omega (arith, is_front) in
    is ∙ ap (λ (xs : List ℕ). sum_of (xs ++ take (len - from_front) back)) first ∙ ap (λ (n : ℕ). sum_of (take len front ++ take n back)) behind
    ∙ ap sum_of (sym (take_of_two len front back))
