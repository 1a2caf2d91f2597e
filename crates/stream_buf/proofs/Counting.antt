-- Ranges are counted part by part.
use Rattle.std.proofs.Common.{◌≡◌, ℕ, suc, ◌+◌, ◌<◌, Bool, true, false, List, [], ◌∷◌, ◌++◌, length, get_or, take, Option, Some, None, refl, sym, ◌∙◌, ap, arith}
use Rattle.std.specs.Option.{is_some}
use Rattle.std.proofs.Math.Seq.{take-suc}
use Rattle.stream_buf.specs.Receiving.{ranges_after}
use Rattle.stream_buf.specs.Counting.{ends_kept}

-- the ranges of two parts: the second is counted from where the first ends
pub ranges_after-append : (before : Bool) (xs ys : List (Option ℕ)) → ranges_after before (xs ++ ys) ≡ ranges_after before xs + ranges_after (ends_kept before xs) ys
ranges_after-append before [] ys = omega arith
ranges_after-append before (None ∷ xs) ys = ranges_after-append false xs ys
ranges_after-append true (Some x ∷ xs) ys = ranges_after-append true xs ys
ranges_after-append false (Some x ∷ xs) ys = let rest = ranges_after-append true xs ys in omega (arith, rest)

pub ends_kept-append : (before : Bool) (xs ys : List (Option ℕ)) → ends_kept before (xs ++ ys) ≡ ends_kept (ends_kept before xs) ys
ends_kept-append before [] ys = refl
ends_kept-append before (None ∷ xs) ys = ends_kept-append false xs ys
ends_kept-append before (Some x ∷ xs) ys = ends_kept-append true xs ys

-- how many ranges begin at a place behind such a one
abbrev pub ranges_begun : Bool → Bool → ℕ
ranges_begun before false = 0
ranges_begun true true = 0
ranges_begun false true = 1

-- one place
one_range : (before : Bool) (place : Option ℕ) → ranges_after before (place ∷ []) ≡ ranges_begun before (is_some place)
one_range before None = refl
one_range true (Some x) = refl
one_range false (Some x) = refl

one_end : (before : Bool) (place : Option ℕ) → ends_kept before (place ∷ []) ≡ is_some place
one_end before None = refl
one_end before (Some x) = refl

-- one place more
pub ranges_next : (before : Bool) (places : List (Option ℕ)) (i : ℕ) (is_kept : Bool) → i < length places → is_kept ≡ is_some (get_or places i None)
    → ranges_after before (take (i + 1) places) ≡ ranges_after before (take i places) + ranges_begun (ends_kept before (take i places)) is_kept
ranges_next before places i is_kept below is =
    let place : Option ℕ = get_or places i None in
    let first : List (Option ℕ) = take i places in
    let one : i + 1 ≡ suc i = omega arith in
    let more : take (i + 1) places ≡ first ++ place ∷ [] = ap (λ (n : ℕ). take n places) one ∙ take-suc places i None below in
    ap (λ (xs : List (Option ℕ)). ranges_after before xs) more ∙ ranges_after-append before first (place ∷ [])
    ∙ ap (λ (n : ℕ). ranges_after before first + n) (one_range (ends_kept before first) place ∙ ap (λ (b : Bool). ranges_begun (ends_kept before first) b) (sym is))

pub ends_next : (before : Bool) (places : List (Option ℕ)) (i : ℕ) (is_kept : Bool) → i < length places → is_kept ≡ is_some (get_or places i None)
    → ends_kept before (take (i + 1) places) ≡ is_kept
ends_next before places i is_kept below is =
    let place : Option ℕ = get_or places i None in
    let first : List (Option ℕ) = take i places in
    let one : i + 1 ≡ suc i = omega arith in
    let more : take (i + 1) places ≡ first ++ place ∷ [] = ap (λ (n : ℕ). take n places) one ∙ take-suc places i None below in
    ap (λ (xs : List (Option ℕ)). ends_kept before xs) more ∙ ends_kept-append before first (place ∷ []) ∙ one_end (ends_kept before first) place ∙ sym is
