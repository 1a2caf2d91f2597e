-- There are as many ranges as places at which one begins.
use Rattle.std.proofs.Common.{◌≡◌, ℕ, zero, suc, ◌+◌, ◌<◌, ◌≤◌, Bool, true, false, ◌&&◌, if◌then◌else◌, List, length, get_or, take, Option, Some, None, is_some, is_none, refl, sym, ◌∙◌, ap, arith}
use Rattle.std.proofs.lemmas.List.{take_all}
use Rattle.stream_buf.specs.Receiving.{ranges}
use Rattle.stream_buf.specs.Counting.{ends_kept}
use Rattle.stream_buf.specs.Received.{is_beginning, beginnings}
use Rattle.stream_buf.proofs.Counting.{ranges_begun, ranges_next, ends_next}

begun_first : (is_kept : Bool) → ranges_begun false is_kept ≡ (if is_kept then 1 else 0)
begun_first true = refl
begun_first false = refl

begun_next : (before : Option ℕ) (is_kept : Bool) → ranges_begun (is_some before) is_kept ≡ (if is_kept && is_none before then 1 else 0)
begun_next None true = refl
begun_next None false = refl
begun_next (Some x) true = refl
begun_next (Some x) false = refl

-- whether one begins at a place
begun_at : (kept : List (Option ℕ)) (k : ℕ) → k < length kept
    → ranges_begun (ends_kept false (take k kept)) (is_some (get_or kept k None)) ≡ (if is_beginning kept k then 1 else 0)
begun_at kept zero below = begun_first (is_some (get_or kept 0 None))
begun_at kept (suc k) below =
    let one : suc k ≡ k + 1 = omega arith in
    let is_kept : Bool = is_some (get_or kept (suc k) None) in
    let last : ends_kept false (take (suc k) kept) ≡ is_some (get_or kept k None) =
    ap (λ (n : ℕ). ends_kept false (take n kept)) one ∙ ends_next false kept k (is_some (get_or kept k None)) (omega (arith, below)) refl in
    ap (λ (b : Bool). ranges_begun b is_kept) last ∙ begun_next (get_or kept k None) is_kept

counted_up_to : (kept : List (Option ℕ)) (k : ℕ) → k ≤ length kept → ranges (take k kept) ≡ beginnings kept k
counted_up_to kept zero within = refl
counted_up_to kept (suc k) within =
    let one : suc k ≡ k + 1 = omega arith in
    let rest = counted_up_to kept k (omega (arith, within)) in
    let next = ranges_next false kept k (is_some (get_or kept k None)) (omega (arith, within)) refl in
    ap (λ (n : ℕ). ranges (take n kept)) one ∙ next
    ∙ ap (λ (n : ℕ). n + ranges_begun (ends_kept false (take k kept)) (is_some (get_or kept k None))) rest
    ∙ ap (λ (n : ℕ). beginnings kept k + n) (begun_at kept k (omega (arith, within)))

pub ranges_begin : (kept : List (Option ℕ)) → ranges kept ≡ beginnings kept (length kept)
ranges_begin kept = ap (λ (ps : List (Option ℕ)). ranges ps) (sym (take_all (length kept) kept (omega arith))) ∙ counted_up_to kept (length kept) (omega arith)
