-- A segment or a message that was written behind the place of a frame's two heads.
use Rattle.std.proofs.Common.{◌≡◌, ℕ, ◌+◌, ◌≤◌, List, ◌++◌, length, drop, slice_range, ◌∙◌, ap}
use Rattle.frames.proofs.Emitted.{framed_payload, kept_behind}
use borrow.Rule.Slice.PartMut.{mid_of, put_mid}

-- the whole frame, and what stands behind it
pub framed : (frame : List ℕ → List ℕ) (out new whole after : List ℕ) (n m : ℕ) → length out ≡ 1514 → new ≡ whole ++ drop n (mid_of 34 1480 out) → length whole ≡ n → n ≤ 1480
    → 34 + n ≤ m → after ≡ frame (slice_range (put_mid 34 1480 out new) 34 (34 + n)) ++ drop m (put_mid 34 1480 out new)
    → after ≡ frame whole ++ drop m out
framed frame out new whole after n m len is whole_len within past written =
    written
    ∙ ap (λ (l : List ℕ). frame l ++ drop m (put_mid 34 1480 out new)) (framed_payload 34 1480 out new whole n len is whole_len within)
    ∙ ap (λ (l : List ℕ). frame whole ++ l) (kept_behind 34 1480 out new whole n m len is whole_len within past)
