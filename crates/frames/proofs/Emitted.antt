-- What was written from a place of a frame on, which has so much room behind that place.
use Rattle.std.proofs.Common.{◌≡◌, ℕ, ◌+◌, ◌-◌, ◌≤◌, List, [], ◌++◌, length, take, drop, slice_range, arith, sym, ◌∙◌, ap, append_assoc, length-append, length-drop}
use Rattle.std.proofs.lemmas.List.{append-nil, drop_all, drop_at, drop-drop, length-take, take_all, take_at}
use borrow.Rule.Slice.PartMut.{mid_of, put_mid}

-- what stands in the frame then, from its head on
behind : (at room : ℕ) (out whole : List ℕ) (n : ℕ) → length out ≡ at + room → n ≤ room
    → put_mid at room out (whole ++ drop n (mid_of at room out)) ≡ take at out ++ (whole ++ drop (at + n) out)
behind at room out whole n len within =
    let own : mid_of at room out ≡ drop at out = take_all room (drop at out) (omega (arith, length-drop at out)) in
    let none : drop room (drop at out) ≡ [] = drop_all room (drop at out) (omega (arith, length-drop at out)) in
    let rest : drop n (mid_of at room out) ≡ drop (at + n) out = ap (drop n) own ∙ drop-drop n at out in
    ap (λ (l : List ℕ). take at out ++ (l ++ drop room (drop at out))) (ap (λ (l : List ℕ). whole ++ l) rest)
    ∙ ap (λ (l : List ℕ). take at out ++ ((whole ++ drop (at + n) out) ++ l)) none
    ∙ ap (λ (l : List ℕ). take at out ++ l) (append-nil (whole ++ drop (at + n) out))

front_len : (at room : ℕ) (out : List ℕ) → length out ≡ at + room → length (take at out) ≡ at
front_len at room out len = length-take at out ∙ omega (arith, len)

-- the payload that is framed
pub framed_payload : (at room : ℕ) (out new whole : List ℕ) (n : ℕ) → length out ≡ at + room → new ≡ whole ++ drop n (mid_of at room out) → length whole ≡ n → n ≤ room
    → slice_range (put_mid at room out new) at (at + n) ≡ whole
framed_payload at room out new whole n len is whole_len within =
    let count : length whole ≡ at + n - at = omega (arith, whole_len) in
    ap (λ (l : List ℕ). slice_range (put_mid at room out l) at (at + n)) is
    ∙ ap (λ (l : List ℕ). slice_range l at (at + n)) (behind at room out whole n len within)
    ∙ ap (take (at + n - at)) (drop_at (take at out) (whole ++ drop (at + n) out) at (front_len at room out len))
    ∙ take_at whole (drop (at + n) out) (at + n - at) count

-- what stands behind the frame is as it was
pub kept_behind : (at room : ℕ) (out new whole : List ℕ) (n m : ℕ) → length out ≡ at + room → new ≡ whole ++ drop n (mid_of at room out) → length whole ≡ n → n ≤ room → at + n ≤ m
    → drop m (put_mid at room out new) ≡ drop m out
kept_behind at room out new whole n m len is whole_len within past =
    let more : ℕ = m - (at + n) in
    let sum : at + n + more ≡ m = omega arith in
    let front : List ℕ = take at out ++ whole in
    let front_is : length front ≡ at + n = omega (arith, length-append (take at out) whole, front_len at room out len, whole_len) in
    let all : put_mid at room out new ≡ front ++ drop (at + n) out =
    ap (put_mid at room out) is ∙ behind at room out whole n len within ∙ sym (append_assoc (take at out) whole (drop (at + n) out)) in
    ap (drop m) all
    ∙ ap (λ (k : ℕ). drop k (front ++ drop (at + n) out)) (sym sum)
    ∙ sym (drop-drop more (at + n) (front ++ drop (at + n) out))
    ∙ ap (drop more) (drop_at front (drop (at + n) out) (at + n) front_is)
    ∙ drop-drop more (at + n) out
    ∙ ap (λ (k : ℕ). drop k out) sum

-- the octets behind the place of a datagram's header
pub segment_at : (out : List ℕ) (n : ℕ) → length out ≡ 1514 → n ≤ 1480 → slice_range (mid_of 14 1500 out) 20 (20 + n) ≡ slice_range out 34 (34 + n)
segment_at out n len within =
    let own : mid_of 14 1500 out ≡ drop 14 out = take_all 1500 (drop 14 out) (omega (arith, length-drop 14 out)) in
    let count : 20 + n - 20 ≡ 34 + n - 34 = omega arith in
    ap (λ (l : List ℕ). take (20 + n - 20) (drop 20 l)) own
    ∙ ap (take (20 + n - 20)) (drop-drop 20 14 out)
    ∙ ap (λ (k : ℕ). take k (drop 34 out)) count

-- as many octets as it says
pub segment_len : (out : List ℕ) (n : ℕ) → length out ≡ 1514 → n ≤ 1480 → length (slice_range out 34 (34 + n)) ≡ n
segment_len out n len within = length-take (34 + n - 34) (drop 34 out) ∙ omega (arith, length-drop 34 out)
