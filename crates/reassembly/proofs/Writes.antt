-- Lists in which some items were written, and how far they are in use.
use Rattle.std.proofs.Common.{◌≡◌, ℕ, ◌+◌, ◌-◌, ◌≤◌, List, ◌++◌, length, take, drop, sym, ◌∙◌, ap, length-append, arith}
use Rattle.std.proofs.lemmas.List.{length-take-le, length-drop, take_at, take-take, drop-take}
use Rattle.std.proofs.Math.Seq.{take-append-add}
use Rattle.reassembly.specs.Buffers.{over}

-- a beginning that reaches past what is written is written alike
pub take-over : {X : Type 0} (m at : ℕ) (new xs : List X) → at + length new ≤ m → m ≤ length xs → take m (over at new xs) ≡ over at new (take m xs)
take-over m at new xs within room =
    let end : ℕ = at + length new in
    let more : ℕ = m - end in
    let front = take at xs ++ new in
    let front_length : length front ≡ end = omega (arith, length-append (take at xs) new, length-take-le at xs (omega arith)) in
    let here : m ≡ length front + more = omega arith in
    let there : m ≡ end + more = omega arith in
    let cut : take m (front ++ drop end xs) ≡ front ++ take more (drop end xs) =
    ap (λ n. take n (front ++ drop end xs)) here ∙ take-append-add front (drop end xs) more in
    let rest : drop end (take m xs) ≡ take more (drop end xs) = ap (λ n. drop end (take n xs)) there ∙ drop-take end more xs in
    let start : take at (take m xs) ≡ take at xs = take-take at m xs (omega arith) in
    cut ∙ sym (ap (λ t. t ++ new ++ drop end (take m xs)) start ∙ ap (λ d. front ++ d) rest)

-- a beginning that ends with what is written
pub take-over_end : {X : Type 0} (end at : ℕ) (new xs : List X) → at + length new ≡ end → end ≤ length xs → take end (over at new xs) ≡ take at xs ++ new
take-over_end end at new xs here room =
    let front : length (take at xs ++ new) ≡ end = omega (arith, length-append (take at xs) new, length-take-le at xs (omega arith)) in
    take_at (take at xs ++ new) (drop (at + length new) xs) end front

pub length-over : {X : Type 0} (at : ℕ) (new xs : List X) → at + length new ≤ length xs → length (over at new xs) ≡ length xs
length-over at new xs room =
    omega (arith, length-append (take at xs ++ new) (drop (at + length new) xs), length-append (take at xs) new, length-take-le at xs (omega arith), length-drop (at + length new) xs)
