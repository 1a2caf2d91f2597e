-- Which octets are taken.
use Rattle.std.proofs.Common.{◌≡◌, ℕ, ◌+◌, ◌≤◌, ◌==◌, ◌||◌, nat_le, Bool, true, inl, inr, List, [], length, Option, sym, ◌∙◌, ap, arith}
use Rattle.std.proofs.lemmas.Bool.{leb-true, ne_eqb}
use Rattle.std.proofs.lemmas.Bool.Decides.{eqb_tells}
use Rattle.stream_buf.specs.Receiving.{ReceiveView, front, behind_front, ranges, laid, is_taken, IsReceiving}
use Rattle.stream_buf.proofs.Inserting.{all_behind, front_ahead, fewer_joined}

-- what would be kept has few enough ranges
abbrev pub is_few : ReceiveView → ℕ → List ℕ → Bool
is_few b distance octets = nat_le (ranges (behind_front (laid b.kept distance octets))) 32

pub taken_first : (b : ReceiveView) (distance : ℕ) (octets : List ℕ) → distance ≡ 0 → is_taken b distance octets ≡ true
taken_first b distance octets first = ap (λ (n : ℕ). n == 0 || is_few b distance octets) first

pub taken_ahead : (b : ReceiveView) (distance : ℕ) (octets : List ℕ) (count : ℕ) → IsReceiving b → (distance ≡ 0 → ⊥) → distance + length octets ≤ length b.kept
    → count ≡ ranges (laid b.kept distance octets) → nat_le count 32 ≡ is_taken b distance octets
taken_ahead b distance octets count was ahead within is =
    let places : List (Option ℕ) = laid b.kept distance octets in
    let gap : front places ≡ [] = front_ahead b.kept distance octets (omega (arith, ahead)) within was.gap in
    ap (λ (n : ℕ). nat_le n 32) (is ∙ ap (λ (ps : List (Option ℕ)). ranges ps) (sym (all_behind places gap)))
    ∙ ap (λ (t : Bool). t || is_few b distance octets) (sym (ne_eqb distance 0 ahead))

-- where octets are taken, few ranges are left
pub few_left : (b : ReceiveView) (distance : ℕ) (octets : List ℕ) → IsReceiving b → is_taken b distance octets ≡ true
    → ranges (behind_front (laid b.kept distance octets)) ≤ 32
few_left b distance octets was taken =
    elim (eqb_tells distance 0) [
      | inl t ↦
          let same = ap (λ (n : ℕ). ranges (behind_front (laid b.kept n octets))) t.1 in
          let fewer = fewer_joined b.kept octets in
          omega (arith, same, fewer, was.few)
      | inr t ↦ leb-true (ranges (behind_front (laid b.kept distance octets))) 32 (ap (λ (s : Bool). s || is_few b distance octets) (sym t.0) ∙ taken)
    ]
