-- What the marks stand on, before and after a write.
use Rattle.std.proofs.Common.{◌≡◌, ℕ, ◌/◌, ◌%◌, ◌≤◌, inl, inr, false, nat_lt, List, ◌++◌, length, get_or, take, drop, replicate, sym, ◌∙◌, ap, arith}
use Rattle.std.specs.Int.{div_ceil}
use Rattle.std.proofs.lemmas.List.{take_at, length-replicate, get_or-replicate, get_or_past}
use Rattle.std.proofs.lemmas.Bool.{cases_lt}
use Rattle.std.proofs.lemmas.Nat.Bits.{bit_at-zero}
use Rattle.marks.specs.Bits.{has_bit, has, Summarizes}
use Rattle.marks.specs.Marked.{IsStored}
use Rattle.marks.specs.declared.TheConstants.{MOST}
use Rattle.marks.proofs.OneWord.{bit_is_clear}
use Rattle.marks.proofs.ByPlace.{has_at}

-- a vector whose slice was lent and written holds what was written
pub written : (new old : List ℕ) (n : ℕ) → length new ≡ n → take n (new ++ drop (length new) old) ≡ new
written new old n long = take_at new (drop (length new) old) n long

pub stored_again : (words summary : List ℕ) (len most : ℕ) → IsStored words summary len most → (new sums xs ys : List ℕ) (n : ℕ) → xs ≡ new → ys ≡ sums → n ≤ most → length new ≡ length words → length sums ≡ length summary
    → ((k : ℕ) → n ≤ k → has new k ≡ false) → Summarizes sums new → IsStored xs ys n most
stored_again words summary len most stored new sums xs ys n is are fits long wide clear sum =
    let many : length xs ≡ length words = ap length is ∙ long in
    let few : length ys ≡ length summary = ap length are ∙ wide in
    record {
      fits = fits;
      bounded = stored.bounded;
      room = omega (arith, stored.room);
      few = omega (arith, stored.few);
      above = omega (arith, stored.above);
      fewer = omega (arith, stored.fewer);
      clear = λ k behind. ap (λ ws. has ws k) is ∙ clear k behind;
      sums = λ k. ap (λ ws. has ws k) are ∙ sum k ∙ sym (ap (λ ws. nat_lt 0 (get_or ws k 0)) is);
    }

-- of words that are all 0 no bit is set
abbrev pub zeros : ℕ → List ℕ
zeros n = replicate n 0

zero_at : (n k : ℕ) → get_or (zeros n) k 0 ≡ 0
zero_at n k = elim (cases_lt k n) [
  | inl inside ↦ get_or-replicate n k 0 0 inside
  | inr past ↦ (let long : length (zeros n) ≡ n = length-replicate n 0 in get_or_past (zeros n) k 0 (omega arith))
]

none_set : (n k : ℕ) → has (zeros n) k ≡ false
none_set n k = has_at (zeros n) k ∙ ap (λ w. has_bit w (k % 64)) (zero_at n (k / 64)) ∙ bit_is_clear 0 (k % 64) (bit_at-zero (k % 64))

pub stored_new : (most n m : ℕ) (xs ys : List ℕ) → most ≤ MOST → n ≡ div_ceil most 64 → m ≡ div_ceil n 64 → xs ≡ zeros n → ys ≡ zeros m → IsStored xs ys 0 most
stored_new most n m xs ys bounded words summary is are =
    let long : length xs ≡ n = ap length is ∙ length-replicate n 0 in
    let wide : length ys ≡ m = ap length are ∙ length-replicate m 0 in
    record {
      fits = omega arith;
      bounded = bounded;
      room = omega arith;
      few = omega arith;
      above = omega arith;
      fewer = omega arith;
      clear = λ k _. ap (λ ws. has ws k) is ∙ none_set n k;
      sums = λ k. ap (λ ws. has ws k) are ∙ none_set m k ∙ sym (ap (λ ws. nat_lt 0 (get_or ws k 0)) is ∙ ap (λ w. nat_lt 0 w) (zero_at n k));
    }
