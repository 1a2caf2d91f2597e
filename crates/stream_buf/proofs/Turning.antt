-- How octets lie in a block, round its end.
use Rattle.std.proofs.Common.{◌≡◌, ℕ, ◌+◌, ◌-◌, ◌≤◌, min, max, inl, inr, List, [], ◌++◌, length, take, drop, sym, ◌∙◌, ap, length-append, arith}
use Rattle.std.proofs.Math.Seq.{take-add, take-append-add, drop-append-add}
use Rattle.std.proofs.lemmas.Bool.{cases_lt}
use Rattle.std.proofs.lemmas.List.{append-nil, append_assoc, length-take, length-drop, take-take, take_all, take-append-le, take-append-drop, drop-append-le, drop-drop, drop-take, drop_all}
use Rattle.stream_buf.specs.Ring.{turned, overlaid}

-- octets that are laid over the second of two parts
pub overlaid_back : (front back new : List ℕ) (at : ℕ) → length front ≤ at → front ++ overlaid (at - length front) new back ≡ overlaid at new (front ++ back)
overlaid_back front back new at behind =
    let n : ℕ = length new in
    let k : ℕ = at - length front in
    let rest : List ℕ = drop (k + n) back in
    let place : length front + k ≡ at = omega (arith, behind) in
    let end : length front + (k + n) ≡ at + n = omega (arith, behind) in
    let before : front ++ take k back ≡ take at (front ++ back) = sym (take-append-add front back k) ∙ ap (λ (m : ℕ). take m (front ++ back)) place in
    let after : rest ≡ drop (at + n) (front ++ back) = sym (drop-append-add front back (k + n)) ∙ ap (λ (m : ℕ). drop m (front ++ back)) end in
    sym (append_assoc front (take k back ++ new) rest) ∙ ap (λ (xs : List ℕ). xs ++ rest) (sym (append_assoc front (take k back) new))
    ∙ ap (λ (xs : List ℕ). xs ++ new ++ rest) before ∙ ap (λ (xs : List ℕ). take at (front ++ back) ++ new ++ xs) after

-- octets of which the first ones reach the end of the first part, and the others lie over the second
pub overlaid_across : (front back first second : List ℕ) (at : ℕ) → at + length first ≡ length front
    → overlaid at first front ++ overlaid 0 second back ≡ overlaid at (first ++ second) (front ++ back)
overlaid_across front back first second at whole =
    let n : ℕ = length second in
    let begin : List ℕ = take at front in
    let none : drop (at + length first) front ≡ [] = drop_all (at + length first) front (omega (arith, whole)) in
    let same : 0 + n ≡ n = omega arith in
    let end : length front + n ≡ at + length (first ++ second) = omega (arith, whole, length-append first second) in
    let rest : drop (0 + n) back ≡ drop (at + length (first ++ second)) (front ++ back) =
    ap (λ (m : ℕ). drop m back) same ∙ sym (drop-append-add front back n) ∙ ap (λ (m : ℕ). drop m (front ++ back)) end in
    let before : begin ≡ take at (front ++ back) = sym (take-append-le at front back (omega (arith, whole))) in
    ap (λ (xs : List ℕ). begin ++ first ++ xs ++ overlaid 0 second back) none
    ∙ ap (λ (xs : List ℕ). xs ++ overlaid 0 second back) (append-nil (begin ++ first))
    ∙ sym (append_assoc (begin ++ first) second (drop (0 + n) back))
    ∙ ap (λ (xs : List ℕ). xs ++ drop (0 + n) back) (append_assoc begin first second)
    ∙ ap (λ (xs : List ℕ). begin ++ (first ++ second) ++ xs) rest
    ∙ ap (λ (xs : List ℕ). xs ++ (first ++ second) ++ drop (at + length (first ++ second)) (front ++ back)) before

-- the first octets of two parts
pub first_of_parts : (front back : List ℕ) (len count : ℕ) → count ≡ min len (length front) → take count front ++ take (len - count) back ≡ take len (front ++ back)
first_of_parts front back len count is =
    elim (cases_lt len (length front)) [
      | inl lt ↦
          let all : count ≡ len = omega (arith, is, lt) in
          let none : len - count ≡ 0 = omega (arith, all) in
          ap (λ (m : ℕ). take count front ++ take m back) none ∙ append-nil (take count front) ∙ ap (λ (m : ℕ). take m front) all
          ∙ sym (take-append-le len front back (omega (arith, lt)))
      | inr ge ↦
          let all : count ≡ length front = omega (arith, is, ge) in
          let whole : length front + (len - count) ≡ len = omega (arith, all, ge) in
          ap (λ (xs : List ℕ). xs ++ take (len - count) back) (take_all count front (omega (arith, all)))
          ∙ sym (take-append-add front back (len - count)) ∙ ap (λ (m : ℕ). take m (front ++ back)) whole
    ]

pub length-turned : (start : ℕ) (block : List ℕ) → length (turned start block) ≡ length block
length-turned start block = omega (arith, length-append (drop start block) (take start block), length-drop start block, length-take start block)

-- where the start moves on, the octets before it lie behind the others
turned_on : (start count : ℕ) (block : List ℕ) → start + count ≤ length block → turned (start + count) block ≡ turned count (turned start block)
turned_on start count block within =
    let front : List ℕ = drop start block in
    let back : List ℕ = take start block in
    let fits : count ≤ length front = omega (arith, length-drop start block, within) in
    ap (λ (xs : List ℕ). xs ++ take (start + count) block) (sym (drop-drop count start block))
    ∙ ap (λ (xs : List ℕ). drop count front ++ xs) (take-add start count block)
    ∙ sym (append_assoc (drop count front) back (take count front))
    ∙ ap (λ (xs : List ℕ). xs ++ take count front) (sym (drop-append-le count front back fits))
    ∙ ap (λ (xs : List ℕ). drop count (front ++ back) ++ xs) (sym (take-append-le count front back fits))

turned_round : (start count place : ℕ) (block : List ℕ) → start ≤ length block → place + length block ≡ start + count → place ≤ start
    → turned place block ≡ turned count (turned start block)
turned_round start count place block there is within =
    let front : List ℕ = drop start block in
    let back : List ℕ = take start block in
    let past : length front + place ≡ count = omega (arith, length-drop start block, is, there) in
    let fits : place ≤ length back = omega (arith, length-take start block, within, there) in
    let whole : back ++ front ≡ block = take-append-drop start block in
    ap (λ (xs : List ℕ). turned place xs) (sym whole)
    ∙ ap (λ (xs : List ℕ). xs ++ take place (back ++ front)) (drop-append-le place back front fits)
    ∙ ap (λ (xs : List ℕ). drop place back ++ front ++ xs) (take-append-le place back front fits)
    ∙ append_assoc (drop place back) front (take place back)
    ∙ ap (λ (xs : List ℕ). xs ++ (front ++ take place back)) (sym (drop-append-add front back place))
    ∙ ap (λ (xs : List ℕ). drop (length front + place) (front ++ back) ++ xs) (sym (take-append-add front back place))
    ∙ ap (λ (m : ℕ). turned m (front ++ back)) past

-- the first octets are dropped
dropped : (count len : ℕ) (octets : List ℕ) → count ≤ len → len ≤ length octets → take (len - count) (turned count octets) ≡ drop count (take len octets)
dropped count len octets less within =
    let sum : count + (len - count) ≡ len = omega (arith, less) in
    take-append-le (len - count) (drop count octets) (take count octets) (omega (arith, length-drop count octets, within))
    ∙ sym (drop-take count (len - count) octets) ∙ ap (λ (m : ℕ). drop count (take m octets)) sum

module _ (block : List ℕ) (start len count : ℕ) (there : start ≤ length block) (within : len ≤ length block) (less : count ≤ len) where
  pub dropped_on : start + count ≤ length block → take (len - count) (turned (start + count) block) ≡ drop count (take len (turned start block))
  dropped_on fits =
      ap (λ (xs : List ℕ). take (len - count) xs) (turned_on start count block fits)
      ∙ dropped count len (turned start block) less (omega (arith, length-turned start block, within))

  pub dropped_round : length block ≤ start + count → take (len - count) (turned (count - (length block - start)) block) ≡ drop count (take len (turned start block))
  dropped_round past =
      ap (λ (xs : List ℕ). take (len - count) xs)
      (turned_round start count (count - (length block - start)) block there (omega (arith, there, past)) (omega (arith, there, less, within)))
      ∙ dropped count len (turned start block) less (omega (arith, length-turned start block, within))

-- octets that are laid behind the first ones, and over some of them
module _ (octets new : List ℕ) (len at : ℕ) (within : len ≤ length octets) (there : at ≤ len) where
  pub in_use_with : at + length new ≤ length octets → take (max len (at + length new)) (overlaid at new octets) ≡ overlaid at new (take len octets)
  in_use_with fits =
      let n : ℕ = length new in
      let before : List ℕ = take at octets ++ new in
      let more : ℕ = max len (at + n) - (at + n) in
      let size : length before ≡ at + n = omega (arith, length-append (take at octets) new, length-take at octets, within, there) in
      let whole : max len (at + n) ≡ length before + more = omega (arith, size) in
      let begin : take at octets ≡ take at (take len octets) = sym (take-take at len octets there) in
      let rest : take more (drop (at + n) octets) ≡ drop (at + n) (take len octets) =
      elim (cases_lt (at + n) len) [
        | inl lt ↦
            let sum : at + n + more ≡ len = omega (arith, lt) in
            sym (drop-take (at + n) more octets) ∙ ap (λ (m : ℕ). drop (at + n) (take m octets)) sum
        | inr ge ↦
            let none : more ≡ 0 = omega (arith, ge) in
            ap (λ (m : ℕ). take m (drop (at + n) octets)) none
            ∙ sym (drop_all (at + n) (take len octets) (omega (arith, length-take len octets, ge)))
      ] in
      ap (λ (m : ℕ). take m (overlaid at new octets)) whole
      ∙ take-append-add before (drop (at + n) octets) more
      ∙ ap (λ (xs : List ℕ). before ++ xs) rest
      ∙ ap (λ (xs : List ℕ). xs ++ new ++ drop (at + n) (take len octets)) begin
