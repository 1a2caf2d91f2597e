-- Places of a block that are written before octets come to them.
use Rattle.std.proofs.Common.{◌≡◌, ℕ, ◌+◌, ◌-◌, ◌≤◌, max, inl, inr, List, ◌++◌, length, take, drop, replicate, sym, ◌∙◌, ap, length-append, arith}
use Rattle.std.proofs.lemmas.List.{append-nil, length-replicate, length-drop, take-append-le, drop-append-le}
use Rattle.stream_buf.specs.Ring.{turned, IsRing}
use Rattle.stream_buf.specs.Stored.{filled_to}

pub length-filled_to : (end : ℕ) (block : List ℕ) → length (filled_to end block) ≡ max end (length block)
length-filled_to end block = omega (arith, length-append block (replicate (end - length block) 0), length-replicate {A = ℕ} (end - length block) 0)

-- octets that don't go round the end are as they were, whatever is written behind them
kept : (block more : List ℕ) (start len : ℕ) → start + len ≤ length block → take len (turned start (block ++ more)) ≡ take len (turned start block)
kept block more start len within =
    let rest : List ℕ = drop start block in
    let there : start ≤ length block = omega (arith, within) in
    let size : len ≤ length rest = omega (arith, length-drop start block, within) in
    let all : len ≤ length (rest ++ more) = omega (arith, length-append rest more, size) in
    ap (λ (xs : List ℕ). take len (xs ++ take start (block ++ more))) (drop-append-le start block more there)
    ∙ take-append-le len (rest ++ more) (take start (block ++ more)) all ∙ take-append-le len rest more size
    ∙ sym (take-append-le len rest (take start block) size)

pub written_before : (block : List ℕ) (end capacity start len : ℕ) → IsRing block capacity start len → end ≤ capacity
    → take len (turned start (filled_to end block)) ≡ take len (turned start block)
written_before block end capacity start len ring within =
    let more : ℕ = end - length block in
    elim ring.round [
      | inl behind ↦ kept block (replicate more 0) start len behind
      | inr full ↦
          let none : more ≡ 0 = omega (arith, full, within) in
          ap (λ (n : ℕ). take len (turned start (block ++ replicate n 0))) none ∙ ap (λ (xs : List ℕ). take len (turned start xs)) (append-nil block)
    ]
