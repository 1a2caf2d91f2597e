-- The places of blocks.
use Rattle.std.proofs.Common.{◌≡◌, ℕ, refl, suc, ◌+◌, ◌-◌, ◌<◌, ◌≤◌, List, [], ◌∷◌, ◌++◌, length, take, set, replicate, sym, ◌∙◌, ap, All, append_assoc, length-append, arith}
use Rattle.std.proofs.lemmas.List.{set_at, take_more_set, length-replicate}
use Rattle.std.proofs.lemmas.List.Elements.{All-push}
use Rattle.tcp_segment.specs.Blocks.{BlockFits, nothing, filled}
use Rattle.tcp_segment.specs.declared.blocks.Block.{Block}

-- a block more takes the first place without one
put : (xs : List Block) (block : Block) → length xs < 4 → set (filled xs) (length xs) block ≡ filled (xs ++ block ∷ [])
put xs block few =
    let more : 4 - length xs ≡ suc (4 - (length xs + 1)) = omega arith in
    let count : length xs + 1 ≡ length (xs ++ block ∷ []) = sym (length-append xs (block ∷ [])) in
    let rest : List Block = replicate (4 - (length xs + 1)) nothing in
    ap (λ (n : ℕ). set (xs ++ replicate n nothing) (length xs) block) more ∙ set_at xs nothing rest block (length xs) refl
    ∙ sym (append_assoc xs (block ∷ []) rest)
    ∙ ap (λ (n : ℕ). (xs ++ block ∷ []) ++ replicate (4 - n) nothing) count

-- all that is kept of the places, with one more
pub with_one : (items : List Block) (len : ℕ) (block : Block) → len < 4 → length (take len items) ≡ len → filled (take len items) ≡ items → All BlockFits (take len items)
    → BlockFits block
    → (len + 1 ≤ 4) × (length (take (len + 1) (set items len block)) ≡ len + 1) × (filled (take (len + 1) (set items len block)) ≡ set items len block)
    × All BlockFits (take (len + 1) (set items len block))
with_one items len block few count places fit fits =
    let xs : List Block = take len items in
    let all : length items ≡ length xs + (4 - length xs) =
    sym (ap length places) ∙ length-append xs (replicate (4 - length xs) nothing) ∙ ap (λ (n : ℕ). length xs + n) (length-replicate (4 - length xs) nothing) in
    let parts : take (len + 1) (set items len block) ≡ xs ++ block ∷ [] = take_more_set items len block (omega (arith, all, count)) in
    let size : length (take (len + 1) (set items len block)) ≡ len + 1 = ap length parts ∙ length-append xs (block ∷ []) ∙ ap (λ (n : ℕ). n + 1) count in
    let same : set (filled xs) (length xs) block ≡ set items len block = ap (λ (ys : List Block). set ys (length xs) block) places ∙ ap (λ (n : ℕ). set items n block) count in
    (omega arith, size, ap filled parts ∙ sym (put xs block (omega (arith, count))) ∙ same, rw parts (All-push BlockFits xs block fit fits))
