-- The words of blocks.
use Rattle.std.proofs.Common.{◌≡◌, ℕ, ◌+◌, ◌*◌, ◌/◌, ◌%◌, ◌^◌, ◌<◌, ◌≤◌, List, [], ◌∷◌, ◌++◌, length, take, get_or, refl, ◌∙◌, ap, add-one, arith}
use Rattle.std.proofs.Math.Seq.{take-suc}
use Rattle.std.proofs.lemmas.Grind.{flat_map-append}
use Rattle.byteorder.specs.Endian.{big_bytes}
use Rattle.inet_sum.specs.Sum.{word_sum, ones_complement}
use Rattle.inet_sum.proofs.Words.{word_sum-append}
use Rattle.inet_sum.proofs.Exchanging.{few_turns}
use Rattle.tcp_segment.specs.Options.{block_octets}
use Rattle.tcp_segment.specs.declared.blocks.Block.{Block}

-- a block has eight octets
pub blocks_len : (blocks : List Block) → length (block_octets blocks) ≡ 8 * length blocks
blocks_len [] = refl
blocks_len (block ∷ blocks) = omega (arith, blocks_len blocks)

-- the words of one block more
sum_with : (blocks : List Block) (block : Block) → block.left.0 < 2 ^ 32 → block.right.0 < 2 ^ 32
    → word_sum (block_octets (blocks ++ block ∷ [])) ≡ word_sum (block_octets blocks)
    + (block.left.0 / 65536 + block.left.0 % 65536 + block.right.0 / 65536 + block.right.0 % 65536)
sum_with blocks block left right =
    let octets : ℕ → List ℕ = λ n. big_bytes 4 n in
    let parts : block_octets (blocks ++ block ∷ []) ≡ block_octets blocks ++ block_octets (block ∷ []) =
    flat_map-append (λ (b : Block). big_bytes 4 b.left.0 ++ big_bytes 4 b.right.0) blocks (block ∷ []) in
    let last : word_sum (block_octets (block ∷ [])) ≡ block.left.0 / 65536 + block.left.0 % 65536 + block.right.0 / 65536 + block.right.0 % 65536 = omega (arith, left, right) in
    ap word_sum parts ∙ word_sum-append (block_octets blocks) (4 * length blocks) (block_octets (block ∷ [])) (omega (arith, blocks_len blocks))
    ∙ ap (λ (n : ℕ). word_sum (block_octets blocks) + n) last

-- a number of 32 bits counts as its two words
pub with_one : (blocks : List Block) (i words left right : ℕ) (d : Block) → i < length blocks → left ≡ (get_or blocks i d).left.0 → right ≡ (get_or blocks i d).right.0
    → left < 2 ^ 32 → right < 2 ^ 32 → words ≤ i * 2 ^ 33
    → ((more : ℕ) → ones_complement (words + more) ≡ ones_complement (word_sum (block_octets (take i blocks)) + more))
    → (words + (left + right) ≤ (i + 1) * 2 ^ 33)
    × ((more : ℕ) → ones_complement (words + (left + right) + more) ≡ ones_complement (word_sum (block_octets (take (i + 1) blocks)) + more))
with_one blocks i words left right d inside is_left is_right left_fits right_fits bound are = (omega (arith, bound, left_fits, right_fits), after)
  where
    block : Block
    block = get_or blocks i d

    before : ℕ
    before = word_sum (block_octets (take i blocks))

    turns : ℕ
    turns = left / 65536 + right / 65536

    sum : ℕ
    sum = word_sum (block_octets (take (i + 1) blocks))

    sum_is : sum ≡ before + (left / 65536 + left % 65536 + right / 65536 + right % 65536)
    sum_is =
        let parts : take (i + 1) blocks ≡ take i blocks ++ block ∷ [] = rw add-one (take-suc blocks i d inside) in
        ap (λ (xs : List Block). word_sum (block_octets xs)) parts
        ∙ sum_with (take i blocks) block (omega (arith, is_left, left_fits)) (omega (arith, is_right, right_fits))
        ∙ omega (arith, is_left, is_right)

    after : (more : ℕ) → ones_complement (words + (left + right) + more) ≡ ones_complement (sum + more)
    after more =
        let turned : words + (left + right) + more ≡ words + (left + right + more) = omega arith in
        let split : before + (left + right + more) ≡ sum + more + 65535 * turns = omega (arith, sum_is) in
        ap ones_complement turned ∙ are (left + right + more) ∙ ap ones_complement split ∙ few_turns (sum + more) turns (omega (arith, sum_is))
