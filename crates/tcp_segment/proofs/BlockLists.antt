-- The blocks that are read are those that are spelled.
use Rattle.std.proofs.Common.{◌≡◌, ℕ, zero, suc, ◌+◌, ◌*◌, ◌/◌, ◌%◌, ◌<◌, ◌≤◌, true, nat_eq, nat_lt, nat_le, Some, List, [], ◌∷◌, ◌++◌, length, drop, take, All, refl, sym, ◌∙◌, ap, add-one, arith}
use Rattle.std.proofs.lemmas.List.{drop-drop, take_all}
use Rattle.std.proofs.lemmas.Bool.Decides.{nat_tests}
use Rattle.std.proofs.lemmas.List.Elements.{All-head, All-tail}
use Rattle.byteorder.specs.Endian.{big_bytes, big_number}
use Rattle.tcp_segment.specs.Blocks.{BlockFits}
use Rattle.tcp_segment.specs.Options.{block_octets, block_in, blocks_at, blocks_in}
use Rattle.tcp_segment.proofs.BlockWords.{blocks_len}
use Rattle.tcp_segment.specs.declared.blocks.Block.{Block}

-- of no blocks all fit
pub none_fit : All BlockFits []
none_fit k block below = absurd (omega (arith, below))

-- one block more is read behind the others
blocks_more : (n : ℕ) (octets : List ℕ) → blocks_at (suc n) octets ≡ blocks_at n octets ++ block_in (drop (8 * n) octets) ∷ []
blocks_more zero octets = refl
blocks_more (suc n) octets =
    let further : 8 + 8 * n ≡ 8 * suc n = omega arith in
    ap (λ (blocks : List Block). block_in octets ∷ blocks)
    (blocks_more n (drop 8 octets) ∙ ap (λ (rest : List ℕ). blocks_at n (drop 8 octets) ++ block_in rest ∷ []) (drop-drop (8 * n) 8 octets ∙ ap (λ (k : ℕ). drop k octets) further))

blocks_count : (n : ℕ) (octets : List ℕ) → length (blocks_at n octets) ≡ n
blocks_count zero octets = refl
blocks_count (suc n) octets = omega (arith, blocks_count n (drop 8 octets))

-- a block is put behind those that are read
pub pushed : (n : ℕ) (octets : List ℕ) (was now : List Block) (block : Block) → n < 4 → was ≡ blocks_at n octets → block ≡ block_in (drop (8 * n) octets)
    → now ≡ take 4 (was ++ block ∷ []) → now ≡ blocks_at (n + 1) octets
pushed n octets was now block few is is_block is_now =
    let whole : was ++ block ∷ [] ≡ blocks_at (suc n) octets =
    ap (λ (blocks : List Block). blocks ++ block ∷ []) is ∙ ap (λ (b : Block). blocks_at n octets ++ b ∷ []) is_block ∙ sym (blocks_more n octets) in
    is_now ∙ ap (take 4) whole ∙ take_all 4 (blocks_at (suc n) octets) (omega (arith, blocks_count (suc n) octets)) ∙ ap (λ (k : ℕ). blocks_at k octets) (sym (add-one n))

-- a block is read as it is spelled
block_back : (block : Block) (rest : List ℕ) → BlockFits block → block_in ((big_bytes 4 block.left.0 ++ big_bytes 4 block.right.0) ++ rest) ≡ block
block_back block rest fits =
    let left : big_number 4 ((big_bytes 4 block.left.0 ++ big_bytes 4 block.right.0) ++ rest) ≡ block.left.0 = omega (arith, fits.left) in
    let right : big_number 4 (drop 4 ((big_bytes 4 block.left.0 ++ big_bytes 4 block.right.0) ++ rest)) ≡ block.right.0 = omega (arith, fits.right) in
    ap (λ (n : ℕ). let b : Block = record { left = record { 0 = n }; right = record { 0 = big_number 4 (drop 4 ((big_bytes 4 block.left.0 ++ big_bytes 4 block.right.0) ++ rest)) } } in b) left
    ∙ ap (λ (n : ℕ). let b : Block = record { left = block.left; right = record { 0 = n } } in b) right

pub blocks_back : (blocks : List Block) → All BlockFits blocks → blocks_at (length blocks) (block_octets blocks) ≡ blocks
blocks_back [] fit = refl
blocks_back (block ∷ blocks) fit =
    let octets : List ℕ = big_bytes 4 block.left.0 ++ big_bytes 4 block.right.0 in
    let rest : drop 8 (octets ++ block_octets blocks) ≡ block_octets blocks = refl in
    ap (λ (b : Block). b ∷ blocks_at (length blocks) (block_octets blocks)) (block_back block (block_octets blocks) (All-head BlockFits block blocks fit))
    ∙ ap (λ (others : List Block). block ∷ others) (blocks_back blocks (All-tail BlockFits block blocks fit))

-- the body of an option that reports blocks is read so
pub sack_read : (blocks : List Block) → 0 < length blocks → length blocks ≤ 4 → All BlockFits blocks → blocks_in (block_octets blocks) ≡ Some blocks
sack_read blocks some few fit =
    let len : length (block_octets blocks) ≡ 8 * length blocks = blocks_len blocks in
    let whole : nat_eq (length (block_octets blocks) % 8) 0 ≡ true = grind (arith, nat_tests, len) in
    let long : nat_lt 0 (length (block_octets blocks)) ≡ true = grind (arith, nat_tests, len, some) in
    let short : nat_le (length (block_octets blocks)) 32 ≡ true = grind (arith, nat_tests, len, few) in
    let count : length (block_octets blocks) / 8 ≡ length blocks = omega (arith, len) in
    rw (whole, long, short, count) (ap Some (blocks_back blocks fit))
