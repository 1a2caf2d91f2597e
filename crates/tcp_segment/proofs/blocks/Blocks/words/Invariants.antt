use Rattle.std.proofs.Common.{◌≡◌, ◌+◌, ◌*◌, ◌≤◌, ◌^◌, ℕ, take}
use Rattle.inet_sum.specs.Sum.{word_sum, ones_complement}
use Rattle.tcp_segment.specs.Options.{block_octets}
use Rattle.tcp_segment.proofs.blocks.Blocks.words.Given as goal

-- the words are those of the blocks so far
abbrev pub invariant-loop-block : goal.invariant-loop-block
invariant-loop-block l =
    (l.words ≤ l.block-index * 2 ^ 33)
    × ((more : ℕ) → ones_complement (l.words + more) ≡ ones_complement (word_sum (block_octets (take l.block-index l.block-items)) + more))
