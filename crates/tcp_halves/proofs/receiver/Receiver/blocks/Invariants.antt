-- The blocks are those of the ranges that the loop has passed: of those with the octet of the latest segment, and behind these of the others from the last on.
use Rattle.std.proofs.Common.{◌≡◌, ℕ, ◌≤◌, Bool, not, length}
use Rattle.stream_buf.specs.declared.ranges.Range.{Range}
use Rattle.tcp_halves.specs.Blocks.{block_of, has_place}
use Rattle.tcp_halves.proofs.Gathered.{front_at, both_at}
use Rattle.tcp_halves.proofs.receiver.Receiver.blocks.Given as goal

abbrev pub lacks_place : ℕ → Range → Bool
lacks_place place r = not (has_place place r)

abbrev pub invariant-loop-range : goal.invariant-loop-range
invariant-loop-range l = l.blocks ≡ front_at (block_of l.self-inside.rnext.0) (has_place l.place) (lacks_place l.place) l.ranges l.range-index

abbrev pub invariant-loop-index : goal.invariant-loop-index
invariant-loop-index l = record {
  within : l.index ≤ length l.ranges;
  gathered : l.blocks ≡ both_at (block_of l.self-inside.rnext.0) (has_place l.place) (lacks_place l.place) l.ranges l.index;
}
