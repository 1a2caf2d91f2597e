use Rattle.std.proofs.Common.{◌≡◌, ◌*◌, ◌++◌, take, drop}
use Rattle.tcp_segment.specs.Options.{block_octets}
use Rattle.tcp_segment.proofs.blocks.Blocks.write.Given as goal

-- the blocks so far are written
abbrev pub invariant-loop-block : goal.invariant-loop-block
invariant-loop-block l = (l.at ≡ 8 * l.block-index) × (l.out ≡ block_octets (take l.block-index l.block-items) ++ drop l.at l.initial.out)
