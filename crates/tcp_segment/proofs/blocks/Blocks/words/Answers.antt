use Rattle.std.proofs.Common.{arith}
use Rattle.tcp_segment.proofs.BlockWords.{with_one}
use Rattle.tcp_segment.proofs.blocks.Blocks.words.Goals as goal

pub loop-block-preserved : goal.loop-block-preserved
loop-block-preserved c =
    with_one c.as_slice-block-items.result.now c.loop-block.block-index c.loop-block.words c.from.result c.from-in-loop-block.result _
    (omega arith) c.from.ensures c.from-in-loop-block.ensures (omega arith) (omega arith) c.loop-block.invariant.0 c.loop-block.invariant.1
