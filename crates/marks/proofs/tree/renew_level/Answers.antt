-- One node more is put right.
use Rattle.std.proofs.Common.{arith}
use Rattle.marks.specs.Tree.{keys}
use Rattle.marks.proofs.Leasts.{renewed_next}
use Rattle.marks.proofs.tree.renew_level.Goals as goal

pub loop-node-preserved : goal.loop-node-preserved
loop-node-preserved c =
    renewed_next c.loop-node.node c.args.to _ _ c.loop-node.nodes (keys c.args.moments.now) c.least_below.result (omega arith) (omega arith) (omega arith) c.least_below.ensures c.loop-node.invariant
