-- A node is put right, or is so already.
use Rattle.std.proofs.Common.{◌∙◌, arith, length-set}
use Rattle.std.proofs.lemmas.List.{get_or_default}
use Rattle.marks.specs.Tree.{never, keys}
use Rattle.marks.proofs.Leasts.{at-node, climbed, stopped}
use Rattle.marks.proofs.tree.climb.Goals as goal

pub returns-then-nodes-node : goal.returns-then-nodes-node
returns-then-nodes-node c =
    let nodes = c.loop-node.nodes in
    let leaves = keys c.args.moments.now in
    let node = c.loop-node.node in
    stopped nodes leaves node
    (at-node nodes leaves node c.loop-node.invariant.0 ∙ get_or_default nodes node never _ c.loop-node.invariant.0 ∙ c.if-nodes-node.true ∙ c.least_below-least.ensures)
    c.loop-node.invariant.1

pub loop-node-preserved : goal.loop-node-preserved
loop-node-preserved c = (
  omega (arith, length-set c.loop-node.nodes c.loop-node.node c.least_below-least.result),
  climbed c.loop-node.nodes (keys c.args.moments.now) c.loop-node.node c.least_below-least.result (omega arith) c.loop-node.invariant.0 c.least_below-least.ensures c.loop-node.invariant.1,
)
