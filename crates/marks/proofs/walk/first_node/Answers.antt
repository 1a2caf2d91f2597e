-- Nodes that have not come are passed by.
use Rattle.std.proofs.Common.{◌+◌, ◌<◌, arith}
use Rattle.marks.specs.Tree.{keys, at_place}
use Rattle.marks.proofs.Comings.{found_node, reached_above, reached_first, reached_next}
use Rattle.marks.proofs.walk.first_node.Goals as goal

pub loop-node-init : goal.loop-node-init
loop-node-init c = reached_first c.args.nodes.now (keys c.args.moments.now) c.args.now c.args.from c.requires.even c.requires.within

pub returns-then-at_place-now : goal.returns-then-at_place-now
returns-then-at_place-now c =
    found_node c.args.nodes.now (keys c.args.moments.now) c.args.now c.requires.tree c.args.from c.loop-node.node c.loop-node.end c.loop-node.invariant c.loop-node-test.true (omega arith)

pub loop-node-preserved-then-node-eq0 : goal.loop-node-preserved-then-node-eq0
loop-node-preserved-then-node-eq0 c =
    let nodes = c.args.nodes.now in
    let leaves = keys c.args.moments.now in
    let not_yet : c.args.now < at_place nodes leaves c.loop-node.node = omega arith in
    reached_above nodes leaves c.args.now c.requires.tree c.args.from (c.loop-node.node + 1) c.loop-node.end (omega arith) c.if-node-eq0.true
    (reached_next nodes leaves c.args.now c.requires.tree c.args.from c.loop-node.node c.loop-node.end c.loop-node.invariant c.loop-node-test.true not_yet)

pub loop-node-preserved : goal.loop-node-preserved
loop-node-preserved c =
    reached_next c.args.nodes.now (keys c.args.moments.now) c.args.now c.requires.tree c.args.from c.loop-node.node c.loop-node.end c.loop-node.invariant c.loop-node-test.true (omega arith)
