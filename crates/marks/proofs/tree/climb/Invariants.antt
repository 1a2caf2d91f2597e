-- The node that is next is the one that may be wrong.
use Rattle.std.proofs.Common.{◌<◌, length}
use Rattle.marks.specs.Tree.{keys, IsTreeBut}
use Rattle.marks.proofs.tree.climb.Given as goal

abbrev pub invariant-loop-node : goal.invariant-loop-node
invariant-loop-node l = (l.node < length l.nodes) × IsTreeBut l.node l.node l.nodes (keys l.moments)

abbrev pub decreases-loop-node : goal.decreases-loop-node
decreases-loop-node l = l.node
