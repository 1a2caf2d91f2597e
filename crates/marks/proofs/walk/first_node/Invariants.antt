-- None has come so far.
use Rattle.std.proofs.Common.{◌-◌}
use Rattle.marks.specs.Tree.{keys}
use Rattle.marks.specs.Walk.{IsReached}
use Rattle.marks.proofs.walk.first_node.Given as goal

abbrev pub invariant-loop-node : goal.invariant-loop-node
invariant-loop-node l = IsReached l.nodes (keys l.moments) l.now l.from l.node l.end

abbrev pub decreases-loop-node : goal.decreases-loop-node
decreases-loop-node l = l.end - l.node
