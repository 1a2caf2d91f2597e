-- The node still is one below which the first lies.
use Rattle.std.proofs.Common.{ℕ, ◌-◌, length}
use Rattle.marks.specs.Tree.{keys}
use Rattle.marks.specs.Walk.{LiesBelow}
use Rattle.marks.proofs.walk.first_leaf.Given as goal

abbrev pub invariant-loop-node : goal.invariant-loop-node
invariant-loop-node l = ((from : ℕ) × LiesBelow l.nodes (keys l.moments) l.now from l.node) × ((from : ℕ) → LiesBelow l.nodes (keys l.moments) l.now from l.top → LiesBelow l.nodes (keys l.moments) l.now from l.node)

abbrev pub decreases-loop-node : goal.decreases-loop-node
decreases-loop-node l = length l.nodes - l.node
