-- The level that is next is the one whose nodes may be wrong.
use Rattle.std.proofs.Common.{◌<◌, ◌≤◌, length}
use Rattle.marks.specs.Tree.{keys, IsTreeBut}
use Rattle.marks.proofs.tree.renew.Given as goal

abbrev pub invariant-loop-to : goal.invariant-loop-to
invariant-loop-to l = (l.from ≤ l.to) × (l.to < length l.nodes) × IsTreeBut l.from l.to l.nodes (keys l.moments)

abbrev pub decreases-loop-to : goal.decreases-loop-to
decreases-loop-to l = l.to
