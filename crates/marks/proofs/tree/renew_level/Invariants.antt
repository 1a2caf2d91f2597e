-- The nodes behind are right, and those above may be wrong.
use Rattle.std.proofs.Common.{◌/◌}
use Rattle.marks.specs.Tree.{keys}
use Rattle.marks.proofs.Leasts.{IsRenewed}
use Rattle.marks.proofs.tree.renew_level.Given as goal

abbrev pub invariant-loop-node : goal.invariant-loop-node
invariant-loop-node l = IsRenewed l.node l.to (l.from / 2) (l.to / 2) l.nodes (keys l.moments)
