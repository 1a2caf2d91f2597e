use Rattle.std.proofs.Common.{◌≡◌, false, [], None, length}
use Rattle.tcp_segment.proofs.Walk.{told_behind}
use Rattle.tcp_segment.proofs.options.walk.Given as goal

-- what is left to read tells what the whole tells
abbrev pub invariant-loop-rest : goal.invariant-loop-rest
invariant-loop-rest l = told_behind l.rest l.told ≡ told_behind l.options (record { mss = None; scale = None; sacks = false; blocks = [] })

abbrev pub decreases-loop-rest : goal.decreases-loop-rest
decreases-loop-rest l = length l.rest
