-- The ranges that the loop has passed are told from the further place.
use Rattle.std.proofs.Common.{◌≡◌, ◌++◌, map, take, drop}
use Rattle.stream_buf.specs.Ranges.{nearer}
use Rattle.stream_buf.proofs.ranges.move_nearer.Given as goal

abbrev pub invariant-loop-range : goal.invariant-loop-range
invariant-loop-range l = l.ranges ≡ map (nearer l.count) (take l.range-index l.initial.ranges) ++ drop l.range-index l.initial.ranges
