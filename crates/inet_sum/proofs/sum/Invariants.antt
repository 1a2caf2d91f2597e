use Rattle.std.proofs.Common.{◌≡◌, ◌+◌, ◌<◌, ◌^◌, length}
use Rattle.inet_sum.specs.Sum.{ones_complement}
use Rattle.inet_sum.specs.Lanes.{wide_sum}
use Rattle.inet_sum.proofs.sum.Given as goal

abbrev pub invariant-loop-rest : goal.invariant-loop-rest
invariant-loop-rest l = (ones_complement (l.total + wide_sum l.rest) ≡ ones_complement (wide_sum l.octets)) × (l.total < 2 ^ 16)

abbrev pub decreases-loop-rest : goal.decreases-loop-rest
decreases-loop-rest l = length l.rest
