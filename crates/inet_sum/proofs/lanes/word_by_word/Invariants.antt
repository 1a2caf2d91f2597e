use Rattle.std.proofs.Common.{◌≡◌, ◌+◌, ◌*◌, ◌^◌, ◌≤◌, length}
use Rattle.inet_sum.specs.Lanes.{wide_sum}
use Rattle.inet_sum.proofs.lanes.word_by_word.Given as goal

abbrev pub invariant-loop-rest : goal.invariant-loop-rest
invariant-loop-rest l = (l.total + wide_sum l.rest ≡ wide_sum l.octets) × (l.total + 2 ^ 32 * length l.rest ≤ 2 ^ 32 * length l.octets)

abbrev pub decreases-loop-rest : goal.decreases-loop-rest
decreases-loop-rest l = length l.rest
