use Rattle.std.proofs.Common.{◌≡◌, ℕ, ◌-◌, ◌/◌, ◌<◌, ◌≤◌, false, length}
use Rattle.marks.specs.Bits.{has}
use Rattle.marks.proofs.words.first.Given as goal

abbrev pub invariant-loop-from : goal.invariant-loop-from
invariant-loop-from l = record {
  behind : l.fn.from ≤ l.from;
  none : (k : ℕ) → l.fn.from ≤ k → k < l.from → has l.words k ≡ false;
}

abbrev pub decreases-loop-from : goal.decreases-loop-from
decreases-loop-from l = length l.words - l.from / 64
