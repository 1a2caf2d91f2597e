use Rattle.std.proofs.Common.{◌≡◌, ℕ, take}
use Rattle.ladder.specs.Arrivals.{has_number}
use Rattle.ladder.specs.Ladder.{arrives_in}
use Rattle.ladder.proofs.record.Run.arrivals.Given as goal

abbrev pub invariant-loop-thing : goal.invariant-loop-thing
invariant-loop-thing l = (index : ℕ) → has_number l.arrivals index ≡ arrives_in index (take l.thing-index l.self.happened)
