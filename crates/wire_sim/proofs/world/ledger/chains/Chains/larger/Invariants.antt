-- The numbers that the loop has passed are filed.
use Rattle.std.proofs.Common.{◌≡◌, take, vec_capacity}
use Rattle.wire_sim.proofs.world.ledger.chains.Chains.larger.Given as goal

abbrev pub invariant-loop-number : goal.invariant-loop-number
invariant-loop-number l = record { numbers : l.larger.numbers.items ≡ take l.number-index l.self.numbers.items; room : vec_capacity l.larger.numbers ≡ l.room }
