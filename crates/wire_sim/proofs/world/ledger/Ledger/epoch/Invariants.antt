-- The openings up to the one that the walk is at decide, and this one is of the pair's chain.
use Rattle.std.proofs.Common.{◌≡◌, ℕ, ◌+◌, ◌%◌, ◌≤◌, length, take, vec_len}
use Rattle.wire_sim.specs.Openings.{epoch_of}
use Rattle.wire_sim.specs.Filing.{chain_at, pair_number}
use Rattle.wire_sim.proofs.world.ledger.Ledger.epoch.Given as goal

abbrev pub invariant-loop-front : goal.invariant-loop-front
invariant-loop-front l = record {
  same : epoch_of l.self.openings.items l.pair ≡ epoch_of (take l.front l.self.openings.items) l.pair;
  within : l.front ≤ vec_len l.self.openings;
  last : (place : ℕ) → place + 1 ≡ l.front → chain_at (length l.self.pairs.heads.items) l.self.pairs.numbers.items place ≡ pair_number l.pair % length l.self.pairs.heads.items;
}

abbrev pub decreases-loop-front : goal.decreases-loop-front
decreases-loop-front l = l.front
