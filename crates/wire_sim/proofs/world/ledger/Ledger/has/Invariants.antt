-- The openings up to the one that the walk is at decide, and this one is of the chain.
use Rattle.std.proofs.Common.{◌≡◌, ℕ, ◌+◌, ◌%◌, ◌≤◌, length, take, vec_len}
use Rattle.std.specs.List.{list_any}
use Rattle.wire_sim.specs.Tallies.{is_opening_of}
use Rattle.wire_sim.specs.Filing.{chain_at, epoch_number}
use Rattle.wire_sim.proofs.world.ledger.Ledger.has.Given as goal

abbrev pub invariant-loop-front : goal.invariant-loop-front
invariant-loop-front l = record {
  same : list_any (is_opening_of l.side l.pair l.epoch) l.self.openings.items ≡ list_any (is_opening_of l.side l.pair l.epoch) (take l.front l.self.openings.items);
  within : l.front ≤ vec_len l.self.openings;
  last : (place : ℕ) → place + 1 ≡ l.front → chain_at (length l.self.connections.heads.items) l.self.connections.numbers.items place ≡ epoch_number l.pair l.epoch % length l.self.connections.heads.items;
}

abbrev pub decreases-loop-front : goal.decreases-loop-front
decreases-loop-front l = l.front
