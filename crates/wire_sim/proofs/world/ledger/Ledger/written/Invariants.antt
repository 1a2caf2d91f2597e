-- The openings up to the one that the walk is at decide, and else the count that was found last.
use Rattle.std.proofs.Common.{◌≡◌, ℕ, ◌+◌, ◌%◌, ◌≤◌, length, take, vec_len}
use Rattle.wire_sim.specs.Tallies.{written_by}
use Rattle.wire_sim.specs.Filing.{chain_at, epoch_number}
use Rattle.wire_sim.proofs.counts.CountFound.{written_or}
use Rattle.wire_sim.proofs.world.ledger.Ledger.written.Given as goal

abbrev pub invariant-loop-front : goal.invariant-loop-front
invariant-loop-front l = record {
  same : written_by l.self.openings.items l.self.written.items l.side l.pair l.epoch ≡ written_or (take l.front l.self.openings.items) l.self.written.items l.side l.pair l.epoch l.octets;
  within : l.front ≤ vec_len l.self.openings;
  last : (place : ℕ) → place + 1 ≡ l.front → chain_at (length l.self.connections.heads.items) l.self.connections.numbers.items place ≡ epoch_number l.pair l.epoch % length l.self.connections.heads.items;
}

abbrev pub decreases-loop-front : goal.decreases-loop-front
decreases-loop-front l = l.front
