-- The octets are counted beside the openings of the socket that the walk has passed.
use Rattle.std.proofs.Common.{◌≡◌, ℕ, ◌+◌, ◌%◌, ◌<◌, ◌≤◌, ◌^◌, get_or, length, take}
use Rattle.wire_sim.specs.Tallies.{counts_after}
use Rattle.wire_sim.specs.Filing.{chain_at}
use Rattle.wire_sim.proofs.world.ledger.count.Given as goal

abbrev pub invariant-loop-front : goal.invariant-loop-front
invariant-loop-front l = record {
  same : counts_after (take l.front l.openings) l.written l.side l.id l.octets ≡ counts_after l.openings l.initial.written l.side l.id l.octets;
  len : length l.written ≡ length l.openings;
  within : l.front ≤ length l.openings;
  below : (i : ℕ) → i < l.front → get_or l.written i 0 < 2 ^ 127;
  last : (place : ℕ) → place + 1 ≡ l.front → chain_at (length l.sockets.heads.items) l.sockets.numbers.items place ≡ l.id.0 % length l.sockets.heads.items;
}

abbrev pub decreases-loop-front : goal.decreases-loop-front
decreases-loop-front l = l.front
