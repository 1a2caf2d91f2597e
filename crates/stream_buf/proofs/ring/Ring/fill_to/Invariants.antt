-- Filler stands behind the octets, and no further than the place.
use Rattle.std.proofs.Common.{◌≡◌, ◌-◌, ◌≤◌, ◌++◌, max, length, replicate}
use Rattle.stream_buf.specs.Ring.{buffer}
use Rattle.stream_buf.proofs.ring.Ring.fill_to.Given as goal

abbrev pub invariant-loop-self : goal.invariant-loop-self
invariant-loop-self l = record {
  filled : l.self ≡ buffer (l.initial.self.items ++ replicate (length l.self.items - length l.initial.self.items) 0) l.initial.self.capacity;
  more : length l.initial.self.items ≤ length l.self.items;
  most : length l.self.items ≤ max l.len (length l.initial.self.items);
}

abbrev pub decreases-loop-self : goal.decreases-loop-self
decreases-loop-self l = l.len - length l.self.items
