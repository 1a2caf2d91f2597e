-- What the ranges that are left make with what was joined, from the place on.
use Rattle.std.proofs.Common.{◌≡◌, ◌+◌, ◌≤◌, ◌++◌, length, take, drop}
use Rattle.stream_buf.specs.Ranges.{with_range}
use Rattle.stream_buf.proofs.ranges.gather.Given as goal

abbrev pub invariant-loop : goal.invariant-loop
invariant-loop l = record {
  place : l.place ≤ length l.list.items;
  passed : length l.list.items + l.counter ≡ length l.initial.list.items + l.place;
  joined : with_range l.fn.list.items l.fn.new ≡ take l.place l.list.items ++ with_range (drop l.place l.list.items) l.joined;
  first : l.fn.new.start ≡ 0 → (l.place ≡ 0) × (l.joined.start ≡ 0);
}
