-- The gap that is looked for is the first one from where the ranges that the loop has passed end.
use Rattle.std.proofs.Common.{◌≡◌, ◌-◌, ◌≤◌, ◌^◌, drop}
use Rattle.stream_buf.specs.Scoreboard.{first_gap}
use Rattle.stream_buf.proofs.scoreboard.Scoreboard.first_gap.Given as goal

abbrev pub invariant-loop-range : goal.invariant-loop-range
invariant-loop-range l = record {
  from : l.place ≤ l.gap;
  fits : l.gap ≤ 2 ^ 32 - 1;
  rest : first_gap (drop l.range-index l.range-items) l.gap ≡ first_gap l.range-items l.place;
}
