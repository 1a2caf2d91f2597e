-- What is left to take off are the places of the ranges that the loop has not come to.
use Rattle.std.proofs.Common.{◌≡◌, ◌-◌, ◌≤◌, drop}
use Rattle.stream_buf.proofs.Stepping.{below}
use Rattle.stream_buf.proofs.scoreboard.Scoreboard.unreported.Given as goal

abbrev pub invariant-loop-range : goal.invariant-loop-range
invariant-loop-range l = record {
  most : l.count ≤ l.place;
  fits : below l.place (drop l.range-index l.range-items) ≤ l.count;
  rest : l.count - below l.place (drop l.range-index l.range-items) ≡ l.place - below l.place l.range-items;
}
