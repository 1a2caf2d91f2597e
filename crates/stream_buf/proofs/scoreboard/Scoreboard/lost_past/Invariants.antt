-- The ranges that the loop has passed, from the last one back, tell of no loss.
use Rattle.std.proofs.Common.{◌≡◌, ◌≤◌, length, take, reverse}
use Rattle.stream_buf.specs.Ranges.{covered}
use Rattle.stream_buf.proofs.scoreboard.Scoreboard.lost_past.Given as goal

abbrev pub invariant-loop-range : goal.invariant-loop-range
invariant-loop-range l = record {
  past : l.past ≡ length l.yielded;
  there : l.past ≤ length l.self;
  few : l.past ≤ l.few;
  octets : l.octets ≡ covered (take l.past (reverse l.self));
  little : l.octets ≤ l.most;
}
