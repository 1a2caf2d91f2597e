-- None of the ranges that the loop has passed begins past the place.
use Rattle.std.proofs.Common.{◌≡◌, drop}
use Rattle.stream_buf.specs.Scoreboard.{gap_len}
use Rattle.stream_buf.proofs.scoreboard.Scoreboard.gap_len.Given as goal

abbrev pub invariant-loop-range : goal.invariant-loop-range
invariant-loop-range l = gap_len (drop l.range-index l.range-items) l.place l.most ≡ gap_len l.range-items l.place l.most
