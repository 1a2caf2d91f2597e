use Rattle.std.proofs.Common.{◌*◌, ◌≤◌, take}
use Rattle.inet_sum.specs.Lanes.{AreTotals, total_of}
use Rattle.inet_sum.proofs.lanes.words_of.Given as goal

abbrev pub invariant-loop-i : goal.invariant-loop-i
invariant-loop-i l = record {
  totals : AreTotals (total_of l.totals) (60 * l.i) (take (480 * l.i) l.part);
  carries : l.totals.carries ≤ 2 * l.i;
}
