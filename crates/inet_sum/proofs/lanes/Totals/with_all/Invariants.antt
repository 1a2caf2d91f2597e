use Rattle.std.specs.Int.{from_bool}
use Rattle.std.proofs.Common.{◌≡◌, ℕ, ◌+◌, ◌*◌, List, ◌++◌, take}
use Rattle.inet_sum.specs.Lanes.{AreTotals, total_of}
use Rattle.inet_sum.proofs.lanes.Totals.with_all.Given as goal

abbrev pub invariant-loop-i : goal.invariant-loop-i
invariant-loop-i l = record {
  totals : (count : ℕ) (before : List ℕ) → AreTotals (total_of l.fn.self) count before
      → AreTotals (total_of l.totals + from_bool l.carry) (count + 4 * l.i) (before ++ take (32 * l.i) l.blocks);
  carries : l.totals.carries ≡ l.fn.self.carries;
}
