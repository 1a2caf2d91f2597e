use Rattle.std.proofs.Common.{◌≡◌, ℕ, ◌+◌, ◌*◌, ◌<◌, ◌≤◌, slice_index}
use Rattle.marks.specs.Bits.{has, Summarizes}
use Rattle.marks.proofs.levels.take_out.Given as goal

abbrev pub invariant-loop-at : goal.invariant-loop-at
invariant-loop-at l = record {
  before : (k : ℕ) → k < l.fn.place → has l.words k ≡ has l.fn.words k;
  moved : (k : ℕ) → l.fn.place ≤ k → k < 64 * l.at → has l.words k ≡ has l.fn.words (k + 1);
  later : (j : ℕ) → l.at ≤ j → slice_index l.words j ≡ slice_index l.fn.words j;
  summary : Summarizes l.summary l.words;
}
