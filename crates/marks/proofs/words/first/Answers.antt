use Rattle.std.proofs.Common.{◌≤◌, ◌/◌, ◌+◌, inl, inr, arith}
use Rattle.std.proofs.lemmas.Bool.{cases_lt}
use Rattle.marks.proofs.ByPlace.{none_past, none_in_zero}
use Rattle.marks.proofs.words.first.Goals as goal

pub loop-from-preserved : goal.loop-from-preserved
loop-from-preserved c =
    let ahead : c.loop-from.from / 64 + 1 ≤ c.next_marked-from.result = c.next_marked-from.ensures.behind in
    record {
      behind = omega (arith, ahead, c.loop-from.invariant.behind);
      none = λ k behind lower. elim (cases_lt k c.loop-from.from) [
        | inl passed ↦ c.loop-from.invariant.none k behind passed
        | inr further ↦ elim (cases_lt (c.loop-from.from / 64) (k / 64)) [
          | inl later ↦ none_in_zero c.args.words.now k (c.next_marked-from.ensures.passed (k / 64) (omega arith) (omega arith))
          | inr same ↦ c.in_default.ensures k further (omega arith)
        ]
      ];
    }

pub returns : goal.returns
returns c = λ k behind. elim (cases_lt k c.loop-from.from) [
  | inl passed ↦ c.loop-from.invariant.none k behind passed
  | inr further ↦ none_past c.args.words.now k (omega arith)
]
