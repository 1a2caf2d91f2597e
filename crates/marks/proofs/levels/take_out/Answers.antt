use Rattle.std.proofs.Common.{◌*◌, ◌∙◌, inl, inr, sym, arith}
use Rattle.std.proofs.lemmas.Bool.{cases_lt}
use Rattle.marks.proofs.ByPlace.{same_word}
use Rattle.marks.proofs.levels.take_out.Goals as goal

pub loop-at-preserved : goal.loop-at-preserved
loop-at-preserved c =
    let turn = c.loop-at.invariant in
    let moved = c.move_down-in-loop-at.ensures in
    record {
      before = λ k lower. moved.before k (omega arith) ∙ turn.before k lower;
      moved = λ k behind lower. elim (cases_lt k (64 * c.loop-at.at)) [
        | inl passed ↦ moved.before k (omega arith) ∙ turn.moved k behind passed
        | inr here ↦ moved.behind k (omega arith) (omega arith) ∙ same_word c.loop-at.words c.args.words.now _ (turn.later _ (omega arith))
      ];
      later = λ j further. moved.later j (omega arith) ∙ turn.later j (omega arith);
      summary = moved.summary;
    }

pub returns-clause-behind : goal.returns-clause-behind
returns-clause-behind c = λ k behind. elim (cases_lt k (64 * c.loop-at.at)) [
  | inl passed ↦ c.loop-at.invariant.moved k behind passed
  | inr further ↦ (
      same_word c.loop-at.words c.args.words.now k (c.loop-at.invariant.later _ (omega arith))
      ∙ c.requires.clear k (omega arith)
      ∙ sym (c.requires.clear _ (omega arith))
      )
]
