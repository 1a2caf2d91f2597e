use Rattle.std.proofs.Common.{inr, refl}
use Rattle.std.proofs.lemmas.Result.{IfOk-weaker}
use Rattle.commands.proofs.PlayLemmas.{on_err}
use Rattle.commands.proofs.laddered.round.Goals as goal

pub returns-in_err-note_since-clause-left : goal.returns-in_err-note_since-clause-left
returns-in_err-note_since-clause-left c = on_err c.from_residual-in_err-note_since.result _ (inr (c.in_ok-told.told, c.in_ok-told.ensures.came))

pub returns-clause-left : goal.returns-clause-left
returns-clause-left c = on_err c.text_of_round.result _ (inr (c.in_ok-told.told, c.in_ok-told.ensures.came))

pub returns-clause-told : goal.returns-clause-told
returns-clause-told c =
    IfOk-weaker c.text_of_round.result _ _ (λ t text. (_, (c.in_ok-told.told, c.in_ok-told.ensures.came, refl, text), rw c.trace-before.ensures.trace at (rw c.trace.ensures.trace at c.in_ok-note_since.ensures))) c.text_of_round.ensures
