use Rattle.std.proofs.Common.{inr}
use Rattle.commands.proofs.PlayLemmas.{on_err}
use Rattle.commands.proofs.LadderLemmas.{does_by}
use Rattle.commands.proofs.laddered.run_said.Goals as goal

pub returns-in_err-note_printed-clause-err : goal.returns-in_err-note_printed-clause-err
returns-in_err-note_printed-clause-err c = on_err c.from_residual-in_err-note_printed.result _ (inr (does_by _ _ _ _ _ c.in_ok-text.ensures.told.1))
