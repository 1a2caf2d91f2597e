use Rattle.commands.proofs.PlayLemmas.{on_err}
use Rattle.commands.proofs.LadderLemmas.{cut_first, cut_last}
use Rattle.commands.proofs.laddered.drawn.Goals as goal

pub returns-in_err-lines-clause-err : goal.returns-in_err-lines-clause-err
returns-in_err-lines-clause-err c = on_err c.from_residual.result _ (cut_first _ _)

pub returns-clause-err : goal.returns-clause-err
returns-clause-err c =
    on_err c.ladder.result _ (cut_last _ _ _ _ (rw (c.as_slice.ensures.value, c.in_ok-lines.ensures) at c.in_ok-run_lines.ensures.ok))
