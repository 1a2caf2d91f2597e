use Rattle.std.proofs.Common.{refl, ap, ◌∙◌, Err}
use Rattle.commands.proofs.SimLemmas.{err_passed}
use Rattle.commands.proofs.PlayLemmas.{played_none, played_more, cut_by_memory, cut_at_line}
use Rattle.commands.proofs.sim.play.Goals as goal

pub loop-command-init : goal.loop-command-init
loop-command-init g c = record { failures = refl; played = played_none _ _ _ }

pub loop-command-preserved : goal.loop-command-preserved
loop-command-preserved g c = record {
  failures = c.in_ok-add_line.ensures.written ∙ c.loop-command.invariant.failures;
  played = played_more _ _ _ _ _ c.command-item.result _ _ _ _ _ _ _ c.loop-command-test.true c.command-item.is c.loop-command.invariant.played c.in_ok-line.ensures.printed
      (rw c.as_str.ensures.value at c.in_ok-add_line.ensures.added);
}

pub returns-in_err-line-clause-cut : goal.returns-in_err-line-clause-cut
returns-in_err-line-clause-cut g c =
    err_passed _ c.from_residual.result _ c.from_residual.ensures.1 (cut_by_memory _ _ _ _ _ c.command-item.result _ _ _ _ _ _ _ refl refl refl c.loop-command-test.true c.command-item.is c.in_err-line.ensures.left
    c.loop-command.invariant.played)

pub returns-in_err-add_line-clause-cut : goal.returns-in_err-add_line-clause-cut
returns-in_err-add_line-clause-cut g c =
    err_passed _ c.from_residual-in_err-add_line.result c.in_err-add_line.field-0.0 c.from_residual-in_err-add_line.ensures.1
    (cut_at_line _ _ _ _ _ c.command-item.result _ _ _ _ _ _ _ c.in_err-add_line.field-0.0 c.loop-command-test.true c.command-item.is c.loop-command.invariant.played
    c.in_ok-line.ensures.printed c.in_err-add_line.ensures.faults (λ sink. rw c.as_str.ensures.value at c.in_err-add_line.ensures.cut (ap Err sink)))
