use Rattle.std.proofs.Common.{subst, sym}
use Rattle.commands.specs.Laddered.{HasRun, starts}
use Rattle.commands.proofs.PlayLemmas.{on_err}
use Rattle.commands.proofs.LadderLemmas.{cut_at, run_more}
use Rattle.commands.proofs.laddered.run_lines.Goals as goal

pub loop-line-init : goal.loop-line-init
loop-line-init c = subst (λ hs. HasRun c.args.world.now.seen _ hs c.args.world.now.seen) (sym c.requires) starts

pub loop-line-preserved : goal.loop-line-preserved
loop-line-preserved c =
    run_more (λ line. line.now) c.args.lines.now c.loop-line.line-index _ _ _ _ _ _ _ c.loop-line-test.true c.loop-line.invariant c.in_ok-run_line.ensures.ok.1
    c.in_ok-run_line.ensures.ok.2

pub returns-in_err-run_line-clause-err : goal.returns-in_err-run_line-clause-err
returns-in_err-run_line-clause-err c =
    on_err c.from_residual.result _
    (cut_at (λ line. line.now) c.args.lines.now c.loop-line.line-index _ _ _ _ _ c.loop-line-test.true c.loop-line.invariant c.in_err-run_line.ensures.err)
