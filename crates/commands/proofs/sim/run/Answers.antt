use Rattle.std.proofs.Common.{refl, sym}
use Rattle.commands.proofs.RunLemmas.{nothing_run, told_cut, told_all, told_front, is_write, is_no_write}
use Rattle.commands.proofs.sim.run.Goals as goal

pub returns-in_err-lines-clause-printed : goal.returns-in_err-lines-clause-printed
returns-in_err-lines-clause-printed g c = nothing_run c.from_residual.result _ _ _ _ _ c.from_residual.ensures.1 refl c.requires

pub returns-then-is_write_fault-clause-printed : goal.returns-then-is_write_fault-clause-printed
returns-then-is_write_fault-clause-printed g c =
    told_cut c.play-outcome.result _ _ c.args.world.now.seen c.play-outcome.new.world.seen _ _ _ _ c.requires c.in_ok-lines.ensures
    (is_write _ (sym c.if-is_write_fault.ensures)) (rw c.as_slice.ensures.value at c.play-outcome.ensures.cut)

pub returns-in_err-finish-clause-printed : goal.returns-in_err-finish-clause-printed
returns-in_err-finish-clause-printed g c =
    told_front c.play-outcome.result c.from_residual-in_err-finish.result _ _ _ c.args.world.now.seen c.play-outcome.new.world.seen _ _ _ _ _ c.requires c.in_ok-lines.ensures
    (is_no_write _ (sym c.if-is_write_fault.ensures)) (rw c.as_slice.ensures.value at c.play-outcome.ensures.played) (rw c.as_slice.ensures.value at c.play-outcome.ensures.cut)
    c.from_residual-in_err-finish.ensures.1 c.in_err-finish.ensures.faults

pub returns-clause-printed : goal.returns-clause-printed
returns-clause-printed g c =
    told_all c.play-outcome.result _ _ c.args.world.now.seen c.play-outcome.new.world.seen _ _ _ _ _ c.requires c.in_ok-lines.ensures
    (is_no_write _ (sym c.if-is_write_fault.ensures)) (rw c.as_slice.ensures.value at c.play-outcome.ensures.played) (rw c.as_slice.ensures.value at c.play-outcome.ensures.cut)
    c.in_ok-finish.ensures.taken
