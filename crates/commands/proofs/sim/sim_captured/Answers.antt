use Rattle.commands.specs.declared.sim.Ends.{Ends}
use Rattle.commands.proofs.SimLemmas.{due_ran}
use Rattle.commands.proofs.RunLemmas.{as_printed, none_told_all, no_write_before, no_write_in_line, run_by, told_by}
use Rattle.commands.proofs.sim.sim_captured.Goals as goal

pub returns-in_err-octets-clause-printed : goal.returns-in_err-octets-clause-printed
returns-in_err-octets-clause-printed g c =
    none_told_all _ c.from_residual.result _ _ c.from_residual.ensures.1 (no_write_before _ c.in_err-octets.ensures.faults)

pub returns-in_err-script-clause-printed : goal.returns-in_err-script-clause-printed
returns-in_err-script-clause-printed g c =
    none_told_all _ c.from_residual-in_err-script.result _ _ c.from_residual-in_err-script.ensures.1
    (no_write_in_line _ _ c.in_err-script.ensures.bad)

pub returns-clause-due : goal.returns-clause-due
returns-clause-due g c =
    due_ran _ c.in_ok-octets.octets.items c.run-run.result c.in_ok-octets.ensures.all c.in_ok-octets.ensures.short
    (rw c.as_slice.ensures.value at c.in_ok-script.ensures.good) c.run-run.ensures.faults

pub returns-clause-printed : goal.returns-clause-printed
returns-clause-printed g c =
    told_by _ c.in_ok-octets.octets.items c.run-run.result _ _ _ _ c.in_ok-octets.ensures.all
    (rw c.as_slice.ensures.value at c.in_ok-script.ensures.commands) (rw c.as_slice.ensures.value at c.in_ok-script.ensures.setting)
    (as_printed _ _ _ _ _ _ c.run-run.ensures.printed)

pub returns-clause-told : goal.returns-clause-told
returns-clause-told g c =
    let ends : Ends = record { run = c.run-run.result; capture = c.record-capture.result } in
    run_by _ c.in_ok-octets.octets.items ends _ _ c.run-run.new.world.seen _ _ _ _ c.in_ok-octets.ensures.all
    (rw c.as_slice.ensures.value at c.in_ok-script.ensures.commands) (rw c.as_slice.ensures.value at c.in_ok-script.ensures.setting)
    c.run-run.ensures.printed c.record-capture.ensures.taken
