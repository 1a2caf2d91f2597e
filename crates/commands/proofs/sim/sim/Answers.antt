use Rattle.std.proofs.Common.{refl}
use Rattle.commands.proofs.SimLemmas.{passed_on, due_bad, due_ran, bad_is_no_device, ran_is_no_read, not_silent}
use Rattle.commands.proofs.RunLemmas.{as_printed, none_told_by, no_write_before, no_write_in_line, told_by}
use Rattle.commands.proofs.sim.sim.Goals as goal

pub returns-in_err-octets-clause-due : goal.returns-in_err-octets-clause-due
returns-in_err-octets-clause-due g c = rw (passed_on _ _ c.from_residual.ensures.1) c.in_err-octets.ensures.due

pub returns-in_err-script-clause-read : goal.returns-in_err-script-clause-read
returns-in_err-script-clause-read g c =
    rw (passed_on _ _ c.from_residual-in_err-script.ensures.1)
    (rw ((bad_is_no_device c.as_slice.result.now _ c.in_err-script.ensures.bad).0) c.in_ok-octets.ensures.read)

pub returns-in_err-script-clause-written : goal.returns-in_err-script-clause-written
returns-in_err-script-clause-written g c =
    rw (passed_on _ _ c.from_residual-in_err-script.ensures.1)
    (rw ((bad_is_no_device c.as_slice.result.now _ c.in_err-script.ensures.bad).1) refl)

pub returns-in_err-script-clause-due : goal.returns-in_err-script-clause-due
returns-in_err-script-clause-due g c =
    rw (passed_on _ _ c.from_residual-in_err-script.ensures.1)
    (due_bad _ c.in_ok-octets.octets.items _ c.in_ok-octets.ensures.all c.in_ok-octets.ensures.short (rw c.as_slice.ensures.value at c.in_err-script.ensures.bad))

pub returns-clause-read : goal.returns-clause-read
returns-clause-read g c = rw (ran_is_no_read c.run.result c.run.ensures.faults) c.in_ok-octets.ensures.read

pub returns-clause-silent : goal.returns-clause-silent
returns-clause-silent g c = not_silent _ c.run.result c.run.ensures.faults

pub returns-clause-due : goal.returns-clause-due
returns-clause-due g c = due_ran _ c.in_ok-octets.octets.items c.run.result c.in_ok-octets.ensures.all c.in_ok-octets.ensures.short (rw c.as_slice.ensures.value at c.in_ok-script.ensures.good) c.run.ensures.faults

pub returns-in_err-octets-clause-printed : goal.returns-in_err-octets-clause-printed
returns-in_err-octets-clause-printed g c =
    none_told_by _ c.from_residual.result _ _ c.from_residual.ensures.1 (no_write_before _ c.in_err-octets.ensures.faults)

pub returns-in_err-script-clause-printed : goal.returns-in_err-script-clause-printed
returns-in_err-script-clause-printed g c =
    none_told_by _ c.from_residual-in_err-script.result _ _ c.from_residual-in_err-script.ensures.1 (no_write_in_line _ _ c.in_err-script.ensures.bad)

pub returns-clause-printed : goal.returns-clause-printed
returns-clause-printed g c =
    told_by _ c.in_ok-octets.octets.items c.run.result _ _ _ _ c.in_ok-octets.ensures.all (rw c.as_slice.ensures.value at c.in_ok-script.ensures.commands)
    (rw c.as_slice.ensures.value at c.in_ok-script.ensures.setting) (as_printed _ _ _ _ _ _ c.run.ensures.printed)
