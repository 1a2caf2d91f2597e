use Rattle.commands.specs.declared.sim.Ends.{Ends}
use Rattle.commands.proofs.SimLemmas.{due_ran}
use Rattle.commands.proofs.LadderLemmas.{both_by}
use Rattle.commands.proofs.laddered.sim_ladder_captured.Goals as goal

pub returns-clause-due : goal.returns-clause-due
returns-clause-due g c =
    due_ran _ c.in_ok-octets.octets.items c.run-run.result c.in_ok-octets.ensures.all c.in_ok-octets.ensures.short (rw c.as_slice.ensures.value at c.in_ok-world.ensures.good)
    c.run-run.ensures.faults

pub returns-clause-told : goal.returns-clause-told
returns-clause-told g c =
    let ends : Ends = record { run = c.run-run.result; capture = c.record-capture.result } in
    both_by _ c.in_ok-octets.octets.items ends _ _ _ _ _ _ _ _ c.in_ok-octets.ensures.all (rw c.as_slice.ensures.value at c.in_ok-world.ensures.setting)
    c.in_ok-world.ensures.world (rw c.as_slice-2.ensures.value at c.run-run.ensures.told) c.record-capture.ensures.taken
