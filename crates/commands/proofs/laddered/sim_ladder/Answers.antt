use Rattle.commands.proofs.SimLemmas.{due_ran, ran_is_no_read}
use Rattle.commands.proofs.LadderLemmas.{ladder_by}
use Rattle.commands.proofs.laddered.sim_ladder.Goals as goal

pub returns-clause-read : goal.returns-clause-read
returns-clause-read g c = rw (ran_is_no_read c.run.result c.run.ensures.faults) c.in_ok-octets.ensures.read

pub returns-clause-due : goal.returns-clause-due
returns-clause-due g c =
    due_ran _ c.in_ok-octets.octets.items c.run.result c.in_ok-octets.ensures.all c.in_ok-octets.ensures.short (rw c.as_slice.ensures.value at c.in_ok-world.ensures.good)
    c.run.ensures.faults

pub returns-clause-told : goal.returns-clause-told
returns-clause-told g c =
    ladder_by _ c.in_ok-octets.octets.items c.run.result _ _ _ _ _ _ c.in_ok-octets.ensures.all (rw c.as_slice.ensures.value at c.in_ok-world.ensures.setting)
    c.in_ok-world.ensures.world (rw c.as_slice-2.ensures.value at c.run.ensures.told)
