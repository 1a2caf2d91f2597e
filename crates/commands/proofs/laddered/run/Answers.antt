use Rattle.commands.proofs.LadderLemmas.{took}
use Rattle.commands.proofs.laddered.run.Goals as goal

pub returns-clause-told : goal.returns-clause-told
returns-clause-told g c =
    took c.hand_over.result _ _ _ _ _ _ c.in_ok-ladder.ladder.items c.in_ok-ladder.ensures.ok.0 c.in_ok-ladder.ensures.ok.1 c.in_ok-ladder.ensures.ok.2
    (rw c.as_slice.ensures.value at c.hand_over.ensures.taken) (rw c.as_slice.ensures.value at c.hand_over.ensures.faults)
