use Rattle.std.proofs.Common.{string_bytes}
use Rattle.commands.proofs.LadderLemmas.{told_act}
use Rattle.commands.proofs.laddered.act.Goals as goal

pub returns-clause-told : goal.returns-clause-told
returns-clause-told c =
    told_act c.text_of.result string_bytes c.args.side c.args.action.now c.in_ok-event.event c.in_ok-outcome.outcome c.passage.result _ _ _ _ c.in_ok-event.ensures
    c.in_ok-outcome.ensures.came
    (rw c.of-errand.ensures at c.passage.ensures) c.in_ok-note_passage.ensures (rw c.style.ensures at c.text_of.ensures)
