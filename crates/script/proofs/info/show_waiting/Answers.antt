use Rattle.script.proofs.InfoLemmas.{five_added}
use Rattle.script.proofs.info.show_waiting.Goals as goal

pub returns : goal.returns
returns c =
    five_added c.show_number-5.result _ _ _ _ _ _ _ _ _ _ _ (rw c.from.ensures at c.in_ok-show_number.ensures) c.in_ok-show_number-2.ensures c.in_ok-show_number-3.ensures
    c.in_ok-show_number-4.ensures c.show_number-5.ensures
