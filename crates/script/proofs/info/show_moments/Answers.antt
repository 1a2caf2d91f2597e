use Rattle.script.proofs.InfoLemmas.{five_added}
use Rattle.script.proofs.info.show_moments.Goals as goal

pub returns : goal.returns
returns c =
    five_added c.show_moment-5.result _ _ _ _ _ _ _ _ _ _ _ c.in_ok-show_moment.ensures c.in_ok-show_moment-2.ensures c.in_ok-show_moment-3.ensures c.in_ok-show_moment-4.ensures
    c.show_moment-5.ensures
