-- The first line, and below it those of each group.
use Rattle.std.proofs.Common.{◌≡◌, ◌++◌, OnOk, string_bytes, sym, subst}
use Rattle.script.proofs.InfoLemmas.{info_in_turn, six_added}
use Rattle.script.proofs.info.show_info.Goals as goal

pub returns : goal.returns
returns c =
    subst (λ shown. OnOk c.show_moments.result (string_bytes c.show_moments.new.text ≡ string_bytes c.args.text.now ++ shown)) (sym (info_in_turn c.args.info.now))
    (six_added c.show_moments.result _ _ _ _ _ _ _ _ _ _ _ _ _ c.in_ok-write.ensures.bytes c.in_ok-show_waiting.ensures c.in_ok-show_windows.ensures c.in_ok-show_estimate.ensures
    c.in_ok-show_timeout.ensures c.show_moments.ensures)
