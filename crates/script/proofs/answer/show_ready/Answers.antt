-- Word by word as the code does, and so all that hold.
use Rattle.std.proofs.Common.{arith, ◌≡◌, ◌++◌, OnOk, string_bytes, sym, subst}
use Rattle.std.proofs.lemmas.Grind.{common_steps}
use Rattle.script.proofs.ReadyLemmas.{ready_in_turn}
use Rattle.script.proofs.answer.show_ready.Goals as goal

pub returns : goal.returns
returns c =
    subst (λ shown. OnOk c.show_word-7.result (string_bytes c.show_word-7.new.line ≡ string_bytes c.args.line.now ++ shown)) (sym (ready_in_turn c.args.ready))
    (grind (arith, common_steps))
