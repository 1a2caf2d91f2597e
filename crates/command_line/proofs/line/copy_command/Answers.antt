use Rattle.std.proofs.Common.{ap, ◌∙◌, codes}
use Rattle.std.proofs.lemmas.Result.{IfOk-weaker}
use Rattle.command_line.specs.Line.{with_file, with_flag, with_option, with_step}
use Rattle.command_line.proofs.line.copy_command.Goals as goal

pub returns-clause-words : goal.returns-clause-words
returns-clause-words c =
    let file_is = c.in_ok-copy-2.ensures.words ∙ ap (with_file (codes "DST")) c.in_ok-copy.ensures.words in
    let lose_is = c.in_ok-copy-3.ensures.words ∙ ap (with_step (codes "lose")) file_is in
    let repeat_is = c.in_ok-copy-4.ensures.words ∙ ap (with_step (codes "repeat")) lose_is in
    let capture_is = c.in_ok-copy-5.ensures.words ∙ ap (with_option (codes "pcap")) repeat_is in
    IfOk-weaker c.with_flag.result _ _ (λ r words. words ∙ ap (with_flag (codes "progress")) capture_is) c.with_flag.ensures.words

pub returns-clause-local : goal.returns-clause-local
returns-clause-local c =
    IfOk-weaker c.with_flag.result _ _ (λ r local. local ∙ (c.in_ok-copy-5.ensures.local ∙ (c.in_ok-copy-4.ensures.local ∙ (c.in_ok-copy-3.ensures.local
    ∙ (c.in_ok-copy-2.ensures.local ∙ c.in_ok-copy.ensures.local))))) c.with_flag.ensures.local
