use Rattle.std.proofs.Common.{ap, ◌∙◌, codes}
use Rattle.std.proofs.lemmas.Result.{IfOk-weaker}
use Rattle.command_line.specs.Line.{with_flag, with_option}
use Rattle.command_line.proofs.line.sim_command.Goals as goal

pub returns-clause-words : goal.returns-clause-words
returns-clause-words c =
    IfOk-weaker c.with_flag-2.result _ _ (λ r words. words ∙ ap (with_flag (codes "absolute")) (c.in_ok-sim-3.ensures.words
    ∙ ap (with_flag (codes "ladder")) (c.in_ok-sim-2.ensures.words ∙ ap (with_option (codes "pcap")) c.in_ok-sim.ensures.words))) c.with_flag-2.ensures.words

pub returns-clause-local : goal.returns-clause-local
returns-clause-local c =
    IfOk-weaker c.with_flag-2.result _ _ (λ r local. local ∙ (c.in_ok-sim-3.ensures.local ∙ (c.in_ok-sim-2.ensures.local ∙ c.in_ok-sim.ensures.local)))
    c.with_flag-2.ensures.local
