use Rattle.std.proofs.Common.{ap, ◌∙◌, codes}
use Rattle.std.proofs.lemmas.Result.{IfOk-weaker}
use Rattle.command_line.specs.Line.{with_flag}
use Rattle.command_line.proofs.line.decode_command.Goals as goal

pub returns-clause-words : goal.returns-clause-words
returns-clause-words c =
    IfOk-weaker c.with_flag.result _ _ (λ r words. words ∙ ap (with_flag (codes "pcap")) c.in_ok-decode.ensures.words) c.with_flag.ensures.words
