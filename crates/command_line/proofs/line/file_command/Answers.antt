use Rattle.std.proofs.Common.{ap, ◌∙◌}
use Rattle.std.proofs.lemmas.Result.{IfOk-weaker}
use Rattle.clap.specs.Simple.{app_of_fields}
use Rattle.command_line.specs.Line.{with_file}
use Rattle.command_line.proofs.line.file_command.Goals as goal

pub returns-clause-words : goal.returns-clause-words
returns-clause-words c =
    IfOk-weaker c.with_file.result _ _ (λ r words. words ∙ ap (with_file c.args.file.now) (ap app_of_fields c.about-command.ensures ∙ c.new.ensures.app)) c.with_file.ensures.words
