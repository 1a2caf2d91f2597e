use Rattle.std.proofs.Common.{◌≡◌, ◌||◌, rules, ap, ◌∙◌, false}
use Rattle.std.proofs.lemmas.Result.{IfOk-weaker}
use Rattle.clap.specs.declared.builder.command.Command.TheViews.{out-Command as fields_of}
use Rattle.command_line.proofs.LineLemmas.{or_false}
use Rattle.command_line.proofs.line.with_file.Goals as goal

pub returns-clause-local : goal.returns-clause-local
returns-clause-local c =
    let local : c.help-file.result.global ≡ false = search rules in
    IfOk-weaker c.arg.result _ _ (λ r adds. adds.globals ∙ ap (λ b. (fields_of c.args.command).has_globals || b) local
    ∙ or_false (fields_of c.args.command).has_globals) c.arg.ensures
