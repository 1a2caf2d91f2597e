use Rattle.std.proofs.Common.{◌≡◌, ◌||◌, rules, ap, ◌∙◌, false, Some}
use Rattle.std.proofs.lemmas.Result.{IfOk-weaker}
use Rattle.clap.specs.declared.builder.value_parser.ValueParser.TheVariants.{Unsigned}
use Rattle.clap.specs.declared.builder.command.Command.TheViews.{out-Command as fields_of}
use Rattle.clap.specs.Words.{app_of, rule_of, new_rule, with_rule}
use Rattle.command_line.proofs.LineLemmas.{or_false}
use Rattle.command_line.proofs.line.with_step.Goals as goal

pub returns-clause-words : goal.returns-clause-words
returns-clause-words c =
    let parser_is : c.help-option.result.value_parser ≡ Some (Unsigned 2 1000000) = search rules in
    let option_is : rule_of c.help-option.result ≡ record (new_rule c.args.name.now) { long = Some c.args.name.now; value_names = 1; parser = Some (Unsigned 2 1000000) } = search rules in
    IfOk-weaker c.arg.result _ _ (λ r adds. adds.shape (search rules) ∙ ap (with_rule (app_of c.args.command)) option_is) c.arg.ensures

pub returns-clause-local : goal.returns-clause-local
returns-clause-local c =
    let local : c.help-option.result.global ≡ false = search rules in
    IfOk-weaker c.arg.result _ _ (λ r adds. adds.globals ∙ ap (λ b. (fields_of c.args.command).has_globals || b) local
    ∙ or_false (fields_of c.args.command).has_globals) c.arg.ensures
