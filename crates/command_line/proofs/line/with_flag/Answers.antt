use Rattle.std.proofs.Common.{◌≡◌, ◌||◌, rules, ap, ◌∙◌, false, Some}
use Rattle.std.proofs.lemmas.Result.{IfOk-weaker}
use Rattle.clap.specs.declared.builder.action.ArgAction.TheVariants.{SetTrue}
use Rattle.clap.specs.declared.builder.command.Command.TheViews.{out-Command as fields_of}
use Rattle.clap.specs.Words.{app_of, rule_of, new_rule, with_rule}
use Rattle.command_line.proofs.LineLemmas.{or_false}
use Rattle.command_line.proofs.line.with_flag.Goals as goal

pub returns-clause-words : goal.returns-clause-words
returns-clause-words c =
    let flag_is : rule_of c.help-flag.result ≡ record (new_rule c.args.name.now) { long = Some c.args.name.now; action = Some SetTrue } = search rules in
    IfOk-weaker c.arg.result _ _ (λ r adds. adds.shape (search rules) ∙ ap (with_rule (app_of c.args.command)) flag_is) c.arg.ensures

pub returns-clause-local : goal.returns-clause-local
returns-clause-local c =
    let local : c.help-flag.result.global ≡ false = search rules in
    IfOk-weaker c.arg.result _ _ (λ r adds. adds.globals ∙ ap (λ b. (fields_of c.args.command).has_globals || b) local
    ∙ or_false (fields_of c.args.command).has_globals) c.arg.ensures
