use Rattle.std.proofs.Common.{ap, ap₂, ◌∙◌, true}
use Rattle.std.proofs.lemmas.Result.{IfOk-weaker}
use Rattle.clap.specs.Words.{with_subcommand, App}
use Rattle.clap.specs.Simple.{app_of_fields}
use Rattle.clap.specs.declared.builder.command.Command.{Command}
use Rattle.clap.specs.declared.builder.command.Command.TheOpen.{Command-F}
use Rattle.command_line.proofs.line.hostd.Goals as goal

pub returns : goal.returns
returns c =
    let required : Command-F Command → Command-F Command = λ f. record f { subcommand_required = true } in
    let top_is = ap app_of_fields (c.subcommand_required.ensures ∙ ap required c.about.ensures)
    ∙ ap (λ (a : App). record a { top = record a.top { subcommand_required = true } }) c.new.ensures.app in
    let sim_is = c.in_ok-subcommand.ensures.shape c.in_ok-sim.ensures.local
    ∙ ap₂ with_subcommand top_is (ap (λ (a : App). a.top) c.in_ok-sim.ensures.words) in
    let decode_is = c.in_ok-subcommand-2.ensures.shape c.in_ok-decode.ensures.local
    ∙ ap₂ with_subcommand sim_is (ap (λ (a : App). a.top) c.in_ok-decode.ensures.words) in
    IfOk-weaker c.subcommand-3.result _ _ (λ r adds. adds.shape c.in_ok-copy.ensures.local
    ∙ ap₂ with_subcommand decode_is (ap (λ (a : App). a.top) c.in_ok-copy.ensures.words)) c.subcommand-3.ensures
