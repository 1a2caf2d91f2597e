use Rattle.std.proofs.Common.{refl, sym, ◌∙◌}
use Rattle.clap.specs.Words.{found_of}
use Rattle.clap.proofs.WalkLemmas.{first_value-rows}
use Rattle.command_line.proofs.LineLemmas.{name_of_rows, value_given}
use Rattle.command_line.proofs.line.value_in.Goals as goal

pub returns : goal.returns
returns c =
    c.get_str.ensures ∙ first_value-rows (found_of c.in_ok-subcommand_matches.field-0.now) c.args.id.now
    ∙ sym (value_given c.args.command.now c.args.id.now _ _ (name_of_rows c.args.matches.now ∙ c.in_ok-subcommand_matches.ensures.found.0 refl)
    c.in_ok-subcommand_matches.ensures.rows)
