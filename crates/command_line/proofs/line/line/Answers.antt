use Rattle.std.proofs.Common.{inl, inr, ap, ◌∙◌, option_map}
use Rattle.clap.specs.Faults.{is_simple_and_free}
use Rattle.command_line.specs.Line.{asked_by}
use Rattle.command_line.proofs.LineLemmas.{simple_and_free, err_passed, kind_along, none_along, asked_along}
use Rattle.command_line.proofs.line.line.Goals as goal

pub returns-in_err-matches-clause-err : goal.returns-in_err-matches-clause-err
returns-in_err-matches-clause-err g c =
    let is = c.in_ok-hostd.ensures in
    err_passed _ c.from_residual-in_err-matches.result c.in_err-matches.field-0.0 c.from_residual-in_err-matches.ensures.1
    (inl (kind_along _ _ _ c.in_err-matches.field-0.0 is (c.in_err-matches.ensures.kinds (ap is_simple_and_free is ∙ simple_and_free))))

pub returns-in-Some-clause-ok : goal.returns-in-Some-clause-ok
returns-in-Some-clause-ok g c = asked_along _ _ _ _ c.in_ok-hostd.ensures c.in_ok-matches.ensures.ok.2 c.asked.ensures ∙ ap (option_map asked_by) c.in-Some.is

pub returns-in-Some-clause-sound : goal.returns-in-Some-clause-sound
returns-in-Some-clause-sound g c =
    let is = c.in_ok-hostd.ensures in
    none_along _ _ _ is (c.in_ok-matches.ensures.kinds (ap is_simple_and_free is ∙ simple_and_free))

pub returns-clause-err : goal.returns-clause-err
returns-clause-err g c =
    let is = c.in_ok-hostd.ensures in
    inr (
      asked_along _ _ _ _ is c.in_ok-matches.ensures.ok.2 c.asked.ensures ∙ ap (option_map asked_by) c.in-None.is,
      none_along _ _ _ is (c.in_ok-matches.ensures.kinds (ap is_simple_and_free is ∙ simple_and_free)),
      inr (inl c.in_ok-error-in-None.ensures.kind),
    )
