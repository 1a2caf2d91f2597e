use Rattle.std.proofs.Common.{◌≡◌, ◌-◌, ◌++◌, length, map, drop, ap, subst, ◌∙◌, arith}
use Rattle.std.proofs.lemmas.List.{drop_min, length-drop, take_all}
use Rattle.std.specs.Result.{OnOk}
use Rattle.ladder.specs.declared.happened.Happened.TheVariants.{Passed}
use Rattle.commands.specs.Laddered.{passages_in}
use Rattle.commands.proofs.laddered.note_since.Goals as goal

pub returns : goal.returns
returns c =
    let start = c.min-start.result in
    let trace = c.args.trace.now in
    subst (λ t. OnOk c.note_things.result (c.note_things.new.happened.items ≡ c.args.happened.now.items ++ map Passed (passages_in t)))
    (take_all (length trace - start) (drop start trace) (omega (arith, length-drop start trace)) ∙ ap (λ n. drop n trace) c.min-start.ensures ∙ drop_min c.args.before trace)
    c.note_things.ensures
