use Rattle.std.proofs.Common.{◌≡◌, Some, None, refl}
use Rattle.script.specs.Script.{item_of}
use Rattle.script.specs.declared.lines.Item.TheVariants.{Do, Limit, NoScale, Nothing}
use Rattle.commands.proofs.LadderLemmas.{done_said, done_limit, done_noscale, done_nothing}
use Rattle.commands.proofs.laddered.run_line.Goals as goal

pub returns-in-Some-Do-clause-ok : goal.returns-in-Some-Do-clause-ok
returns-in-Some-Do-clause-ok c =
    let says : item_of c.args.line.now ≡ Some (Do c.in-Some-Do.command) = cc (c.in_ok-command.ensures.item, c.in-Some-Do.is, c.in-Some-Do.field-0-is) in
    done_said c.run_said.result c.args.line.now c.in-Some-Do.command _ _ _ _ says c.run_said.ensures.ok

pub returns-in-Some-Limit-clause-ok : goal.returns-in-Some-Limit-clause-ok
returns-in-Some-Limit-clause-ok c =
    let says : item_of c.args.line.now ≡ Some (Limit c.in-Some-Limit.field-0-0) = cc (c.in_ok-command.ensures.item, c.in-Some-Limit.is, c.in-Some-Limit.field-0-is) in
    done_limit c.note_ok-in-Some-Limit.result c.args.line.now c.in-Some-Limit.field-0-0 _ _ _ says c.note_ok-in-Some-Limit.ensures

pub returns-in-Some-NoScale-clause-ok : goal.returns-in-Some-NoScale-clause-ok
returns-in-Some-NoScale-clause-ok c =
    let says : item_of c.args.line.now ≡ Some NoScale = cc (c.in_ok-command.ensures.item, c.in-Some-NoScale.is, c.in-Some-NoScale.field-0-is) in
    done_noscale c.note_ok.result c.args.line.now _ _ _ says c.note_ok.ensures

pub returns-in-Some-Nothing-clause-ok : goal.returns-in-Some-Nothing-clause-ok
returns-in-Some-Nothing-clause-ok c =
    let says : item_of c.args.line.now ≡ Some Nothing = cc (c.in_ok-command.ensures.item, c.in-Some-Nothing.is, c.in-Some-Nothing.field-0-is) in
    done_nothing c.args.line.now (Some Nothing) _ _ says refl refl refl

pub returns-in-None-clause-ok : goal.returns-in-None-clause-ok
returns-in-None-clause-ok c =
    let says : item_of c.args.line.now ≡ None = cc (c.in_ok-command.ensures.item, c.in-None.is) in
    done_nothing c.args.line.now None _ _ says refl refl refl
