use Rattle.std.proofs.Common.{◌∙◌}
use Rattle.command_line.proofs.StepLemmas.{step_read, step_unread}
use Rattle.command_line.proofs.line.step_of.Goals as goal

pub returns-in-Ok : goal.returns-in-Ok
returns-in-Ok c =
    let read = c.in-Ok.ensures.value.0 in
    c.new.ensures ∙ step_read c.args.text.now c.in-Ok.step read.0.0 read.0.1 read.1

pub returns-in-Err : goal.returns-in-Err
returns-in-Err c = step_unread c.args.text.now c.in-Err.ensures.value.0
