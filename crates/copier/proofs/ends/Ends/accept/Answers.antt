use Rattle.std.proofs.Common.{Some, sym, ◌∙◌, ap}
use Rattle.host.specs.HostView.{HostView}
use Rattle.copier.specs.declared.ends.Ends.{Ends}
use Rattle.copier.proofs.Passing.{none_of}
use Rattle.copier.proofs.Moving.{accepts-one}
use Rattle.copier.proofs.ends.Ends.accept.Goals as goal

pub returns-in-Ok-clause-course : goal.returns-in-Ok-clause-course
returns-in-Ok-clause-course c =
    let e : Ends = c.args.self.now in
    accepts-one e _ c.in-Ok.id c.in-Ok.field-0-1 c.sound.ensures.a c.sound.ensures.b (none_of e.receiver (sym c.is_some.ensures ∙ c.if-is_some.false)) (sym c.accept.ensures.answer ∙ c.in-Ok.is)
    (ap (λ (h : HostView). let x : Ends = record e { b = h; receiver = Some c.in-Ok.id } in x) c.in-Ok.ensures.ok)
