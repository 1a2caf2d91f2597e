use Rattle.std.proofs.Common.{sym, ap}
use Rattle.host.specs.HostView.{HostView}
use Rattle.copier.specs.declared.ends.Ends.{Ends}
use Rattle.copier.proofs.Moving.{closes-side}
use Rattle.copier.proofs.ends.Ends.close.Goals as goal

pub returns-in-Ok-clause-closes : goal.returns-in-Ok-clause-closes
returns-in-Ok-clause-closes c =
    let e : Ends = c.args.self.now in
    closes-side e _ c.sound.ensures.a c.sound.ensures.b (sym c.in-Ok.ensures.refused) (ap (λ (h : HostView). let x : Ends = record e { a = h } in x) c.in-Ok.ensures.ok)
