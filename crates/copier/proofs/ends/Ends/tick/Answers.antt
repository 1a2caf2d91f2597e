use Rattle.std.proofs.Common.{◌∙◌, ap, subst}
use Rattle.clock.specs.declared.moment.Moment.{Moment}
use Rattle.host.specs.HostView.{HostView}
use Rattle.host.specs.Sound.{IsSoundHost}
use Rattle.host.specs.Ticks.{after_tick}
use Rattle.copier.specs.declared.ends.Ends.{Ends}
use Rattle.copier.proofs.Moving.{ticks-both}
use Rattle.copier.proofs.ends.Ends.tick.Goals as goal

pub returns : goal.returns
returns c =
    let e : Ends = c.args.self.now in
    ticks-both e _ c.args.moment c.sound.ensures.a c.sound.ensures.b (subst IsSoundHost c.tick.ensures c.sound-2.ensures.sound)
    (ap (λ (h : HostView). let x : Ends = record e { a = h; b = c.tick-2.new.self; clock = c.later-self.result } in x) c.tick.ensures
    ∙ ap (λ (h : HostView). let x : Ends = record e { a = after_tick e.a c.args.moment; b = h; clock = c.later-self.result } in x) c.tick-2.ensures
    ∙ ap (λ (m : Moment). let x : Ends = record e { a = after_tick e.a c.args.moment; b = after_tick e.b c.args.moment; clock = m } in x) c.later-self.ensures)
