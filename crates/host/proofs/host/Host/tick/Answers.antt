use Rattle.std.proofs.Common.{◌∙◌, ap}
use Rattle.host.specs.HostView.{HostView}
use Rattle.host.specs.Runs.{Ticks}
use Rattle.host.specs.Ticks.{after_tick}
use Rattle.host.proofs.Ran.{ran}
use Rattle.host.proofs.host.Host.tick.Goals as goal

pub invariant_of-self : goal.invariant_of-self
invariant_of-self c = ran (Ticks c.args.now) c.tick.new.self c.self.view_is c.sound.ensures.sound c.self.invariant tt tt (λ config. tt) c.tick.ensures

pub returns : goal.returns
returns c = c.tick.ensures ∙ ap (λ (h : HostView). after_tick h c.args.now) c.self.view_is
