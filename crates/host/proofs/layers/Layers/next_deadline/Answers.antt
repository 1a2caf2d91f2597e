-- The timers, the control replies and the pool come first, and then the entries at their hops.
use Rattle.std.proofs.Common.{fold, Option, ◌∙◌, ap}
use Rattle.clock.specs.declared.moment.Moment.{Moment}
use Rattle.clock.specs.Moments.{sooner}
use Rattle.interface.specs.Timing.{least_deadline as reply_deadline}
use Rattle.reassembly.specs.Places.{next_deadline as pool_deadline}
use Rattle.sockets.specs.Ticks.{least_deadline as timer_deadline}
use Rattle.host.specs.HostView.{HostView}
use Rattle.host.specs.Ticks.{hop_deadline}
use Rattle.host.proofs.layers.Layers.next_deadline.Goals as goal

pub returns : goal.returns
returns c =
    let h : HostView = c.args.self.now in
    let replies = c.deadline.ensures ∙ ap (λ (m : Moment). reply_deadline c.self.inside.interface m) c.kept-now.ensures in
    let timed = c.sooner-first.ensures ∙ ap (λ (o : Option Moment). sooner c.next_deadline.result o) replies ∙ ap (λ (o : Option Moment). sooner o (reply_deadline c.self.inside.interface c.self.inside.sockets.kept)) c.next_deadline.ensures in
    let first = c.sooner-first-2.ensures ∙ ap (λ (o : Option Moment). sooner c.sooner-first.result o) c.next_deadline-2.ensures.value ∙ ap (λ (o : Option Moment). sooner o (pool_deadline c.self.inside.pool)) timed in
    c.sooner_at_hops.ensures
    ∙ ap (λ (o : Option Moment). fold (λ least e. sooner least (hop_deadline h e)) o h.sockets.entries)
    (first ∙ ap (λ (g : HostView). sooner (sooner (timer_deadline g.sockets) (reply_deadline g.interface g.sockets.kept)) (pool_deadline g.pool)) c.self.view_is)
