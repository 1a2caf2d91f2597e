-- A fair delivery is of a frame that is there; a tick's place in the trace does not matter.
use Rattle.std.proofs.Common.{◌∙◌, ◌<◌, length, sym, ap, subst, rules}
use Rattle.wire_sim.specs.declared.event.Event.{Event}
use Rattle.wire_sim.specs.Steps.{Steps}
use Rattle.wire_sim.specs.Fairness.{unfair_counted}
use Rattle.wire_sim.specs.WorldView.{network_view}
use Rattle.wire_sim.proofs.fairness.FairFrameIsThere.{frame_there}
use Rattle.wire_sim.proofs.world.network.Network.perform.Goals as goal

pub deliver-requires-clause-frame : goal.deliver-requires-clause-frame
deliver-requires-clause-frame c =
    let there : c.in-Deliver.index < length c.args.self.now.bag.items =
    frame_there (network_view c.args.self.now) c.in-Deliver.side c.in-Deliver.index c.in-Deliver.isn (sym (ap (unfair_counted (network_view c.args.self.now)) c.in-Deliver.is) ∙ c.requires.fair)
    in
    search rules

pub returns-in-Tick-clause-step : goal.returns-in-Tick-clause-step
returns-in-Tick-clause-step c =
    subst (λ (e : Event). Steps e c.args.place c.tick.result (network_view c.args.self.now) (network_view c.tick.new.self)) (sym c.in-Tick.is) c.tick.ensures.step
