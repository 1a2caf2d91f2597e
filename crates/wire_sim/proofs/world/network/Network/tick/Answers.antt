-- A tick is one of the host that it names.
use Rattle.std.proofs.Common.{sym, ◌∙◌, ap}
use Rattle.sides.specs.declared.side.Side.TheVariants.{A, B}
use Rattle.wire_sim.specs.Steps.{with_station, station_after_tick}
use Rattle.wire_sim.specs.WorldView.{network_view, station_of}
use Rattle.wire_sim.proofs.world.network.Network.tick.Goals as goal

pub returns-in-A-clause-step : goal.returns-in-A-clause-step
returns-in-A-clause-step c =
    let n = network_view c.args.self.now in
    (c.tick.ensures.answer, ap (with_station n A) c.tick.ensures.after ∙ ap (λ s. with_station n s (station_after_tick (station_of n s) c.args.moment)) (sym c.in-A.is))

pub returns-in-B-clause-step : goal.returns-in-B-clause-step
returns-in-B-clause-step c =
    let n = network_view c.args.self.now in
    (c.tick-in-B.ensures.answer, ap (with_station n B) c.tick-in-B.ensures.after ∙ ap (λ s. with_station n s (station_after_tick (station_of n s) c.args.moment)) (sym c.in-B.is))
