-- A tick moves the clock forward and ticks the host.
use Rattle.std.proofs.Common.{rules, ◌≡◌, nat_lt, ◌∙◌, ap}
use Rattle.std.specs.Prelude.{if◌then◌else◌}
use Rattle.clock.specs.declared.moment.Moment.{Moment}
use Rattle.host.specs.HostView.{HostView}
use Rattle.host.specs.Ticks.{after_tick}
use Rattle.wire_sim.specs.declared.world.station.Station.{Station}
use Rattle.wire_sim.specs.Steps.{station_after_tick}
use Rattle.wire_sim.proofs.world.station.Station.tick.Goals as goal

ticked : (s : Station) (moment : Moment) (h : HostView) (clock : Moment) → h ≡ after_tick s.host moment → clock ≡ (if nat_lt s.clock.0 moment.0 then moment else s.clock)
    → ◌≡◌ {A = Station} (record { host = h; clock = clock }) (station_after_tick s moment)
ticked s moment h clock host at =
    ap (λ w. let t : Station = record { host = w; clock = clock } in t) host ∙ ap (λ m. let t : Station = record { host = after_tick s.host moment; clock = m } in t) at

pub returns-clause-after : goal.returns-clause-after
returns-clause-after c =
    let host : c.if-gt.self.host ≡ c.args.self.now.host = search rules in
    let clock : c.if-gt.self.clock ≡ (if nat_lt c.args.self.now.clock.0 c.args.moment.0 then c.args.moment else c.args.self.now.clock) = search rules in
    ticked c.args.self.now c.args.moment c.tick.new.self c.if-gt.self.clock (c.tick.ensures ∙ ap (λ h. after_tick h c.args.moment) host) clock
