-- Both sides and the pool, at the later of the moment and the kept one.
use Rattle.std.proofs.Common.{rules, ◌≡◌, List, ◌∙◌, ap}
use Rattle.clock.specs.declared.moment.Moment.{Moment}
use Rattle.interface.specs.InterfaceView.{InterfaceView}
use Rattle.interface.specs.Timing.{after_tick as interface_after_tick}
use Rattle.reassembly.specs.declared.expired.Expired.{Expired}
use Rattle.reassembly.specs.Places.{after_age, expired}
use Rattle.sockets.specs.SocketsView.{SocketsView}
use Rattle.sockets.specs.Lost.{after_giving_up}
use Rattle.host.specs.HostView.{HostView}
use Rattle.host.specs.Ticks.{all_reported, lacks_hop, table_after_tick, after_tick}
use Rattle.host.proofs.layers.Layers.tick.Goals as goal

-- a host at a moment
after : HostView → Moment → HostView
after h moment = record {
  interface = all_reported moment (interface_after_tick h.interface moment) (expired moment h.pool);
  sockets = table_after_tick h moment;
  pool = after_age moment h.pool;
  lately = h.lately;
}

pub returns : goal.returns
unfolding after
returns c =
    let h : HostView = record { interface = c.self.inside.interface; sockets = c.self.inside.sockets; pool = c.self.inside.pool; lately = c.self.inside.lately } in
    let now : Moment = c.later_moment-now.result in
    let given_up : c.give_up.new.self ≡ after_giving_up c.tick.new.self (lacks_hop h now) now = c.give_up.ensures (lacks_hop h now) (λ addr answer called. search rules) in
    let table : c.give_up.new.self ≡ table_after_tick h now = given_up ∙ ap (λ (t : SocketsView). after_giving_up t (lacks_hop h now) now) c.tick.ensures in
    let datagrams : c.deref.result.now ≡ expired now h.pool = c.deref.ensures.0 ∙ c.age-expired.ensures.expired in
    let own : c.report_expired.new.interface ≡ all_reported now (interface_after_tick h.interface now) (expired now h.pool) =
    c.report_expired.ensures
    ∙ ap (λ (i : InterfaceView). all_reported now i c.deref.result.now) c.tick-2.ensures
    ∙ ap (λ (l : List Expired). all_reported now (interface_after_tick h.interface now) l) datagrams in
    let pool : c.age-expired.new.self ≡ after_age now h.pool = c.age-expired.ensures.pool in
    let all : ◌≡◌ {A = HostView} (record { interface = c.report_expired.new.interface; sockets = c.give_up.new.self; pool = c.age-expired.new.self; lately = h.lately }) (after h now) =
    λ i. record { interface = own i; sockets = table i; pool = pool i; lately = h.lately } in
    all ∙ ap (after h) c.later_moment-now.ensures ∙ ap (λ (g : HostView). after_tick g c.args.now) c.self.view_is
