-- What the frame side and the table give up, at the later of the moment and the kept one.
use Rattle.std.proofs.Common.{rules, ◌≡◌, ◌∙◌, ap}
use Rattle.clock.specs.declared.moment.Moment.{Moment}
use Rattle.interface.specs.GivenUp as replies
use Rattle.sockets.specs.GivenUp.{datagrams_given_up, resets_given_up}
use Rattle.host.specs.declared.given_up.GivenUp.{GivenUp}
use Rattle.host.specs.GivenUp.{gives_up}
use Rattle.host.specs.HostView.{HostView}
use Rattle.host.specs.Ticks.{lacks_hop}
use Rattle.host.proofs.layers.Layers.gives_up.Goals as goal

-- a host at a moment
given : HostView → Moment → GivenUp
given h moment = record {
  replies = replies.given_up h.interface moment;
  resets = resets_given_up h.sockets (lacks_hop h moment) moment;
  datagrams = datagrams_given_up h.sockets (lacks_hop h moment) moment;
}

pub returns : goal.returns
unfolding given
returns c =
    let h : HostView = record { interface = c.self.inside.interface; sockets = c.self.inside.sockets; pool = c.self.inside.pool; lately = c.self.inside.lately } in
    let now : Moment = c.later_moment-now.result in
    let table = c.given_up-table.ensures (lacks_hop h now) (λ addr answer called. search rules) in
    let own = c.given_up.ensures in
    let all : ◌≡◌ {A = GivenUp} (record { replies = c.given_up.result; resets = c.given_up-table.result.resets; datagrams = c.given_up-table.result.datagrams }) (given h now) =
    λ i. record { replies = own i; resets = table.0 i; datagrams = table.1 i } in
    all ∙ ap (given h) c.later_moment-now.ensures ∙ ap (λ (g : HostView). gives_up g c.args.now) c.self.view_is
