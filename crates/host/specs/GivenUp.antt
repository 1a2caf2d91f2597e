-- What a tick gives up for want of a hop.
use Rattle.clock.specs.declared.moment.Moment.{Moment}
use Rattle.interface.specs.GivenUp as replies
use Rattle.sockets.specs.GivenUp.{datagrams_given_up, resets_given_up}
use Rattle.sockets.specs.SocketsView.{later_moment}
use Rattle.host.specs.declared.given_up.GivenUp.{GivenUp}
use Rattle.host.specs.HostView.{HostView}
use Rattle.host.specs.Ticks.{lacks_hop}

-- at the later of the moment and the kept one
abbrev pub gives_up : HostView → Moment → GivenUp
gives_up h now = let moment = later_moment h.sockets now in record {
  replies = replies.given_up h.interface moment;
  resets = resets_given_up h.sockets (lacks_hop h moment) moment;
  datagrams = datagrams_given_up h.sockets (lacks_hop h moment) moment;
}
