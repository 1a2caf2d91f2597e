-- What a tick makes of a host, and the moment from which one may do something again. That what waits for its hop is given up after 3,000
-- milliseconds, where it is a control reply, the reset of an abort or a datagram, is this stack's own.
use Rattle.std.specs.Prelude.{Bool, not, List, take, fold, Option, None}
use Rattle.ipv4.specs.declared.addr.Addr.{Addr}
use Rattle.ipv4.specs.declared.addr.Endpoint.{Endpoint}
use Rattle.clock.specs.declared.moment.Moment.{Moment}
use Rattle.clock.specs.Moments.{sooner}
use Rattle.icmp.specs.declared.error.Reason.TheVariants.{ReassemblyTimeExceeded}
use Rattle.interface.specs.InterfaceView.{InterfaceView}
use Rattle.interface.specs.Replies.{after_report}
use Rattle.interface.specs.Ways.{knows_hop}
use Rattle.interface.specs.Timing.{asked_until, after_tick as interface_after_tick, least_deadline as reply_deadline}
use Rattle.reassembly.specs.declared.expired.Expired.{Expired}
use Rattle.reassembly.specs.Places.{after_age, expired, next_deadline as pool_deadline}
use Rattle.sockets.specs.declared.entry.Entry.{Entry}
use Rattle.sockets.specs.declared.emission.Outgoing.{Outgoing}
use Rattle.sockets.specs.Entries.{dues_of}
use Rattle.sockets.specs.Lost.{after_giving_up, give_up_at}
use Rattle.sockets.specs.SocketsView.{SocketsView, later_moment}
use Rattle.sockets.specs.Ticks.{after_tick as sockets_after_tick, least_deadline as timer_deadline}
use Rattle.host.specs.HostView.{HostView}

-- the next hop to an address isn't known
abbrev pub lacks_hop : HostView → Moment → Addr → Bool
lacks_hop h moment addr = not (knows_hop h.interface moment addr)

-- the timers act, and then what has waited for its hop for too long is given up
abbrev pub table_after_tick : HostView → Moment → SocketsView
table_after_tick h moment = after_giving_up (sockets_after_tick h.sockets moment) (lacks_hop h moment) moment

-- The source of a datagram whose time ran out is told so, where its fragment zero came, with 68 octets of the quote at most (RFC 792): the
-- error joins the control replies, where there is room.
abbrev pub reported : Moment → InterfaceView → Expired → InterfaceView
reported moment i datagram = after_report i moment datagram.key.source ReassemblyTimeExceeded (take 68 datagram.quote)

-- of those whose time runs out at a tick each is reported, in the order of their places
abbrev pub all_reported : Moment → InterfaceView → List Expired → InterfaceView
all_reported moment i datagrams = fold (reported moment) i datagrams

-- at the later of the moment and the kept one, which is kept then
abbrev pub after_tick : HostView → Moment → HostView
after_tick h now = let moment = later_moment h.sockets now in record {
  interface = all_reported moment (interface_after_tick h.interface moment) (expired moment h.pool);
  sockets = table_after_tick h moment;
  pool = after_age moment h.pool;
  lately = h.lately;
}

-- What is due is looked at again when a request for the hop of one of it may go out.
abbrev pub request_deadline : HostView → List (Endpoint × Outgoing) → Option Moment
request_deadline h dues = fold (λ least due. sooner least (asked_until h.interface h.sockets.kept due.0.addr)) None dues

-- what an entry waits for at the hops of what it has due: the end of the wait of what is given up while its hop isn't known, and the next request for one
abbrev pub hop_deadline : HostView → Entry → Option Moment
hop_deadline h e = sooner (give_up_at (lacks_hop h h.sockets.kept) e.role) (request_deadline h (dues_of e.role))

-- the least of the timers, of the control replies, of the pool and of the entries that wait for their hops
abbrev pub least_deadline : HostView → Option Moment
least_deadline h =
    fold (λ least e. sooner least (hop_deadline h e)) (sooner (sooner (timer_deadline h.sockets) (reply_deadline h.interface h.sockets.kept)) (pool_deadline h.pool))
    h.sockets.entries
