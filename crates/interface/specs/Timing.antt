-- What time does to what waits. That a reply waits 3,000 milliseconds for its hop, and no longer, is this stack's own; that old pairs
-- are flushed is RFC 1122 section 2.3.2.1.
use Rattle.std.specs.Prelude.{Bool, false, not, ◌&&◌, ◌||◌, nat_le, if◌then◌else◌, List, filter, fold, Option, Some, None, is_some}
use Rattle.ipv4.specs.declared.addr.Addr.{Addr}
use Rattle.clock.specs.declared.moment.Moment.{Moment}
use Rattle.clock.specs.declared.moment.TheConstants.{HOP_WAIT}
use Rattle.clock.specs.Moments.{after, sooner}
use Rattle.arp.specs.Cache.{Cache, look, may_ask, after_age}
use Rattle.arp.specs.Waits.{next_ask}
use Rattle.routes.specs.declared.route.Route.{Route}
use Rattle.interface.specs.declared.reply.Reply.{Reply}
use Rattle.interface.specs.declared.reply.Reply.TheVariants.{Arp, Reset, Echo, Error}
use Rattle.interface.specs.declared.reply.Waiting.{Waiting}
use Rattle.interface.specs.InterfaceView.{InterfaceView}
use Rattle.interface.specs.Routing.{next_hop}
use Rattle.interface.specs.Ways.{mac_of, knows_hop}

-- the address whose next hop a reply needs: an ARP reply names its MAC, and needs none
abbrev pub sought : Reply → Option Addr
sought (Arp packet) = None
sought (Reset to head) = Some to
sought (Echo to identifier number octets) = Some to
sought (Error to reason quoted) = Some to

-- it needs a hop, and the MAC of that isn't known
abbrev pub is_unknown : List Route → Cache → Moment → Option Addr → Bool
is_unknown routes cache now None = false
is_unknown routes cache now (Some to) = not (is_some (mac_of now cache (next_hop routes to)))

abbrev pub lacks_hop : InterfaceView → Moment → Waiting → Bool
lacks_hop h now waiting = is_unknown h.routes h.cache now (sought waiting.reply)

-- the moment until which it waits for a hop
abbrev pub end_of : Waiting → Moment
end_of waiting = after waiting.since HOP_WAIT

-- that moment has come
abbrev pub is_over : Moment → Waiting → Bool
is_over now waiting = let end = end_of waiting in nat_le end.0 now.0

-- what is over and whose hop isn't known is dropped, and all else stays
abbrev pub stays : InterfaceView → Moment → Waiting → Bool
stays h now waiting = not (lacks_hop h now waiting && is_over now waiting)

-- a tick
abbrev pub after_tick : InterfaceView → Moment → InterfaceView
after_tick h now = record h { cache = after_age now h.cache; replies = filter (stays h now) h.replies }

-- From when on something can be done again for what waits.

-- the moment from which a request for a neighbour may go out, where none may now and its MAC isn't known; none where no moment of the clock is left
abbrev pub asked_until_over : Cache → Moment → Option Addr → Option Moment
asked_until_over cache now None = None
asked_until_over cache now (Some hop) = if is_some (look now hop cache) || may_ask now hop cache.asked then None else next_ask hop cache.asked

-- the same for the next hop to an address
abbrev pub asked_until : InterfaceView → Moment → Addr → Option Moment
asked_until h now to = asked_until_over h.cache now (next_hop h.routes to)

-- while its hop isn't known, a reply is looked at again at its end, and when a request for the hop may go out again
abbrev pub deadline_for : InterfaceView → Moment → Moment → Option Addr → Option Moment
deadline_for h now end None = None
deadline_for h now end (Some to) = if knows_hop h now to then None else sooner (Some end) (asked_until h now to)

abbrev pub deadline_of : InterfaceView → Moment → Waiting → Option Moment
deadline_of h now waiting = deadline_for h now (end_of waiting) (sought waiting.reply)

-- the least of these
abbrev pub least_deadline : InterfaceView → Moment → Option Moment
least_deadline h now = fold (λ least waiting. sooner least (deadline_of h now waiting)) None h.replies
