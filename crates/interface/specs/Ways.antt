-- What can be done at a moment for what is to go to an address (RFC 1122 sections 2.3.2 and 3.3.1).
use Rattle.std.specs.Prelude.{Bool, if◌then◌else◌, List, Option, Some, None, is_some}
use Rattle.ether.specs.declared.mac.Mac.{Mac}
use Rattle.ipv4.specs.declared.addr.Addr.{Addr}
use Rattle.arp.specs.declared.entry.Asked.{Asked}
use Rattle.clock.specs.declared.moment.Moment.{Moment}
use Rattle.arp.specs.Cache.{Cache, look, may_ask}
use Rattle.interface.specs.declared.way.Way.{Way}
use Rattle.interface.specs.declared.way.Way.TheVariants.{To, Ask, Waits}
use Rattle.interface.specs.InterfaceView.{InterfaceView}
use Rattle.interface.specs.Routing.{next_hop}

-- a route leads to the address
abbrev pub is_routed : InterfaceView → Addr → Bool
is_routed h to = is_some (next_hop h.routes to)

-- the MAC of the next hop, where there is one and it is known
abbrev pub mac_of : Moment → Cache → Option Addr → Option Mac
mac_of now cache None = None
mac_of now cache (Some hop) = look now hop cache

abbrev pub hop_mac : InterfaceView → Moment → Addr → Option Mac
hop_mac h now to = mac_of now h.cache (next_hop h.routes to)

abbrev pub knows_hop : InterfaceView → Moment → Addr → Bool
knows_hop h now to = is_some (hop_mac h now to)

-- to a MAC that is known it goes; for another the neighbour is asked, where a request for it may go out; else it waits
abbrev pub way_by_mac : Moment → List Asked → Addr → Option Mac → Way
way_by_mac now asked hop (Some mac) = To mac
way_by_mac now asked hop None = if may_ask now hop asked then Ask hop else Waits

-- without a next hop it waits
abbrev pub way_over : Moment → Cache → Option Addr → Way
way_over now cache None = Waits
way_over now cache (Some hop) = way_by_mac now cache.asked hop (look now hop cache)

abbrev pub way : InterfaceView → Moment → Addr → Way
way h now to = way_over now h.cache (next_hop h.routes to)
