-- The neighbour that leads to an address: the best route as a function (longest-prefix match, RFC 4632 section 5.1), and the
-- next hop (RFC 1122 section 3.3.1.1). `laws::one_route` says that what `Routes::pick` answers is this.
use Rattle.std.specs.Prelude.{ℕ, zero, suc, ◌==◌, nat_le, Bool, true, ◌&&◌, ◌||◌, not, List, find, Option, option_map}
use Rattle.std.specs.List.{list_all}
use Rattle.ipv4.specs.declared.addr.Addr.{Addr}
use Rattle.ipv4.specs.Prefixes.{bit}
use Rattle.routes.specs.declared.route.Route.{Route}
use Rattle.routes.specs.declared.route.Hop.{Hop}
use Rattle.routes.specs.declared.route.Hop.TheVariants.{Direct, Gateway}

-- so many first bits of the two addresses agree
unfoldable pub start_alike : ℕ → Addr → Addr → Bool
start_alike zero a b = true
start_alike (suc k) a b = start_alike k a b && (bit a k == bit b k)

-- the address begins with the bits of the route's prefix
abbrev pub matches : Addr → Route → Bool
matches addr route = start_alike route.prefix.length route.prefix.addr addr

-- it matches, and none that matches has a longer prefix
abbrev pub is_best : List Route → Addr → Route → Bool
is_best table addr route = matches addr route && list_all (λ other. not (matches addr other) || nat_le other.prefix.length route.prefix.length) table

-- the hop of the best route, and none where no route matches
unfoldable pub pick : List Route → Addr → Option Hop
pick table addr = option_map (λ (best : Route). best.hop) (find (is_best table addr) table)

-- the neighbour of a hop: the address itself where it is on the link, else the gateway
abbrev pub neighbour_by : Addr → Hop → Addr
neighbour_by to Direct = to
neighbour_by to (Gateway gateway) = gateway

-- the neighbour that what is for this address goes to next, and none where there is no route
abbrev pub next_hop : List Route → Addr → Option Addr
next_hop routes to = option_map (neighbour_by to) (pick routes to)
