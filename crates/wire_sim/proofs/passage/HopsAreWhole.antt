-- The neighbour that is asked for has an address of four octets, where the gateways of the routes have.
use Rattle.std.proofs.Common.{◌≡◌, Bool, true, false, if◌then◌else◌, List, length, Option, Some, None, option_map, refl, ap, subst}
use Rattle.std.specs.List.{find}
use Rattle.ether.specs.declared.mac.Mac.{Mac}
use Rattle.arp.specs.Cache.{look, may_ask}
use Rattle.ipv4.specs.declared.addr.Addr.{Addr}
use Rattle.clock.specs.declared.moment.Moment.{Moment}
use Rattle.routes.specs.declared.route.Route.{Route}
use Rattle.routes.specs.declared.route.Hop.{Hop}
use Rattle.routes.specs.declared.route.Hop.TheVariants.{Direct, Gateway}
use Rattle.interface.specs.declared.way.Way.TheVariants.{Ask, Waits}
use Rattle.interface.specs.InterfaceView.{InterfaceView}
use Rattle.interface.specs.Routing.{is_best, neighbour_by, next_hop, pick}
use Rattle.interface.specs.Ways.{way, way_by_mac, way_over}
use Rattle.wire_sim.specs.Sent.{IsWholeHop, AreWholeRoutes}
use Rattle.wire_sim.proofs.lists.FoundAfterChange.{All-find}

-- the hop that is asked for is the next one
asked-next : (i : InterfaceView) (now : Moment) (to hop : Addr) → way i now to ≡ Ask hop → next_hop i.routes to ≡ Some hop
asked-next i now to hop = by_hop (next_hop i.routes to)
  where
    by_ask : (b : Bool) (own : Addr) → (if b then Ask own else Waits) ≡ Ask hop → own ≡ hop
    by_ask true own e = cc
    by_ask false own e = cc

    by_mac : (own : Addr) (o : Option Mac) → way_by_mac now i.cache.asked own o ≡ Ask hop → own ≡ hop
    by_mac own (Some m) e = cc
    by_mac own None e = by_ask (may_ask now own i.cache.asked) own e

    by_hop : (o : Option Addr) → way_over now i.cache o ≡ Ask hop → o ≡ Some hop
    by_hop None e = cc
    by_hop (Some own) e = ap Some (by_mac own (look now own i.cache) e)

-- of the route that is picked
picked-whole : (routes : List Route) (to : Addr) (hop : Hop) → AreWholeRoutes routes → pick routes to ≡ Some hop → IsWholeHop hop
unfolding pick
picked-whole routes to hop whole = by_route (find (is_best routes to) routes) refl
  where
    by_route : (o : Option Route) → find (is_best routes to) routes ≡ o → option_map (λ (best : Route). best.hop) o ≡ Some hop → IsWholeHop hop
    by_route None found e = cc
    by_route (Some r) found e =
        let same : r.hop ≡ hop = cc in
        subst IsWholeHop same (All-find (λ (x : Route). IsWholeHop x.hop) (is_best routes to) routes r whole found)

next-whole : (routes : List Route) (to hop : Addr) → AreWholeRoutes routes → length to.0 ≡ 4 → next_hop routes to ≡ Some hop → length hop.0 ≡ 4
next-whole routes to hop whole four = by_pick (pick routes to) refl
  where
    by_pick : (o : Option Hop) → pick routes to ≡ o → option_map (neighbour_by to) o ≡ Some hop → length hop.0 ≡ 4
    by_pick None picked e = cc
    by_pick (Some Direct) picked e = let same : to ≡ hop = cc in subst (λ (a : Addr). length a.0 ≡ 4) same four
    by_pick (Some (Gateway gateway)) picked e =
        let same : gateway ≡ hop = cc in
        subst (λ (a : Addr). length a.0 ≡ 4) same (picked-whole routes to (Gateway gateway) whole picked)

pub asked-whole : (i : InterfaceView) (now : Moment) (to hop : Addr) → AreWholeRoutes i.routes → length to.0 ≡ 4 → way i now to ≡ Ask hop → length hop.0 ≡ 4
asked-whole i now to hop whole four is = next-whole i.routes to hop whole four (asked-next i now to hop is)
