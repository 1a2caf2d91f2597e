-- The two hosts can be set up: 10.0.0.0/24 is a prefix.
use Rattle.std.proofs.Common.{Bool, [], ◌∷◌, refl, ap, rules, arith}
use Rattle.ipv4.specs.declared.addr.Addr.{Addr}
use Rattle.ipv4.specs.Prefixes.{IsPrefix, number}
use Rattle.ipv4.proofs.Prefixes.{unmasked}
use Rattle.routes.specs.declared.route.Route.{Route}
use Rattle.routes.specs.declared.route.Hop.TheVariants.{Direct}
use Rattle.tcp_halves.specs.declared.buffers.Manner.{Manner}
use Rattle.host.specs.declared.sizes.TheConstants.Sizes.{USUAL}
use Rattle.host.specs.ConfigView.{ConfigView, usual_manner}
use Rattle.sides.specs.declared.side.Side.{Side}
use Rattle.wire_sim.specs.Hosts.{address_of, mac_of, IsSetUp}

abbrev link_addr : Addr
link_addr = record { 0 = 10 ∷ 0 ∷ 0 ∷ 0 ∷ [] }

pub link_is_prefix : IsPrefix (record { 0 = 10 ∷ 0 ∷ 0 ∷ 0 ∷ [] }) 24
link_is_prefix = record { octets = refl; in_range = search rules; at_most = omega arith; no_bit_past = unmasked (number link_addr) (number link_addr) 24 refl refl }

abbrev link_route : Route
link_route = record { prefix = record { addr = link_addr; length = 24; form = link_is_prefix }; hop = Direct }

-- how a side's host is set up
pub set_up : Bool → Side → ConfigView
set_up scales side = record { mac = mac_of side; addr = address_of side; routes = link_route ∷ []; manner = record usual_manner { scales = scales }; sizes = USUAL }

pub is_set_up : (scales : Bool) (side : Side) → IsSetUp scales side (set_up scales side)
unfolding set_up
is_set_up scales side = record { mac = refl; addr = refl; route = link_route; link = record { first = refl; length = refl; hop = refl }; routes = refl; manner = refl; sizes = refl }

-- .. and one that uses the window scale option or doesn't where another such host did or didn't
pub scaled_anew : (was scales : Bool) (side : Side) (old : ConfigView) → IsSetUp was side old → IsSetUp scales side (record old { manner = record old.manner { scales = scales } })
scaled_anew was scales side old is =
    record { mac = is.mac; addr = is.addr; route = is.route; link = is.link; routes = is.routes; manner = ap (λ (m : Manner). record m { scales = scales }) is.manner; sizes = is.sizes }
