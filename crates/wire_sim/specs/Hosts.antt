-- The two hosts of a script and of a copy, and how each is set up.
use Rattle.std.specs.Prelude.{Bool, ◌≡◌, [], ◌∷◌}
use Rattle.ether.specs.declared.mac.Mac.{Mac}
use Rattle.ipv4.specs.declared.addr.Addr.{Addr}
use Rattle.routes.specs.declared.route.Route.{Route}
use Rattle.routes.specs.declared.route.Hop.TheVariants.{Direct}
use Rattle.host.specs.declared.sizes.TheConstants.Sizes.{USUAL}
use Rattle.host.specs.ConfigView.{ConfigView, usual_manner}
use Rattle.sides.specs.declared.side.Side.{Side}
use Rattle.sides.specs.declared.side.Side.TheVariants.{A, B}

-- 10.0.0.1 for a, 10.0.0.2 for b
abbrev pub address_of : Side → Addr
address_of A = record { 0 = 10 ∷ 0 ∷ 0 ∷ 1 ∷ [] }
address_of B = record { 0 = 10 ∷ 0 ∷ 0 ∷ 2 ∷ [] }

-- 02:00:00:00:00:01 for a, 02:00:00:00:00:02 for b
abbrev pub mac_of : Side → Mac
mac_of A = record { 0 = 2 ∷ 0 ∷ 0 ∷ 0 ∷ 0 ∷ 1 ∷ [] }
mac_of B = record { 0 = 2 ∷ 0 ∷ 0 ∷ 0 ∷ 0 ∷ 2 ∷ [] }

-- 10.0.0.0/24 is on the link
pub record IsLinkRoute (route : Route) : Type 0 where
  pub first : route.prefix.addr ≡ record { 0 = 10 ∷ 0 ∷ 0 ∷ 0 ∷ [] }
  pub length : route.prefix.length ≡ 24
  pub hop : route.hop ≡ Direct

-- how a side's host is set up: that is its one route, it uses the window scale option or doesn't, its small segments wait for all that is outstanding, and it is of the usual sizes
pub record IsSetUp (scales : Bool) (side : Side) (config : ConfigView) : Type 0 where
  pub mac : config.mac ≡ mac_of side
  pub addr : config.addr ≡ address_of side
  pub route : Route
  pub link : IsLinkRoute route
  pub routes : config.routes ≡ route ∷ []
  pub manner : config.manner ≡ record usual_manner { scales = scales }
  pub sizes : config.sizes ≡ USUAL
