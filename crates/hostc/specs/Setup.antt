-- How a host is set up by what is passed.
use Rattle.std.specs.Prelude.{◌≡◌, ◌⊎◌, ℕ, ℤ, pos, List, map, Option, Some, None}
use Rattle.ipv4.specs.declared.addr.Addr.{Addr}
use Rattle.ipv4.specs.Addresses.{IsUnicast}
use Rattle.routes.specs.declared.route.Hop.{Hop}
use Rattle.routes.specs.declared.route.Route.{Route}
use Rattle.routes.specs.Routes.{IsTable}
use Rattle.sockets.specs.declared.refusal.Refusal.TheVariants.{EINVAL, ENOMEM}
use Rattle.host.specs.HostView.{HostView, new_host}
use Rattle.host.specs.ConfigView.{ConfigView, IsOfOne}
use Rattle.host.specs.Sizes.{IsSizes}
use Rattle.hostc.specs.Config.{IsConfig, config_in}
use Rattle.hostc.specs.Numbers.{refused}
use Rattle.hostc.specs.Types.{addr_of, hop_of}
use Rattle.hostc.specs.declared.config.Config.{Config}
use Rattle.hostc.specs.declared.types.HostRoute.{HostRoute}

-- what a route says: its prefix, and the hop
abbrev pub said : Route → Addr × ℕ × Hop
said route = (route.prefix.addr, route.prefix.length, route.hop)

abbrev pub said_by : HostRoute → Addr × ℕ × Hop
said_by route = (addr_of route.prefix, route.length, hop_of route.gateway)

-- the routes that were passed, in their order
abbrev pub IsTold : List HostRoute → List Route → Type 0
IsTold given table = map said table ≡ map said_by given

-- the set-up of a host by a config and a table of routes: its connections behave as the config says
abbrev pub host_config : Config → List Route → ConfigView
host_config c table = record {
  mac = c.mac;
  addr = addr_of c.addr;
  routes = table;
  manner = record {
    scales = c.scales;
    minshall = c.minshall;
    control = record { recovery = c.recovery; first_threshold = c.first_threshold; first_segments = c.first_segments };
    least_timeout = c.least_timeout;
    guards = c.guards;
  };
  sizes = c.sizes;
}

-- a host with this set-up, on which nothing happened
abbrev pub IsNew : Config → List HostRoute → HostView → Type 0
IsNew c given h = (table : List Route) × IsTold given table × (h ≡ new_host (host_config c table))

-- routes that make a table: each prefix is one, no two routes have one prefix, and there are 32 at most
abbrev pub IsValidTable : List HostRoute → Type 0
IsValidTable given = (table : List Route) × IsTable table × IsTold given table

-- one interface's MAC, one host's address, routes that make a table, and sizes in their ranges
pub record IsValidSetup (c : Config) (given : List HostRoute) : Type 0 where
  pub one_interface : IsOfOne c.mac
  pub one_host : IsUnicast (addr_of c.addr)
  pub table : IsValidTable given
  pub sizes : IsSizes c.sizes

-- A handle that holds a host keeps it: EINVAL. Another one stays as it was where the set-up isn't valid, EINVAL, and else where memory runs
-- out, ENOMEM, or holds the new host.
abbrev pub Setup : Config → List HostRoute → Option HostView → ℤ → Option HostView → Type 0
Setup c given (Some h) answer new = (answer ≡ refused EINVAL) × (new ≡ Some h)
Setup c given None answer new =
    ((answer ≡ refused EINVAL) × ¬ IsValidSetup c given × (new ≡ None))
    ⊎ (IsValidSetup c given × (((answer ≡ refused ENOMEM) × (new ≡ None)) ⊎ ((answer ≡ pos 0) × ((h : HostView) × IsNew c given h × (new ≡ Some h)))))

-- The same by the octets of a config, and the routes beside it: octets that are none are EINVAL, and the handle stays as it was.
abbrev pub SetupBy : List ℕ → List HostRoute → Option HostView → ℤ → Option HostView → Type 0
SetupBy octets given old answer new = (¬ IsConfig octets × (answer ≡ refused EINVAL) × (new ≡ old)) ⊎ (IsConfig octets × Setup (config_in octets) given old answer new)
