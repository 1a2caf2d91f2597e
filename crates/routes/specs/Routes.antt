-- A table of routes, and the best route for an address: longest-prefix match (RFC 4632 section 5.1, RFC 1122 section 3.3.1).
use Rattle.std.specs.Prelude.{◌≡◌, ◌≢◌, ◌≤◌, List, ◌∷◌, ◌++◌, length, AllPairs, Contains, Option, Some, None}
use Rattle.ipv4.specs.declared.addr.Addr.{Addr}
use Rattle.ipv4.specs.declared.prefix.Prefix.{Prefix}
use Rattle.ipv4.specs.Prefixes.{StartAlike}
use Rattle.routes.specs.declared.route.Route.{Route}
use Rattle.routes.specs.declared.route.Hop.{Hop}
use Rattle.routes.specs.declared.table.TheConstants.{MOST}

-- no two entries of a table have one prefix, and there are 32 at most
pub record IsTable (table : List Route) : Type 0 where
  pub limit : length table ≤ MOST
  pub apart : AllPairs (λ one other. one.prefix ≢ other.prefix) table

-- an entry has this prefix
abbrev pub HasPrefix : List Route → Prefix → Type 0
HasPrefix table prefix = (route : Route) × Contains table route × (route.prefix ≡ prefix)

-- the old table is the new one with an entry of this prefix between two of its parts
pub record TakesOut (old new : List Route) (prefix : Prefix) : Type 0 where
  pub before : List Route
  pub route : Route
  pub after : List Route
  pub named : route.prefix ≡ prefix
  pub old_is : old ≡ before ++ route ∷ after
  pub new_is : new ≡ before ++ after

-- the address begins with the bits of the route's prefix
abbrev pub Matches : Route → Addr → Type 0
Matches route addr = StartAlike route.prefix.length route.prefix.addr addr

-- an entry that matches the address such that no matching entry has a longer prefix
pub record IsBest (table : List Route) (addr : Addr) (best : Route) : Type 0 where
  pub entry : Contains table best
  pub matches : Matches best addr
  pub longest : (other : Route) → Contains table other → Matches other addr → other.prefix.length ≤ best.prefix.length

-- where to send what is for the address: the hop of the best route, and none only where no entry matches
abbrev pub Picks : List Route → Addr → Option Hop → Type 0
Picks table addr (Some hop) = (best : Route) × IsBest table addr best × (best.hop ≡ hop)
Picks table addr None = (route : Route) → Contains table route → ¬ Matches route addr
