-- The addresses of a link that are no host's (RFC 1122 section 3.2.1.3).
use Rattle.std.specs.Prelude.{◌≡◌, ◌⊎◌, ℕ, ◌+◌, ◌-◌, ◌^◌, ◌<◌, ◌≤◌, ◌==◌, nat_lt, Bool, true, false, ◌&&◌, ◌||◌, List}
use Rattle.std.specs.List.{list_any}
use Rattle.ipv4.specs.declared.addr.Addr.{Addr}
use Rattle.ipv4.specs.declared.prefix.Prefix.{Prefix}
use Rattle.ipv4.specs.Prefixes.{number, bit, StartAlike}
use Rattle.routes.specs.declared.route.Hop.{Hop}
use Rattle.routes.specs.declared.route.Hop.TheVariants.{Direct, Gateway}
use Rattle.routes.specs.declared.route.Route.{Route}

-- the last address with a prefix: each bit past it is set
abbrev pub last_number : Prefix → ℕ
last_number prefix = number prefix.addr + (2 ^ (32 - prefix.length) - 1)

-- the address of the network itself, or that of all its hosts; a network of two addresses, or one, has neither (RFC 3021)
abbrev pub is_end_of : Addr → Prefix → Bool
is_end_of addr prefix = nat_lt prefix.length 31 && (number addr == number prefix.addr || number addr == last_number prefix)

-- Bit by bit: it has the prefix, and past that each bit is 0, or each is 1.
abbrev pub AllPast : ℕ → Prefix → Addr → Type 0
AllPast value prefix addr = (k : ℕ) → prefix.length ≤ k → k < 32 → bit addr k ≡ value

abbrev pub IsEndOf : Addr → Prefix → Type 0
IsEndOf addr prefix = (prefix.length < 31) × StartAlike prefix.length prefix.addr addr × (AllPast 0 prefix addr ⊎ AllPast 1 prefix addr)

abbrev pub is_direct : Hop → Bool
is_direct Direct = true
is_direct (Gateway gateway) = false

-- one of a network on the link
abbrev pub is_link_end : List Route → Addr → Bool
is_link_end table addr = list_any (λ route. is_direct route.hop && is_end_of addr route.prefix) table
