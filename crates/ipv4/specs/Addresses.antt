-- Addresses of hosts, and the endpoints of connections (RFC 791 section 3.2, RFC 1122 section 3.2.1.3).
use Rattle.std.specs.Prelude.{◌≡◌, ◌≢◌, ◌≤◌, ◌==◌, ◌&&◌, not, nat_eq, nat_le, Bool, length, slice_index, if◌then◌else◌}
use Rattle.std.specs.declared.cmp.Ordering.{Ordering}
use Rattle.std.specs.Ordering.{nat_cmp, ordering_then, is_le}
use Rattle.std.specs.Cmp.Lexicographic.{pointwise, slice_cmp}
use Rattle.ipv4.specs.declared.addr.Addr.{Addr}
use Rattle.ipv4.specs.declared.addr.Endpoint.{Endpoint}
use Rattle.ipv4.specs.declared.addr.Pair.{Pair}

-- an address that one host may have: none of network 0, the loopback network 127, or the classes D and E
pub record IsUnicast (addr : Addr) : Type 0 where
  pub octets : length addr.0 ≡ 4
  pub not_this_network : 1 ≤ slice_index addr.0 0
  pub class_a_to_c : slice_index addr.0 0 ≤ 223
  pub not_loopback : slice_index addr.0 0 ≢ 127

-- the test for it: the first octet is 1 to 223, and not 127
abbrev pub is_unicast : Addr → Bool
is_unicast addr = let first = slice_index addr.0 0 in nat_le 1 first && nat_le first 223 && not (first == 127)

-- octet by octet
abbrev pub same_addr : Addr → Addr → Bool
same_addr a b = pointwise nat_eq a.0 b.0

-- one address, and one port there
abbrev pub same_end : Endpoint → Endpoint → Bool
same_end a b = same_addr a.addr b.addr && (a.port == b.port)

-- endpoints in order: by address, octet by octet, and then by port
abbrev pub endpoint_cmp : Endpoint → Endpoint → Ordering
endpoint_cmp a b = ordering_then (slice_cmp nat_cmp a.addr.0 b.addr.0) (nat_cmp a.port b.port)

-- the pair of two endpoints: the lesser one is the first
abbrev pub pair_of : Endpoint → Endpoint → Pair
pair_of a b = if is_le (endpoint_cmp a b) then record { first = a; second = b } else record { first = b; second = a }
