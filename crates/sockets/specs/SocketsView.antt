-- What a reader sees of the table of sockets and connections over one address.
use Rattle.std.specs.Prelude.{◌≡◌, ℕ, ◌<◌, ◌≤◌, min, nat_lt, if◌then◌else◌, List, [], Option, option_map, find}
use Rattle.ipv4.specs.declared.addr.Addr.{Addr}
use Rattle.ipv4.specs.declared.addr.Pair.{Pair}
use Rattle.tcp_halves.specs.declared.buffers.TheConstants.{CAPACITY, LARGEST_CAPACITY}
use Rattle.sockets.specs.declared.sizes.TheConstants.{LEAST_BUFFER, MOST_ENTRIES}
use Rattle.sockets.specs.declared.sizes.Sizes.{Sizes}
use Rattle.tcp_halves.specs.declared.buffers.Manner.{Manner}
use Rattle.tcp_halves.specs.Halves.{Room}
use Rattle.clock.specs.declared.moment.Moment.{Moment}
use Rattle.sockets.specs.declared.entry.SocketId.{SocketId}
use Rattle.sockets.specs.declared.entry.Entry.{Entry}
use Rattle.sockets.specs.declared.role.Role.{Role}
use Rattle.sockets.specs.Lists.{change_first}
use Rattle.sockets.specs.Entries.{is_socket, is_of_pair, with_role}

-- a table holds from 1 to 16,384 entries, and a connection from 2,048 to 1,048,576 octets each way
pub record IsSizes (sizes : Sizes) : Type 0 where
  pub some_entries : 0 < sizes.entries
  pub most_entries : sizes.entries ≤ MOST_ENTRIES
  pub least_buffer : LEAST_BUFFER ≤ sizes.buffer
  pub most_buffer : sizes.buffer ≤ LARGEST_CAPACITY

-- the lists of a table, of entries, of their ends and of those offered, have as many places as it is made for entries
pub record HasPlaces (sizes : Sizes) (of_entries of_ends of_offered : ℕ) : Type 0 where
  pub sized : IsSizes sizes
  pub entries : of_entries ≡ sizes.entries
  pub ends : of_ends ≡ sizes.entries
  pub offered : of_offered ≡ sizes.entries

-- its address, how its connections behave, the kept moment, the dynamic port given last (65,535 before the first), the id given last (0 before the first), the
-- identification of the next datagram (RFC 791 section 3.2), how large it is, its entries in order of id, the connections that wait to be accepted and have passed
-- SYN-RECEIVED, in the order in which they did, and the id of the entry that sent last (0 before the first)
pub record SocketsView : Type 0 where
  pub addr : Addr
  pub manner : Manner
  pub kept : Moment
  pub last_port : ℕ
  pub last_id : ℕ
  pub identification : ℕ
  pub sizes : Sizes
  pub entries : List Entry
  pub offered : List SocketId
  pub turn : SocketId

-- what the socket that the id names is
abbrev pub role_of : SocketsView → SocketId → Option Role
role_of h id = option_map (λ e. e.role) (find (is_socket id) h.entries)

-- that socket changed, and everything else as it was
abbrev pub with_socket : SocketsView → SocketId → (Role → Role) → SocketsView
with_socket h id change = record h { entries = change_first (is_socket id) (with_role change) h.entries }

-- the later of a moment and the kept one
abbrev pub later_moment : SocketsView → Moment → Moment
later_moment h now = if nat_lt h.kept.0 now.0 then now else h.kept

-- what the buffers of a connection are made for: the octets of the table's size where windows are scaled (RFC 7323 section 2), else no more than a window in 16 bits tells
abbrev pub room_of : ℕ → Manner → Room
room_of buffer manner = record { capacity = if manner.scales then buffer else min buffer CAPACITY; manner = manner }

-- a table in which nothing happened
abbrev pub new_sockets : Addr → Manner → Sizes → SocketsView
new_sockets addr manner sizes = record {
  addr = addr;
  manner = manner;
  kept = record { 0 = 0 };
  last_port = 65535;
  last_id = 0;
  identification = 0;
  sizes = sizes;
  entries = [];
  offered = [];
  turn = record { 0 = 0 };
}

-- the entry with a connection of the pair, in any state but CLOSED
abbrev pub holder_id : SocketsView → Pair → Option SocketId
holder_id h pair = option_map (λ e. e.id) (find (is_of_pair pair) h.entries)
