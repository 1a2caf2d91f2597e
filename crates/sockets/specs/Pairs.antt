-- The pair of endpoints of a connection in the table.
use Rattle.std.specs.Prelude.{Option, Some, None, option_and_then}
use Rattle.ipv4.specs.declared.addr.Pair.{Pair}
use Rattle.ipv4.specs.Addresses.{pair_of}
use Rattle.sockets.specs.declared.entry.SocketId.{SocketId}
use Rattle.sockets.specs.declared.role.Role.{Role}
use Rattle.sockets.specs.Entries.{in_connection}
use Rattle.sockets.specs.SocketsView.{SocketsView, role_of}

-- the pair of a connection
abbrev pub pair_in : Role → Option Pair
pair_in role = in_connection None (λ c. Some (pair_of c.local c.peer)) role

-- the pair of the connection that a socket has
abbrev pub socket_pair : SocketsView → SocketId → Option Pair
socket_pair h id = option_and_then pair_in (role_of h id)
