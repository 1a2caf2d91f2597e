-- The entries of the table by their local port, and then by their peer.
use Rattle.std.specs.Prelude.{◌≡◌, ℕ, ◌+◌, ◌*◌, ◌%◌, ◌==◌, ◌&&◌, ◌||◌, nat_lt, Bool, false, cond, List, [], ◌∷◌, Option, Some, None, option_map}
use Rattle.std.specs.List.{AllByRecursion}
use Rattle.ipv4.specs.declared.addr.Endpoint.{Endpoint}
use Rattle.ipv4.specs.Prefixes.{number}
use Rattle.sockets.specs.declared.entry.SocketId.{SocketId}
use Rattle.sockets.specs.declared.entry.Entry.{Entry}
use Rattle.sockets.specs.declared.found.Sought.{Sought}
use Rattle.sockets.specs.declared.found.Sought.TheVariants as sought
use Rattle.sockets.specs.declared.index.Filed.{Filed}
use Rattle.sockets.specs.declared.role.Role.{Role}
use Rattle.sockets.specs.declared.role.Role.TheVariants.{Idle, Listener, Connected, Datagrams}
use Rattle.sockets.specs.Entries.{is_live_between, listens_at, uses_datagram_port, uses_port, has_socket}
use Rattle.sockets.specs.Ids.{has_id}

-- the peer of what has none: 0.0.0.0 and port 0
abbrev pub no_peer : Endpoint
no_peer = record { addr = record { 0 = 0 ∷ 0 ∷ 0 ∷ 0 ∷ [] }; port = 0 }

-- the number of a peer, of the 48 bits that its address and its port have
abbrev pub peer_number : Endpoint → ℕ
peer_number peer = (number peer.addr * 65536 + peer.port) % 281474976710656

-- the number of a local port and a peer, by which an entry of the table is found, and of which the port is what counts first
unfoldable pub key_of : ℕ → Endpoint → ℕ
key_of port peer = port * 281474976710656 + peer_number peer

-- what the id names is filed by a local port and a peer
abbrev pub filed_at : SocketId → ℕ → Endpoint → Filed
filed_at id port peer = record { key = key_of port peer; id = id }

-- The local port of an entry and its peer, where it has a port: a connection in any state, a listener, or a socket that is bound, over TCP or UDP.
abbrev pub port_and_peer : Role → Option (ℕ × Endpoint)
port_and_peer (Connected c listener) = Some (c.local.port, c.peer)
port_and_peer (Listener local backlog) = Some (local.port, no_peer)
port_and_peer (Idle buffers bound) = option_map (λ local. (local.port, no_peer)) bound
port_and_peer (Datagrams bound socket) = option_map (λ local. (local.port, no_peer)) bound

-- what a role is filed as: by these two, where it has a port
abbrev pub filed_as : SocketId → Role → Option Filed
filed_as id role = option_map (λ ends. filed_at id ends.0 ends.1) (port_and_peer role)

abbrev pub filed : Entry → Option Filed
filed e = filed_as e.id e.role

-- one stands before another: by the key, and at the same key by the id
abbrev pub is_before : Filed → Filed → Bool
is_before a b = nat_lt a.key b.key || ((a.key == b.key) && nat_lt a.id.0 b.id.0)

-- none stands before one in front of it
abbrev pub AreSorted : List Filed → Type 0
AreSorted [] = Unit {0}
AreSorted (x ∷ xs) = AllByRecursion (λ y. is_before y x ≡ false) xs × AreSorted xs

-- a further one in its place
abbrev pub inserted : Filed → List Filed → List Filed
inserted x [] = x ∷ []
inserted x (y ∷ ys) = cond (is_before y x) (y ∷ inserted x ys) (x ∷ y ∷ ys)

abbrev pub with_filed : Option Filed → List Filed → List Filed
with_filed None index = index
with_filed (Some x) index = inserted x index

-- what of these entries is filed, in order of the keys
abbrev pub index_of : List Entry → List Filed
index_of [] = []
index_of (e ∷ rest) = with_filed (filed e) (index_of rest)

-- What is found by it.

-- a role is what is looked for
abbrev pub is_sought : Sought → Role → Bool
is_sought (sought.Connection local peer) role = is_live_between local peer role
is_sought (sought.Listener port) role = listens_at port role
is_sought (sought.Datagrams port) role = uses_datagram_port port role
is_sought (sought.Stream port) role = uses_port port role
is_sought (sought.Socket port) role = has_socket role && uses_port port role

-- an entry is
abbrev pub is_sought_in : Sought → Entry → Bool
is_sought_in what e = is_sought what e.role

-- the entry that the id names is
abbrev pub is_sought_as : SocketId → Sought → Entry → Bool
is_sought_as id what e = has_id id e && is_sought what e.role

-- the least key by which it may be filed
abbrev pub low_key : Sought → ℕ
low_key (sought.Connection local peer) = key_of local.port peer
low_key (sought.Listener port) = key_of port no_peer
low_key (sought.Datagrams port) = key_of port no_peer
low_key (sought.Stream port) = port * 281474976710656
low_key (sought.Socket port) = port * 281474976710656

-- and the greatest
abbrev pub high_key : Sought → ℕ
high_key (sought.Connection local peer) = key_of local.port peer
high_key (sought.Listener port) = key_of port no_peer
high_key (sought.Datagrams port) = key_of port no_peer
high_key (sought.Stream port) = port * 281474976710656 + 281474976710655
high_key (sought.Socket port) = port * 281474976710656 + 281474976710655
