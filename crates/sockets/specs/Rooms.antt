-- What the connections of a table may hold.
use Rattle.std.specs.Prelude.{◌≤◌, ℕ}
use Rattle.std.specs.List.{AllByRecursion}
use Rattle.sockets.specs.declared.entry.Entry.{Entry}
use Rattle.sockets.specs.declared.role.Role.{Role}
use Rattle.sockets.specs.declared.role.Role.TheVariants.{Idle, Listener, Connected, Datagrams}
use Rattle.sockets.specs.SocketsView.{SocketsView}

-- the buffers of a connection, and of a socket that may open one, are made for so many octets each way at most
abbrev pub HasRoomFor : ℕ → Role → Type 0
HasRoomFor most (Connected c listener) = c.receiving.capacity ≤ most
HasRoomFor most (Idle buffers bound) = buffers.capacity ≤ most
HasRoomFor most (Listener local backlog) = Unit {0}
HasRoomFor most (Datagrams bound socket) = Unit {0}

-- those of each entry for as many as the table's size says
abbrev pub KeepsToItsSize : SocketsView → Type 0
KeepsToItsSize h = AllByRecursion (λ (e : Entry). HasRoomFor h.sizes.buffer e.role) h.entries
