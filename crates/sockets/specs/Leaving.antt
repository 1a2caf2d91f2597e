-- Which window every connection of the table leaves its peer.
use Rattle.std.specs.Prelude.{◌*◌, ◌≤◌, length}
use Rattle.std.specs.List.{AllByRecursion}
use Rattle.tcp_segment.specs.declared.TheConstants.{MSS}
use Rattle.tcp_halves.specs.Stream.{size_of}
use Rattle.tcp_state.specs.Progress.{LeavesAWindow}
use Rattle.sockets.specs.declared.entry.Entry.{Entry}
use Rattle.sockets.specs.declared.role.Role.{Role}
use Rattle.sockets.specs.declared.role.Role.TheVariants.{Idle, Listener, Connected, Datagrams}
use Rattle.sockets.specs.SocketsView.{SocketsView}
use Rattle.sockets.specs.Causes.{Event, Makes, Hears}

-- a connection leaves one, and a socket that may open a connection has room for three segments
abbrev pub LeavesAWindowIn : Role → Type 0
LeavesAWindowIn (Connected c listener) = LeavesAWindow c
LeavesAWindowIn (Idle buffers bound) = 3 * MSS ≤ size_of buffers
LeavesAWindowIn (Listener local backlog) = Unit {0}
LeavesAWindowIn (Datagrams bound socket) = Unit {0}

abbrev pub EachLeavesAWindow : SocketsView → Type 0
EachLeavesAWindow h = AllByRecursion (λ (e : Entry). LeavesAWindowIn e.role) h.entries

-- a socket that an event makes has such room, and a segment that comes has no more octets than a segment may have
abbrev pub IsSized : Event → Type 0
IsSized (Makes buffers) = 3 * MSS ≤ size_of buffers
IsSized (Hears now isn source s) = length s.octets ≤ MSS
IsSized _ = Unit {0}
