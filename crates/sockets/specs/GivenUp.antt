-- How much is given up at a moment, since it has waited for 3,000 milliseconds for an address that is lost.
use Rattle.std.specs.Prelude.{ℕ, Bool, List, [], count_by}
use Rattle.std.specs.List.{flat_map}
use Rattle.ipv4.specs.declared.addr.Addr.{Addr}
use Rattle.clock.specs.declared.moment.Moment.{Moment}
use Rattle.udp_socket.specs.SocketView.{Outgoing}
use Rattle.udp_socket.specs.Waits as datagrams
use Rattle.sockets.specs.declared.role.Role.{Role}
use Rattle.sockets.specs.declared.role.Role.TheVariants.{Idle, Listener, Connected, Datagrams}
use Rattle.sockets.specs.Lost.{is_given_up}
use Rattle.sockets.specs.SocketsView.{SocketsView, later_moment}

-- the datagrams of an entry that wait to go out
abbrev pub outbox_of : Role → List Outgoing
outbox_of (Datagrams bound socket) = socket.outbox
outbox_of (Connected c listener) = []
outbox_of (Listener local backlog) = []
outbox_of (Idle buffers bound) = []

-- .. and those of all, in the table's order
abbrev pub waiting_datagrams : SocketsView → List Outgoing
waiting_datagrams h = flat_map (λ e. outbox_of e.role) h.entries

-- how many datagrams are given up
abbrev pub datagrams_given_up : SocketsView → (Addr → Bool) → Moment → ℕ
datagrams_given_up h lost now = count_by (datagrams.is_given_up lost (later_moment h now)) (waiting_datagrams h)

-- how many resets of aborts are
abbrev pub resets_given_up : SocketsView → (Addr → Bool) → Moment → ℕ
resets_given_up h lost now = count_by (λ e. is_given_up lost (later_moment h now) e.role) h.entries
