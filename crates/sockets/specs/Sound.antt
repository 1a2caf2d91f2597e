-- What every connection in the table keeps of itself, and that no connection stays that is over.
use Rattle.std.specs.Prelude.{Bool, ◌≡◌, ◌<◌, ◌^◌, false, length}
use Rattle.std.specs.List.{AllByRecursion}
use Rattle.ipv4.specs.declared.addr.Endpoint.{Endpoint}
use Rattle.tcp_state.specs.View.{View, IsSound, is_over}
use Rattle.sockets.specs.declared.entry.Entry.{Entry}
use Rattle.sockets.specs.declared.role.Role.{Role}
use Rattle.sockets.specs.declared.role.Role.TheVariants.{Idle, Listener, Connected, Datagrams}
use Rattle.sockets.specs.Entries.{in_connection}
use Rattle.sockets.specs.SocketsView.{SocketsView}

-- an endpoint's fields are of their width
pub record IsEndpoint (e : Endpoint) : Type 0 where
  pub addr : length e.addr.0 ≡ 4
  pub port : e.port < 2 ^ 16

-- what every connection keeps of itself
pub record IsSoundConnection (c : View) : Type 0 where
  pub sound : IsSound c
  pub local : IsEndpoint c.local
  pub peer : IsEndpoint c.peer

abbrev pub IsSoundRole : Role → Type 0
IsSoundRole (Connected c listener) = IsSoundConnection c
IsSoundRole (Listener local backlog) = Unit {0}
IsSoundRole (Idle buffers bound) = Unit {0}
IsSoundRole (Datagrams bound socket) = Unit {0}

pub record IsSoundTable (h : SocketsView) : Type 0 where
  pub entries : AllByRecursion (λ (e : Entry). IsSoundRole e.role) h.entries

-- a connection of which nothing is left: its caller closed it, it is CLOSED and owes no reset
abbrev pub is_over_in : Role → Bool
is_over_in role = in_connection false is_over role

-- no entry of the table is over
abbrev pub NoneIsOver : SocketsView → Type 0
NoneIsOver h = AllByRecursion (λ (e : Entry). is_over_in e.role ≡ false) h.entries
