-- A host with one connection that lives, of which alone anything is due.
use Rattle.std.specs.Prelude.{◌≡◌, true, false, List, [], ◌∷◌, ◌++◌, None}
use Rattle.std.specs.List.{AllByRecursion}
use Rattle.ipv4.specs.declared.addr.Addr.{Addr}
use Rattle.tcp_segment.specs.Segment.{Segment}
use Rattle.tcp_state.specs.View.{View, is_closed}
use Rattle.sockets.specs.Arrival.{local_end, peer_end}
use Rattle.sockets.specs.declared.entry.Entry.{Entry}
use Rattle.sockets.specs.declared.entry.SocketId.{SocketId}
use Rattle.sockets.specs.Entries.{in_connection, dues_of, is_socket}
use Rattle.sockets.specs.Offered.{IsReached}
use Rattle.sockets.specs.Steps.{connected}
use Rattle.sockets.specs.Timing.{EachKeepsTime}
use Rattle.host.specs.HostView.{HostView}
use Rattle.host.specs.Sound.{IsSoundHost}

-- What every host keeps of itself: it is sound, its table is one that events lead to, and its connections keep their time.
pub record IsKept (h : HostView) : Type 0 where
  pub sound : IsSoundHost h
  pub reached : IsReached h.sockets
  pub time : EachKeepsTime h.sockets

-- an entry that has nothing to send, and no connection but a CLOSED one
pub record IsSilent (e : Entry) : Type 0 where
  pub nothing : dues_of e.role ≡ []
  pub closed : in_connection true (λ c. is_closed c.state) e.role ≡ true

-- This connection lives, and it is that of the socket that the id names. All other entries are silent.
pub record IsAlone (h : HostView) (id : SocketId) (c : View) : Type 0 where
  pub before : List Entry
  pub behind : List Entry
  pub entries : h.sockets.entries ≡ before ++ connected id c None ∷ behind
  pub named : AllByRecursion (λ (e : Entry). is_socket id e ≡ false) before
  pub silent_before : AllByRecursion IsSilent before
  pub silent_behind : AllByRecursion IsSilent behind
  pub lives : is_closed c.state ≡ false
  pub called : c.released ≡ false

-- a segment from an address is for a connection of the table: it comes from its peer, for its own end
pub record IsFor (h : HostView) (c : View) (source : Addr) (s : Segment) : Type 0 where
  pub local : c.local ≡ local_end h.sockets s
  pub peer : c.peer ≡ peer_end source s
