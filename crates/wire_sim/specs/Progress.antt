-- What is asked of a world so that a round moves data, and what is promised then.
use Rattle.std.specs.Prelude.{◌≡◌, ◌⊎◌, ℕ, ◌+◌, ◌^◌, ◌<◌, true, [], length, find, None, Some}
use Rattle.std.specs.List.{AllByRecursion}
use Rattle.arp.specs.declared.entry.Neighbour.{Neighbour}
use Rattle.arp.specs.Cache.{is_pair_of}
use Rattle.tcp_state.specs.declared.state.State.TheVariants.{Established, FinWait2, CloseWait}
use Rattle.tcp_state.specs.View.{View, is_closed}
use Rattle.tcp_state.specs.Alive.{IsPatient}
use Rattle.sockets.specs.declared.entry.Entry.{Entry}
use Rattle.sockets.specs.declared.entry.SocketId.{SocketId}
use Rattle.sockets.specs.declared.role.Role.TheVariants.{Connected}
use Rattle.sockets.specs.Entries.{in_connection}
use Rattle.sockets.specs.SocketsView.{role_of}
use Rattle.host.specs.Places.{places}
use Rattle.sides.specs.declared.side.Side.{Side}
use Rattle.sides.specs.Sides.{other_side}
use Rattle.wire_sim.specs.Passage.{addr_at}
use Rattle.wire_sim.specs.Rounds.{IsRound}
use Rattle.wire_sim.specs.Runs.{IsReached}
use Rattle.wire_sim.specs.Trace.{sent_on, read_on}
use Rattle.wire_sim.specs.WorldView.{WorldView, NetworkView, host_of, table_of, clock_of}

-- The socket of this id at a side has this connection, and every other one of that host is CLOSED. Nothing is due there. An ARP packet of the other side's
-- host was heard (RFC 826) less than 1,100,000 milliseconds before the moment that the clock shows, which is far from its end.
pub record IsQuiet (n : NetworkView) (side : Side) (id : SocketId) (c : View) : Type 0 where
  pub socket : role_of (table_of n side) id ≡ Some (Connected c None)
  pub others : (let h = table_of n side in AllByRecursion (λ (e : Entry). (e.id ≡ id) ⊎ (in_connection true (λ d. is_closed d.state) e.role ≡ true)) h.entries)
  pub nothing : places (host_of n side) ≡ []
  pub other : Neighbour
  pub heard : (let h = host_of n side in find (is_pair_of (addr_at n (other_side side))) h.interface.cache.pairs ≡ Some other)
  pub lately : (let now = clock_of n side in now.0 < other.heard.0 + 1100000)
  pub early : (let now = clock_of n side in now.0 < 2 ^ 63)

-- What is asked of a world and of the connections of two of its sockets, the writer's and the reader's: both hosts are quiet but for them, and they are each other's
-- ends. The one is in ESTABLISHED or CLOSE-WAIT, the other in ESTABLISHED or FIN-WAIT-2, and holds no octets of its own. The writer's timers expired under 12 times since the last progress, and where one asks a
-- silent peer whether it is there, it did so under 12 times since that last said something. More was sent on the one socket than was read on the other.
pub record MayMove (writer : Side) (writer_id reader_id : SocketId) (v d : View) (w : WorldView) : Type 0 where
  pub writes : IsQuiet w.network writer writer_id v
  pub reads : IsQuiet w.network (other_side writer) reader_id d
  pub local : v.local ≡ d.peer
  pub peer : v.peer ≡ d.local
  pub sends : (v.state ≡ Established) ⊎ (v.state ≡ CloseWait)
  pub receives : (d.state ≡ Established) ⊎ (d.state ≡ FinWait2)
  pub acknowledged : d.sending.held ≡ []
  pub few : v.resend.expiries < 12
  pub patient : IsPatient v × IsPatient d
  pub unread : length (read_on (other_side writer) reader_id w.trace) < length (sent_on writer writer_id w.trace)

-- What is promised between two worlds: both sockets have their connections yet, in the states in which they were, so neither is CLOSED; and more was read
-- than before, or the writer holds fewer octets than before.
pub record HasMoved (writer : Side) (writer_id reader_id : SocketId) (v d : View) (old new : WorldView) : Type 0 where
  pub written : View
  pub read : View
  pub writes : role_of (table_of new.network writer) writer_id ≡ Some (Connected written None)
  pub reads : role_of (table_of new.network (other_side writer)) reader_id ≡ Some (Connected read None)
  pub states : (written.state ≡ v.state) × (read.state ≡ d.state)
  pub moved : (length (read_on (other_side writer) reader_id old.trace) < length (read_on (other_side writer) reader_id new.trace)) ⊎ (length written.sending.held < length v.sending.held)

-- A round from a world that was reached moves data.
abbrev pub EveryRoundMovesData : Type 0
EveryRoundMovesData = (limit : ℕ) (writer : Side) (writer_id reader_id : SocketId) (count : ℕ) (v d : View) (old new : WorldView) → IsReached limit old → MayMove writer writer_id reader_id v d old
    → IsRound writer reader_id count old new → HasMoved writer writer_id reader_id v d old new
