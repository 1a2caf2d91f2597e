-- What befalls a connection at one step of its host.
use Rattle.std.proofs.Common.{◌≡◌, ◌<◌, ◌≤◌, ◌^◌, ◌||◌, ℕ, true, false, List, [], take, length, Option, Some, None, is_some}
use Rattle.clock.specs.declared.moment.Moment.{Moment}
use Rattle.ipv4.specs.declared.addr.Addr.{Addr}
use Rattle.ipv4.specs.declared.addr.Endpoint.{Endpoint}
use Rattle.tcp_segment.specs.Segment.{Segment}
use Rattle.tcp_segment.specs.Sent.{sent_segment}
use Rattle.tcp_halves.specs.Halves.{Room}
use Rattle.tcp_state.specs.declared.emission.Due.{Due}
use Rattle.tcp_state.specs.Arrival.{opened_passively, after_segment_at}
use Rattle.tcp_state.specs.Calls.{send_count, after_send, recv_count, after_recv, shutdown_refusal, after_shutdown, after_close}
use Rattle.tcp_state.specs.Due.{first_due, head_of, octets_of}
use Rattle.tcp_state.specs.Edges.{Event, Ticks, SetsNoDelay, SetsKeepAlive, Aborts, Unreachable, LosesHop, after_first, after_event}
use Rattle.tcp_state.specs.View.{View, IsSound, is_closed, is_opening, is_read_closed, is_write_closed, opened_actively}
use Rattle.sockets.specs.declared.entry.SocketId.{SocketId}
use Rattle.sockets.specs.Closing.{entry_of}
use Rattle.host.specs.ConfigView.{ConfigView}
use Rattle.host.specs.HostView.{HostView}
use Rattle.host_law.specs.Callers.{sent_at, read_at, ended_at, closed_at}
use Rattle.host_law.specs.Coming.{IsHeard, IsOpenedBy}
use Rattle.host_law.specs.Going.{GoesOut}
use Rattle.host_law.specs.History.{Step, connection_of}

-- the id is given, and no entry has it: none ever will again
pub record IsGone (id : SocketId) (h : HostView) : Type 0 where
  pub given : id.0 ≤ h.sockets.last_id
  pub none : entry_of h.sockets id ≡ None

-- nothing is taken of the connection's caller, and it is told nothing
pub record IsUntold (id : SocketId) (step : Step) : Type 0 where
  pub sent : sent_at id step.before step.event ≡ []
  pub read : read_at id step.before step.event ≡ []
  pub ended : ended_at id step.before step.event ≡ false

-- a frame goes out with what a connection has due
pub record IsOut (c : ConfigView) (v : View) (due : Due) (step : Step) : Type 0 where
  pub own : v.local.addr ≡ c.addr
  pub goes : GoesOut c.addr v.peer.addr (sent_segment (head_of v due) (octets_of v due)) step

-- an event by which no segment comes or goes and the caller is told nothing
abbrev pub IsQuiet : Event → Type 0
IsQuiet (Ticks now) = Unit {0}
IsQuiet (SetsNoDelay on now) = Unit {0}
IsQuiet (SetsKeepAlive every now) = Unit {0}
IsQuiet (Aborts now) = Unit {0}
IsQuiet (Unreachable number) = Unit {0}
IsQuiet (LosesHop now) = Unit {0}
IsQuiet _ = ⊥

-- such events in a row
pub data Quietly : View → View → Type 0 where
  stays : (v : View) → Quietly v v
  moves : (v w : View) (e : Event) → IsQuiet e → Quietly (after_event v e) w → Quietly v w

pub data Befalls (c : ConfigView) (id : SocketId) (step : Step) : Option View → Option View → Type 0 where
  -- there is none, not yet or no longer
  absent : IsUntold id step → (IsGone id step.before → IsGone id step.after) → Befalls c id step None None
  -- its caller opens it, or a segment
  connects : (room : Room) (local peer : Endpoint) (isn : ℕ) (now : Moment) → isn < 2 ^ 32 → IsUntold id step → (IsGone id step.before → ⊥) → Befalls c id step None (Some (opened_actively room local peer isn now))
  accepts : (room : Room) (local peer : Endpoint) (isn : ℕ) (s : Segment) (now : Moment) → isn < 2 ^ 32 → IsUntold id step → (IsGone id step.before → ⊥) → IsOpenedBy c id (opened_passively room local peer isn s now) s step
      → Befalls c id step None (Some (opened_passively room local peer isn s now))
  -- it stays, or the clock moves it, a wish of its caller, its abort, or an error
  quietly : (v w : View) → IsUntold id step → Quietly v w → Befalls c id step (Some v) (Some w)
  -- a segment comes
  hears : (v : View) (s : Segment) (now : Moment) → IsUntold id step → IsHeard c id v s step → Befalls c id step (Some v) (Some (after_segment_at v s now))
  -- what is due goes out
  emits : (v : View) (now : Moment) → IsUntold id step → ((due : Due) → first_due v ≡ Some due → IsOut c v due step) → Befalls c id step (Some v) (Some (after_first v (first_due v) now))
  -- its caller gives octets, reads, or closes its side or the connection
  sends : (v : View) (octets : List ℕ) (now : Moment) → (is_some v.pending_error || is_opening v.state || is_write_closed v.state) ≡ false → sent_at id step.before step.event ≡ take (send_count v octets) octets
      → read_at id step.before step.event ≡ [] → ended_at id step.before step.event ≡ false → Befalls c id step (Some v) (Some (after_send v octets now))
  reads : (v : View) (len : ℕ) → (is_some v.pending_error || is_opening v.state) ≡ false → v.released ≡ false → sent_at id step.before step.event ≡ [] → read_at id step.before step.event ≡ take (recv_count v len) v.receiving.readable
      → (ended_at id step.before step.event ≡ true → (length v.receiving.readable ≡ 0) × (is_read_closed v.state ≡ true)) → Befalls c id step (Some v) (Some (after_recv v len))
  shuts : (v : View) (now : Moment) → IsUntold id step → closed_at id step.event ≡ true → shutdown_refusal v ≡ None → Befalls c id step (Some v) (Some (after_shutdown v now))
  closes : (v : View) (now : Moment) → IsUntold id step → closed_at id step.event ≡ true → Befalls c id step (Some v) (Some (after_close v now))
  -- it leaves the table
  leaves : (v : View) → IsUntold id step → IsGone id step.after → Befalls c id step (Some v) None

-- a segment for an address is what a connection that lives has due
pub record IsDueOf (c : ConfigView) (h : HostView) (to : Addr) (s : Segment) : Type 0 where
  pub id : SocketId
  pub v : View
  pub connection : connection_of id h ≡ Some v
  pub lives : is_closed v.state ≡ false
  pub own : v.local.addr ≡ c.addr
  pub peer : v.peer.addr ≡ to
  pub due : Due
  pub first : first_due v ≡ Some due
  pub is : s ≡ sent_segment (head_of v due) (octets_of v due)

-- the fields of a segment are of their widths
pub record FitsWidths (s : Segment) : Type 0 where
  pub number : s.number < 2 ^ 32
  pub acknowledgement : s.acknowledgement < 2 ^ 32
  pub octets : length s.octets < 2 ^ 16

-- What a step of a host is to the connection of an id: this befalls it, it was sound, and what it hears fits.
pub record IsOfConnection (c : ConfigView) (id : SocketId) (step : Step) : Type 0 where
  pub befalls : Befalls c id step (connection_of id step.before) (connection_of id step.after)
  pub sound : (v : View) → connection_of id step.before ≡ Some v → IsSound v
  pub fits : (v : View) (s : Segment) → IsHeard c id v s step → FitsWidths s
