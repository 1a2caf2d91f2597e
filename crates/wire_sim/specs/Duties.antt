-- What two hosts of one world come to by the segments that they give each other, whatever else their tables hold and whatever happens between: a `connect` is refused or accepted, and a
-- connection is closed by both (RFC 9293 sections 3.5, 3.5.2, 3.6 and 3.10.7).
use Rattle.std.specs.Prelude.{◌≡◌, ℕ, ◌+◌, ◌<◌, ◌==◌, ◌^◌, true, false, if◌then◌else◌, List, [], ◌∷◌, ◌++◌, length, count_by, find, Option, Some, None, Result, Err}
use Rattle.ipv4.specs.declared.addr.Endpoint.{Endpoint}
use Rattle.clock.specs.declared.moment.Moment.{Moment}
use Rattle.tcp_segment.specs.declared.head.Head.{Head}
use Rattle.tcp_segment.specs.declared.seq.Seq.{Seq}
use Rattle.tcp_segment.specs.Segment.{Segment}
use Rattle.tcp_segment.specs.Sent.{sent_segment}
use Rattle.tcp_segment.specs.Wire.{wire}
use Rattle.tcp_halves.specs.Stream.{receive_window}
use Rattle.tcp_state.specs.declared.calls.Refusal.TheVariants as error
use Rattle.tcp_state.specs.declared.emission.Due.TheVariants.{Syn, Text, Ack}
use Rattle.tcp_state.specs.declared.state.State.{State}
use Rattle.tcp_state.specs.declared.state.State.TheVariants.{Established, FinWait1, CloseWait, LastAck, TimeWait, Closed}
use Rattle.tcp_state.specs.Due.{first_due}
use Rattle.tcp_state.specs.Said.{segment_of, IsClosedBy}
use Rattle.tcp_state.specs.View.{View}
use Rattle.interface.specs.declared.reply.Reply.{Reply}
use Rattle.interface.specs.declared.reply.Reply.TheVariants.{Reset}
use Rattle.interface.specs.Ways.{is_routed}
use Rattle.sockets.specs.declared.entry.SocketId.{SocketId}
use Rattle.sockets.specs.declared.entry.Entry.{Entry}
use Rattle.sockets.specs.declared.refusal.Refusal.TheVariants.{ECONNREFUSED}
use Rattle.sockets.specs.Calls.{send_answer, recv_answer, shutdown_refusal}
use Rattle.sockets.specs.Closing.{entry_of}
use Rattle.sockets.specs.Entries.{is_between, is_listening_at, is_waiting_at, backlog_of}
use Rattle.sockets.specs.SocketsView.{SocketsView}
use Rattle.sockets.specs.Steps.{connected}
use Rattle.sockets.specs.Strays.{IsResetOf}
use Rattle.host.specs.Carried.{carried}
use Rattle.host.specs.Heard.{shuts_out}
use Rattle.host.specs.HostView.{HostView}
use Rattle.sides.specs.declared.side.Side.{Side}
use Rattle.sides.specs.Sides.{other_side}
use Rattle.wire_sim.specs.declared.event.Answer.{Answer}
use Rattle.wire_sim.specs.declared.event.Answer.TheVariants as reply
use Rattle.wire_sim.specs.declared.event.Call.TheVariants as call
use Rattle.wire_sim.specs.declared.event.Event.{Event}
use Rattle.wire_sim.specs.declared.event.Event.TheVariants as event
use Rattle.wire_sim.specs.declared.event.Unfair.{Unfair}
use Rattle.wire_sim.specs.Handshakes.{IsOut, IsAsking, IsAnswering, IsOpen, IsAtRest, IsEnding, Shuts, fin_alone}
use Rattle.wire_sim.specs.Passage.{mac_at, addr_at}
use Rattle.wire_sim.specs.Runs.{IsReached, IsStep, RunsTo}
use Rattle.wire_sim.specs.WorldView.{WorldView, host_of, table_of, clock_of}

-- A frame with this segment goes out of a side's host and comes to the other side's, for which it is, and whose guards, where it has them, let it in. There are four worlds, one before and one after each of the two events; any events lie between
-- the second and the third. Where it opens a connection, that has this initial number.
pub record Travels (limit : ℕ) (side : Side) (s : Segment) (before sent found after : WorldView) (answer : Answer) (isn : Seq) : Type 0 where
  pub reached : IsReached limit before
  pub index : ℕ
  pub len : ℕ
  pub goes : IsStep (event.Emit side) (reply.Frame index len) before sent
  pub carries : carried (host_of before.network side) (clock_of before.network side) ≡ Some (record { mac = mac_at found.network (other_side side); to = addr_at found.network (other_side side); segment = s })
  pub events : List Event
  pub outcomes : List (Result Answer Unfair)
  pub between : RunsTo events outcomes sent found
  pub comes : IsStep (event.Deliver (other_side side) index isn) answer found after
  pub lets : shuts_out (host_of found.network (other_side side)) (addr_at before.network side) ≡ false

-- under this id a side's table has this connection, which waits at that listener, or at none
abbrev pub Has : WorldView → Side → SocketId → Option SocketId → View → Type 0
Has w side id listener c = entry_of (table_of w.network side) id ≡ Some (connected id c listener)

-- the two ends of one connection
pub record AreEnds (here there : View) : Type 0 where
  pub local : there.local ≡ here.peer
  pub peer : there.peer ≡ here.local

-- Opening.

-- no connection is in the table between these two ends, in any state but CLOSED, and it may be opened from the address of the other one
pub record IsUnknown (h : HostView) (c : View) : Type 0 where
  pub own : c.peer.addr ≡ (let t = h.sockets in t.addr)
  pub none : find (is_between c.peer c.local) (let t = h.sockets in t.entries) ≡ None
  pub routed : is_routed h.interface c.local.addr ≡ true

-- the table has a listener at the port with a place for one more
pub record HasPlace (h : SocketsView) (port : ℕ) (listener : Entry) : Type 0 where
  pub listens : find (is_listening_at port) h.entries ≡ Some listener
  pub fewer : count_by (is_waiting_at listener.id) h.entries < backlog_of listener.role
  pub room : length h.entries < h.sizes.entries
  pub young : h.last_id + 1 < 2 ^ 64

-- this control reply waits, behind all that waited before
pub record WaitsThen (old new : HostView) (reply : Reply) : Type 0 where
  pub since : Moment
  pub last : (let i = new.interface in i.replies) ≡ (let i = old.interface in i.replies) ++ record { since = since; reply = reply } ∷ []

-- every call of the socket that an id names is told that the connection was refused
pub record TellsRefused (h : SocketsView) (id : SocketId) : Type 0 where
  pub send : (octets : List ℕ) → send_answer h id octets ≡ Err ECONNREFUSED
  pub recv : (len : ℕ) → (len == 0) ≡ false → recv_answer h id len ≡ Err ECONNREFUSED
  pub shutdown : shutdown_refusal h id ≡ Some ECONNREFUSED

-- A `connect` that is started leaves its socket in SYN-SENT, and its SYN is due.
abbrev pub EveryConnectAsks : Type 0
EveryConnectAsks = (limit : ℕ) (side : Side) (id : SocketId) (isn : Seq) (peer : Endpoint) (w v : WorldView) → IsReached limit w → IsStep (event.Call side (call.Connect isn id peer)) reply.Started w v
    → (c : View) × Has v side id None c × IsAsking isn.0 c × (c.peer ≡ peer) × (first_due c ≡ Some Syn)

-- The SYN of a `connect` comes to a host at which nobody listens at its port: the host's table stays as it was, and a reset waits to go out that acknowledges the SYN. Wherever that comes to the
-- connection, which is still in SYN-SENT with its SYN out, it is CLOSED, and its caller told ECONNREFUSED.
abbrev pub EveryUnheardConnectIsRefused : Type 0
EveryUnheardConnectIsRefused = (limit : ℕ) (side : Side) (id : SocketId) (ours : ℕ) (c : View) (w0 w1 w2 w3 : WorldView) (isn : Seq)
    → Travels limit side (segment_of c Syn) w0 w1 w2 w3 reply.Taken isn → Has w0 side id None c → IsAsking ours c
    → IsUnknown (host_of w2.network (other_side side)) c → find (is_listening_at c.peer.port) (let t = table_of w2.network (other_side side) in t.entries) ≡ None
    → (head : Head) × IsResetOf (segment_of c Syn) 0 (wire ours 1) true head × (table_of w3.network (other_side side) ≡ table_of w2.network (other_side side))
    × WaitsThen (host_of w2.network (other_side side)) (host_of w3.network (other_side side)) (Reset c.local.addr head)

abbrev pub EveryRefusalIsTold : Type 0
EveryRefusalIsTold = (limit : ℕ) (side : Side) (id : SocketId) (ours : ℕ) (c d : View) (head : Head) (w0 w1 w2 w3 : WorldView) (answer : Answer) (isn : Seq)
    → IsResetOf (segment_of c Syn) 0 (wire ours 1) true head → Travels limit side (sent_segment head []) w0 w1 w2 w3 answer isn
    → Has w2 (other_side side) id None d → IsAsking ours d → IsOut d → d.local ≡ c.local → d.peer ≡ c.peer → c.peer.addr ≡ addr_at w0.network side
    → (answer ≡ reply.Taken) × ((e : View) × Has w3 (other_side side) id None e × IsClosedBy error.ECONNREFUSED e) × TellsRefused (table_of w3.network (other_side side)) id

-- It comes to one that has a listener with a place: a connection waits there in SYN-RECEIVED, between the same ends, and its SYN-ACK is due.
abbrev pub EverySynOpens : Type 0
EverySynOpens = (limit : ℕ) (side : Side) (id : SocketId) (ours : ℕ) (c : View) (listener : Entry) (w0 w1 w2 w3 : WorldView) (isn : Seq)
    → Travels limit side (segment_of c Syn) w0 w1 w2 w3 reply.Taken isn → Has w0 side id None c → IsAsking ours c
    → IsUnknown (host_of w2.network (other_side side)) c → HasPlace (table_of w2.network (other_side side)) c.peer.port listener
    → (f : View) × Has w3 (other_side side) (record { 0 = (let t = table_of w2.network (other_side side) in t.last_id) + 1 }) (Some listener.id) f × IsAnswering isn.0 ours f × AreEnds c f × (first_due f ≡ Some Syn)

-- The SYN-ACK comes to the connection that asked: it is ESTABLISHED, and an acknowledgement is due.
abbrev pub EverySynAckOpens : Type 0
EverySynAckOpens = (limit : ℕ) (side : Side) (waiting id : SocketId) (listener : Option SocketId) (ours theirs : ℕ) (f c : View) (w0 w1 w2 w3 : WorldView) (answer : Answer) (isn : Seq)
    → Travels limit side (segment_of f Syn) w0 w1 w2 w3 answer isn → Has w0 side waiting listener f → IsAnswering theirs ours f
    → Has w2 (other_side side) id None c → IsAsking ours c → IsOut c → AreEnds f c
    → (answer ≡ reply.Taken) × ((e : View) × Has w3 (other_side side) id None e × IsOpen ours theirs e × (first_due e ≡ Some Ack))

-- That comes to the connection that waits at the listener: it is ESTABLISHED, and the last of those offered for `accept`.
abbrev pub EveryAckConfirms : Type 0
EveryAckConfirms = (limit : ℕ) (side : Side) (id waiting listener : SocketId) (ours theirs : ℕ) (e f : View) (w0 w1 w2 w3 : WorldView) (answer : Answer) (isn : Seq)
    → Travels limit side (segment_of e Ack) w0 w1 w2 w3 answer isn → Has w0 side id None e → IsOpen theirs ours e
    → Has w2 (other_side side) waiting (Some listener) f → IsAnswering ours theirs f → IsOut f → AreEnds e f
    → (answer ≡ reply.Taken) × ((g : View) × Has w3 (other_side side) waiting (Some listener) g × IsOpen ours theirs g)
    × ((let t = table_of w3.network (other_side side) in t.offered) ≡ (let t = table_of w2.network (other_side side) in t.offered) ++ waiting ∷ [])

-- Closing, where each side has nothing more to send than its FIN.

-- A `shutdown` of a socket closes its side: its FIN is due, where the peer's window is open.
abbrev pub EveryShutdownEnds : Type 0
EveryShutdownEnds = (limit : ℕ) (side : Side) (id : SocketId) (before after : State) (ours theirs : ℕ) (c : View) (w v : WorldView) (answer : Answer)
    → IsReached limit w → IsStep (event.Call side (call.Shutdown id)) answer w v → Has w side id None c → IsAtRest before ours theirs c → Shuts before after
    → (answer ≡ reply.Done) × ((d : View) × Has v side id None d × IsEnding after ours theirs d × (0 < c.sending.window → first_due d ≡ Some (Text fin_alone)))

-- The FIN of one end comes to the other, which is ESTABLISHED: it is in CLOSE-WAIT, and an acknowledgement is due.
abbrev pub EveryFirstFinCloses : Type 0
EveryFirstFinCloses = (limit : ℕ) (side : Side) (id other : SocketId) (l m : Option SocketId) (state : State) (ours theirs : ℕ) (c v : View) (w0 w1 w2 w3 : WorldView) (answer : Answer) (isn : Seq)
    → Travels limit side (segment_of c (Text fin_alone)) w0 w1 w2 w3 answer isn → Has w0 side id l c → IsEnding state ours theirs c
    → Has w2 (other_side side) other m v → IsAtRest Established theirs ours v → 0 < receive_window v.receiving → AreEnds c v
    → (answer ≡ reply.Taken) × ((w : View) × Has w3 (other_side side) other m w × IsAtRest CloseWait theirs (wire ours 1) w × (first_due w ≡ Some Ack))

-- The FIN of that end comes to the first, in FIN-WAIT-1, and acknowledges its own: it is in TIME-WAIT, and an acknowledgement is due.
abbrev pub EveryLastFinCloses : Type 0
EveryLastFinCloses = (limit : ℕ) (side : Side) (id other : SocketId) (l m : Option SocketId) (state : State) (ours theirs : ℕ) (c v : View) (w0 w1 w2 w3 : WorldView) (answer : Answer) (isn : Seq)
    → Travels limit side (segment_of c (Text fin_alone)) w0 w1 w2 w3 answer isn → Has w0 side id l c → IsEnding state theirs (wire ours 1) c
    → Has w2 (other_side side) other m v → IsEnding FinWait1 ours theirs v → IsOut v → 0 < receive_window v.receiving → AreEnds c v
    → (answer ≡ reply.Taken) × ((w : View) × Has w3 (other_side side) other m w × IsAtRest TimeWait (wire ours 1) (wire theirs 1) w × (first_due w ≡ Some Ack))

-- That comes to the other end, in LAST-ACK: it is CLOSED, and taken out where its caller closed the socket.
abbrev pub EveryLastAckEnds : Type 0
EveryLastAckEnds = (limit : ℕ) (side : Side) (id other : SocketId) (l m : Option SocketId) (ours theirs : ℕ) (e v : View) (w0 w1 w2 w3 : WorldView) (answer : Answer) (isn : Seq)
    → Travels limit side (segment_of e Ack) w0 w1 w2 w3 answer isn → Has w0 side id l e → IsAtRest TimeWait (wire theirs 1) (wire ours 1) e
    → Has w2 (other_side side) other m v → IsEnding LastAck ours (wire theirs 1) v → IsOut v → AreEnds e v
    → (answer ≡ reply.Taken) × ((w : View) × (w.state ≡ Closed) × (entry_of (table_of w3.network (other_side side)) other ≡ (if v.released then None else Some (connected other w m))))
