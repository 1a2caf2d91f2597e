-- Each of the two hosts of a world is one that events lead to which may be asked of it, and keeps what such a host keeps.
use Rattle.std.specs.Prelude.{◌≡◌, ◌≢◌, ◌⊎◌, ◌≤◌, ◌+◌, ℕ, List, Contains, slice_get, Option, Some, Result, Ok}
use Rattle.ether.specs.declared.mac.Mac.{Mac}
use Rattle.ipv4.specs.declared.addr.Addr.{Addr}
use Rattle.ipv4.specs.Datagram.{Datagram, header_octets}
use Rattle.clock.specs.declared.moment.Moment.{Moment}
use Rattle.tcp_segment.specs.declared.seq.Seq.{Seq}
use Rattle.tcp_state.specs.declared.calls.Refusal.{Refusal as Error}
use Rattle.tcp_state.specs.View.{View}
use Rattle.icmp.specs.declared.error.Reason.{Reason}
use Rattle.icmp.specs.Message.{Message, IsEchoRequest}
use Rattle.icmp.specs.Sent.{RepliesTo, error_for}
use Rattle.frames.specs.declared.meaning.Control.{Control}
use Rattle.frames.specs.declared.meaning.Meaning.{Meaning}
use Rattle.frames.specs.declared.meaning.Meaning.TheVariants.{Icmp}
use Rattle.frames.specs.Meaning.{heard}
use Rattle.sides.specs.declared.side.Side.{Side}
use Rattle.sockets.specs.declared.entry.SocketId.{SocketId}
use Rattle.sockets.specs.declared.role.Role.{Role}
use Rattle.sockets.specs.declared.role.Role.TheVariants.{Connected}
use Rattle.sockets.specs.Causes.{pending_error_in, TellsStill}
use Rattle.sockets.specs.Offered as tables
use Rattle.sockets.specs.Order.{IsOrdered}
use Rattle.sockets.specs.Sound.{NoneIsOver}
use Rattle.sockets.specs.SocketsView.{SocketsView, role_of}
use Rattle.sockets.specs.Ticks.{least_deadline}
use Rattle.sockets.specs.Timing.{EachKeepsTime, AreNear, NoneAsks}
use Rattle.host.specs.Causes.{IsAbout}
use Rattle.host.specs.HostView.{sizes_of}
use Rattle.host.specs.Runs as hosts
use Rattle.host.specs.Runs.{Event as HostEvent, Delivers}
use Rattle.wire_sim.specs.declared.event.Answer.{Answer}
use Rattle.wire_sim.specs.declared.event.Answer.TheVariants as reply
use Rattle.wire_sim.specs.declared.event.Event.{Event}
use Rattle.wire_sim.specs.declared.event.Event.TheVariants as event
use Rattle.wire_sim.specs.declared.event.Unfair.{Unfair}
use Rattle.wire_sim.specs.declared.world.bag.Frame.{Frame}
use Rattle.wire_sim.specs.Runs.{IsReached, IsStep, RunsTo}
use Rattle.wire_sim.specs.WorldView.{WorldView, host_of, table_of, clock_of}

-- a frame of these octets was emitted, and delivered to this side, by what stands in the trace
pub record WasDelivered (w : WorldView) (side : Side) (octets : List ℕ) : Type 0 where
  pub index : ℕ
  pub isn : Seq
  pub answer : Answer
  pub happened : Contains w.trace (record { event = event.Deliver side index isn; answer = answer })
  pub frame : Frame
  pub there : slice_get w.network.frames index ≡ Some frame
  pub carries : frame.octets.items ≡ octets

-- what events deliver to a side's host was delivered in the world
abbrev pub AreTraced : WorldView → Side → List HostEvent → Type 0
AreTraced w side events = (now : Moment) (isn : ℕ) (octets : List ℕ) → Contains events (Delivers now isn octets) → WasDelivered w side octets

-- a list of events that may be asked of it leads to a side's host, from one that was set up with its own MAC, address, routes and sizes, and what the list delivers was delivered in the world
pub record HasRun (w : WorldView) (side : Side) : Type 0 where
  pub run : hosts.HasRun (host_of w.network side)
  pub own : let h = host_of w.network side in run.config ≡ record { mac = h.interface.mac; addr = h.interface.addr; routes = h.interface.routes; manner = h.sockets.manner; sizes = sizes_of h }
  pub traced : AreTraced w side run.events

abbrev pub EveryHostRuns : Type 0
EveryHostRuns = (limit : ℕ) (w : WorldView) → IsReached limit w → (side : Side) → HasRun w side

-- A table is one that events of its own lead to, none of them refused; it is in order, nothing of it is over, and each of its connections keeps its
-- timers and its congestion window. At the moment that its host's clock shows no timer runs until later than a minute past it, and no wait is counted from a later one.
pub record IsKept (now : Moment) (h : SocketsView) : Type 0 where
  pub reached : tables.IsReached h
  pub ordered : IsOrdered h
  pub over : NoneIsOver h
  pub time : EachKeepsTime h
  pub near : AreNear now h

abbrev pub EveryTableIsKept : Type 0
EveryTableIsKept = (limit : ℕ) (w : WorldView) → IsReached limit w → (side : Side) → IsKept (clock_of w.network side) (table_of w.network side)

-- So a deadline of the timers of a table lies no further past its host's clock than a day, and than TIME-WAIT lasts where no silent peer is asked.
abbrev pub EveryDeadlineLiesNear : Type 0
EveryDeadlineLiesNear = (limit : ℕ) (w : WorldView) (side : Side) (moment : Moment) → IsReached limit w → least_deadline (table_of w.network side) ≡ Some moment
    → let now = clock_of w.network side in (NoneAsks (table_of w.network side) → moment.0 ≤ now.0 + 240000) × (moment.0 ≤ now.0 + 86400000)

-- whatever entry has this id, which was given, is one of a connection that tells this error
abbrev pub IsTold : SocketsView → SocketId → Error → Type 0
IsTold h id error = TellsStill id error h × (id.0 ≤ h.last_id)

-- The error that a connection tells it tells for good, whatever happens in the world.
abbrev pub EveryErrorStays : Type 0
EveryErrorStays = (limit : ℕ) (events : List Event) (outcomes : List (Result Answer Unfair)) (w v : WorldView) (side : Side) (id : SocketId) (error : Error) → IsReached limit w → RunsTo events outcomes w v
    → IsTold (table_of w.network side) id error → IsTold (table_of v.network side) id error

-- So does the socket that its id names, as long as it names one.
abbrev pub EverySocketTellsOn : Type 0
EverySocketTellsOn = (limit : ℕ) (events : List Event) (outcomes : List (Result Answer Unfair)) (w v : WorldView) (side : Side) (id : SocketId) (c : View) (listener : Option SocketId) (error : Error) → IsReached limit w → RunsTo events outcomes w v
    → role_of (table_of w.network side) id ≡ Some (Connected c listener) → c.pending_error ≡ Some error → (role : Role) → role_of (table_of v.network side) id ≡ Some role → pending_error_in role ≡ Some error

-- What a side's host hears is this of a frame that was delivered to it.
pub record WasHeard (w : WorldView) (side : Side) (meaning : Meaning) : Type 0 where
  pub octets : List ℕ
  pub delivered : WasDelivered w side octets
  pub meant : (let h = host_of w.network side in heard h.interface.mac h.interface.addr octets) ≡ Ok meaning

-- An ICMP message that is for this address is an echo reply, and its request was delivered to the side's host from there; or an error, and the datagram
-- that it is about was.
abbrev pub HasCause : WorldView → Side → Addr → Message → Type 0
HasCause w side to m =
    ((m.kind ≡ 0) × (request : Message) × WasHeard w side (Icmp (record { source = to; message = request })) × IsEchoRequest request × RepliesTo m request)
    ⊎ ((m.kind ≢ 0) × (reason : Reason) × (d : Datagram) × (meaning : Meaning) × IsAbout reason d meaning × WasHeard w side meaning × (d.source ≡ to)
    × (m ≡ error_for reason (header_octets d) d.payload))

-- A frame goes out, and somebody at this address hears it as an ICMP message: that has its cause in what was delivered before.
abbrev pub EveryMessageHasItsCause : Type 0
EveryMessageHasItsCause = (limit : ℕ) (w v : WorldView) (side : Side) (index len : ℕ) (f : Frame) (mac : Mac) (ours : Addr) (c : Control)
    → IsReached limit w → IsStep (event.Emit side) (reply.Frame index len) w v → slice_get v.network.frames index ≡ Some f → heard mac ours f.octets.items ≡ Ok (Icmp c)
    → HasCause w side ours c.message
