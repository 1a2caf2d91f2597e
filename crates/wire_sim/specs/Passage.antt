-- The way of a frame from the host that sends it to whoever receives it: it says where it arrives what it was sent to say. Nothing in it is lost on the
-- way or taken for malformed.
use Rattle.std.specs.Prelude.{◌≡◌, ◌≢◌, ◌⊎◌, ◌↔◌, ◌&&◌, not, ℕ, Bool, true, false, List, find, slice_get, Some, Result, Ok, Err}
use Rattle.ether.specs.declared.mac.Mac.{Mac}
use Rattle.ipv4.specs.declared.addr.Addr.{Addr}
use Rattle.clock.specs.declared.moment.Moment.{Moment}
use Rattle.tcp_segment.specs.declared.seq.Seq.{Seq}
use Rattle.tcp_segment.specs.Segment.{Segment}
use Rattle.tcp_state.specs.declared.connection.Fate.TheVariants.{Rejected}
use Rattle.routes.specs.declared.route.Route.{Route}
use Rattle.frames.specs.declared.drop.DropCause.{DropCause}
use Rattle.frames.specs.declared.drop.DropCause.TheVariants.{OtherMac, OtherAddress, NoRoom}
use Rattle.frames.specs.declared.meaning.Meaning.{Meaning}
use Rattle.frames.specs.Meaning.{heard}
use Rattle.frames.specs.Pairs.{pair_between}
use Rattle.sockets.specs.declared.entry.Entry.{Entry}
use Rattle.sockets.specs.Arrival.{Becomes, arrival_at_connection, local_end, peer_end}
use Rattle.sockets.specs.Entries.{fate_of, is_between}
use Rattle.sockets.specs.SocketsView.{SocketsView, later_moment}
use Rattle.host.specs.Heard.{guarded_by, is_barred, shuts_out}
use Rattle.host.specs.Arrival.{MeetsHeard}
use Rattle.host.specs.Carried.{Carried, carried}
use Rattle.host.specs.HostView.{HostView}
use Rattle.sides.specs.declared.side.Side.{Side}
use Rattle.sides.specs.Sides.{other_side}
use Rattle.wire_sim.specs.declared.event.Answer.{Answer}
use Rattle.wire_sim.specs.declared.event.Answer.TheVariants as reply
use Rattle.wire_sim.specs.declared.event.Event.{Event}
use Rattle.wire_sim.specs.declared.event.Event.TheVariants as event
use Rattle.wire_sim.specs.declared.world.bag.Frame.{Frame}
use Rattle.wire_sim.specs.declared.world.bag.Note.{Note}
use Rattle.wire_sim.specs.Runs.{IsReached, begins, goes_on, IsStep}
use Rattle.wire_sim.specs.Sent.{Sent, segment_from, sent_at, is_sent_to, is_sent_for, heard_as, IsSpelled, AreWholeRoutes}
use Rattle.wire_sim.specs.WorldView.{WorldView, NetworkView, host_of, table_of, clock_of}

-- in the run that led to a world, the event was given to this one, and answered so
abbrev pub Passes : (limit : ℕ) (w : WorldView) → IsReached limit w → WorldView → Event → Answer → Type 0
Passes limit w (begins a b a_is b_is apart few) u happens answer = ⊥
Passes limit w (goes_on old new e told run step) u happens answer = ((old ≡ u) × (e ≡ happens) × (told ≡ answer)) ⊎ Passes limit old run u happens answer

-- The frame with this index went out of its sender's host in the run that led to a world, and was sent as this by what that host had to send then. Whoever
-- receives it hears just that.
pub record WentOut (limit : ℕ) (w : WorldView) (run : IsReached limit w) (index : ℕ) (f : Frame) : Type 0 where
  pub before : WorldView
  pub len : ℕ
  pub passed : Passes limit w run before (event.Emit f.sender) (reply.Frame index len)
  pub what : Sent
  pub sent : sent_at (host_of before.network f.sender) (clock_of before.network f.sender) ≡ Some what
  pub heard : IsSpelled what.says → (mac : Mac) (ours : Addr) → heard mac ours f.octets.items ≡ heard_as what mac ours

-- the MAC, the address and the routes of a side's host
abbrev pub mac_at : NetworkView → Side → Mac
mac_at n side = let h = host_of n side in h.interface.mac

abbrev pub addr_at : NetworkView → Side → Addr
addr_at n side = let h = host_of n side in h.interface.addr

abbrev pub routes_at : NetworkView → Side → List Route
routes_at n side = let h = host_of n side in h.interface.routes

-- a host that hears this answers so, and becomes that
abbrev pub MeetsMeaning : Result Meaning DropCause → HostView → Moment → ℕ → Answer → HostView → Type 0
MeetsMeaning m h now isn reply.Taken new = MeetsHeard m h (later_moment h.sockets now) isn (Ok tt) new
MeetsMeaning m h now isn (reply.Dropped cause) new = MeetsHeard m h (later_moment h.sockets now) isn (Err cause) new
MeetsMeaning m h now isn _ new = ⊥

-- A host's guards, where it has them, let this in.
abbrev pub is_let_in : HostView → Meaning → Bool
is_let_in h says = not (h.sockets.manner.guards && is_barred h.interface (Ok says))

-- A frame is dropped as one for another interface, or else for another address, exactly where it is for one, or the host's guards bar it; and for nothing else but
-- that there is no room for what it says.
pub record IsAnswered (is_ours is_for_us : Bool) (answer : Answer) : Type 0 where
  pub mac : (answer ≡ reply.Dropped OtherMac) ↔ (is_ours ≡ false)
  pub address : (answer ≡ reply.Dropped OtherAddress) ↔ ((is_ours ≡ true) × (is_for_us ≡ false))
  pub others : answer ≢ reply.Dropped OtherMac → answer ≢ reply.Dropped OtherAddress → (answer ≡ reply.Taken) ⊎ (answer ≡ reply.Dropped NoRoom)

-- What was sent so comes to a side, between two worlds: it is from the other side's address, and the layer that it is for meets just what it says, if the guards
-- let it in.
pub record IsMet (w v : WorldView) (side : Side) (isn : ℕ) (what : Sent) (answer : Answer) : Type 0 where
  pub from : what.from ≡ addr_at w.network (other_side side)
  pub met : (let h = host_of w.network side in MeetsMeaning (guarded_by h.sockets.manner.guards h.interface (heard_as what h.interface.mac h.interface.addr)) h (clock_of w.network side) isn answer (host_of v.network side))
  pub answered : IsAnswered (is_sent_to what (mac_at w.network side)) (is_sent_for what.to (addr_at w.network side) && is_let_in (host_of w.network side) what.says) answer

-- Each frame in the network went out so.
abbrev pub EveryFrameIsHeardAsSent : Type 0
EveryFrameIsHeardAsSent = (limit : ℕ) (w : WorldView) (run : IsReached limit w) (index : ℕ) (f : Frame) → slice_get w.network.frames index ≡ Some f
    → (out : WentOut limit w run index f) × (AreWholeRoutes (routes_at w.network f.sender) → IsSpelled out.what.says)

-- So each delivery meets that.
abbrev pub EveryFrameIsMetAsSent : Type 0
EveryFrameIsMetAsSent = (limit : ℕ) (w v : WorldView) (run : IsReached limit w) (side : Side) (index : ℕ) (isn : Seq) (f : Frame) (answer : Answer)
    → slice_get w.network.frames index ≡ Some f → IsStep (event.Deliver side index isn) answer w v
    → (out : WentOut limit w run index f) × (IsSpelled out.what.says → IsMet w v side isn.0 out.what answer)

-- A connection of the segment's two ends takes it, where one is in the table and doesn't refuse it: the table becomes what the segment makes of it there.
abbrev pub ConnectionTakes : SocketsView → Moment → Addr → Segment → Answer → SocketsView → Type 0
ConnectionTakes h moment source s answer new = (e : Entry) → find (is_between (local_end h s) (peer_end source s)) h.entries ≡ Some e → fate_of s e.role ≢ Rejected
    → (answer ≡ reply.Taken) × (arrival_at_connection h moment source s e (fate_of s e.role) ≡ Becomes new)

-- A frame with a segment comes to a side: the segment is the very one that the other side's host had to send as the frame went out, and where it is for the host that
-- it comes to, whose guards let the other's address in, its connection takes it.
pub record SegmentArrives (limit : ℕ) (w v : WorldView) (run : IsReached limit w) (side : Side) (index isn : ℕ) (f : Frame) (note : Note) (answer : Answer) : Type 0 where
  pub out : WentOut limit w run index f
  pub c : Carried
  pub carries : carried (host_of out.before.network f.sender) (clock_of out.before.network f.sender) ≡ Some c
  pub what : out.what ≡ segment_from (addr_at w.network (other_side side)) c
  pub pair : note.pair ≡ pair_between (addr_at w.network (other_side side)) c.to c.segment
  pub met : IsMet w v side isn out.what answer
  pub taken : c.mac ≡ mac_at w.network side → c.to ≡ addr_at w.network side → shuts_out (host_of w.network side) (addr_at w.network (other_side side)) ≡ false
      → ConnectionTakes (table_of w.network side) (later_moment (table_of w.network side) (clock_of w.network side)) (addr_at w.network (other_side side)) c.segment answer (table_of v.network side)

-- So each segment that is delivered.
abbrev pub EverySegmentArrives : Type 0
EverySegmentArrives = (limit : ℕ) (w v : WorldView) (run : IsReached limit w) (side : Side) (index : ℕ) (isn : Seq) (f : Frame) (note : Note) (answer : Answer)
    → slice_get w.network.frames index ≡ Some f → f.note ≡ Some note → IsStep (event.Deliver side index isn) answer w v → SegmentArrives limit w v run side index isn.0 f note answer

-- No event changes the MAC, the address or the routes of a host.
abbrev pub EveryHostStays : Type 0
EveryHostStays = (limit : ℕ) (w v : WorldView) (happens : Event) (answer : Answer) → IsReached limit w → IsStep happens answer w v → (side : Side)
    → (mac_at v.network side ≡ mac_at w.network side) × (addr_at v.network side ≡ addr_at w.network side) × (routes_at v.network side ≡ routes_at w.network side)
