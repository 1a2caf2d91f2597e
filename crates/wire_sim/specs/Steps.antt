-- What an event makes of the network: the host that it names takes its step, as its own table says, and everything else stays or grows by
-- what is said here.
use Rattle.std.specs.Prelude.{◌≡◌, ℕ, ◌+◌, min, nat_lt, Bool, true, false, if◌then◌else◌, List, [], ◌∷◌, ◌++◌, length, take, Option, Some, None, option_map, slice_get, Result, Ok, Err}
use Rattle.ipv4.specs.declared.addr.Addr.{Addr}
use Rattle.ipv4.specs.declared.addr.Endpoint.{Endpoint}
use Rattle.ipv4.specs.declared.addr.Pair.{Pair}
use Rattle.clock.specs.declared.moment.Moment.{Moment}
use Rattle.tcp_state.specs.declared.calls.Received.{Received}
use Rattle.tcp_state.specs.declared.calls.Received.TheVariants as received
use Rattle.udp.specs.Waiting.{Waiting}
use Rattle.sockets.specs.declared.entry.Kind.{Kind}
use Rattle.sockets.specs.declared.entry.SocketId.{SocketId}
use Rattle.sockets.specs.declared.role.Role.{Role}
use Rattle.sockets.specs.declared.role.Role.TheVariants.{Connected, Datagrams}
use Rattle.sockets.specs.declared.refusal.Refusal.{Refusal}
use Rattle.sockets.specs.declared.refusal.Refusal.TheVariants.{EMFILE, ENOMEM}
use Rattle.sides.specs.declared.side.Side.{Side}
use Rattle.sides.specs.declared.side.Side.TheVariants.{A, B}
use Rattle.tcp_halves.specs.declared.buffers.TheConstants.{LARGEST_CAPACITY}
use Rattle.wire_sim.specs.declared.event.Call.{Call}
use Rattle.wire_sim.specs.declared.event.Call.TheVariants as call
use Rattle.wire_sim.specs.declared.event.Event.{Event}
use Rattle.wire_sim.specs.declared.event.Event.TheVariants as event
use Rattle.wire_sim.specs.declared.event.Answer.{Answer}
use Rattle.wire_sim.specs.declared.event.Answer.TheVariants as reply
use Rattle.wire_sim.specs.declared.event.Opening.{Opening}
use Rattle.wire_sim.specs.declared.world.bag.Frame.{Frame}
use Rattle.wire_sim.specs.declared.world.bag.Note.{Note}
use Rattle.wire_sim.specs.declared.world.station.Station.{Station}
use Rattle.sockets.specs.GiveWay.{after_giving_way}
use Rattle.sockets.specs.Ids.{has_id}
use Rattle.sockets.specs.Info.{info_answer}
use Rattle.sockets.specs.Ready.{readiness}
use Rattle.sockets.specs.Calls.{unless_refused, is_table_full, IsMade, bind_refusal, after_bind, listen_refusal, after_listen, accept_answer, after_accept, connect_refusal, after_connect, send_answer, after_send, recv_answer, after_recv, shutdown_refusal, after_shutdown, nodelay_refusal, after_nodelay, keepalive_refusal, after_keepalive, close_refusal, after_close, after_abort, state_answer, sockname_answer, peername_answer}
use Rattle.sockets.specs.Datagrams.{sendto_answer, after_sendto, recvfrom_answer, after_recvfrom}
use Rattle.host.specs.Arrival.{IsDelivered}
use Rattle.sockets.specs.SocketsView.{SocketsView, role_of}
use Rattle.host.specs.HostView.{HostView}
use Rattle.host.specs.Ticks.{after_tick}
use Rattle.host.specs.Emission.{after_emission, emission_len, emission_octets}
use Rattle.sides.specs.Sides.{other_side}
use Rattle.wire_sim.specs.Tallies.{counts_after}
use Rattle.wire_sim.specs.Openings.{epoch_of, opened_by_connect, opened_by_frame}
use Rattle.frames.specs.Pairs.{pair_in}
use Rattle.interface.specs.Ways.{is_routed}
use Rattle.wire_sim.specs.WorldView.{NetworkView, station_of, host_of, table_of, clock_of, written_at}

-- a side's host and clock are these, and all else is as it was
abbrev pub with_station : NetworkView → Side → Station → NetworkView
with_station n A s = record n { a = s }
with_station n B s = record n { b = s }

abbrev pub with_host : NetworkView → Side → HostView → NetworkView
with_host n side h = let s = station_of n side in with_station n side (record s { host = h })

-- Calls, of a host's table.

-- a value is told and the table becomes the next one, or a refusal is told and it is as it was
abbrev pub Answers : {T : Type 0} → Result T Refusal → (T → Answer) → SocketsView → SocketsView → Answer → SocketsView → Type 0
Answers (Ok value) told next old answer new = (answer ≡ told value) × (new ≡ next)
Answers (Err refusal) told next old answer new = (answer ≡ reply.Refused refusal) × (new ≡ old)

-- a new socket of the kind, but where the table is full or memory is refused
abbrev pub MeetsSocket : Kind → SocketsView → Answer → SocketsView → Type 0
MeetsSocket kind h (reply.Socket id) new = (is_table_full h ≡ false) × (id.0 ≡ h.last_id + 1) × IsMade kind h new
MeetsSocket kind h (reply.Refused EMFILE) new = (is_table_full h ≡ true) × (new ≡ h)
MeetsSocket kind h (reply.Refused ENOMEM) new = (is_table_full h ≡ false) × (new ≡ h)
MeetsSocket kind h _ new = ⊥

-- how many octets one receive asks for: no connection has more for its caller
abbrev pub recv_len : ℕ → ℕ
recv_len len = min len LARGEST_CAPACITY

-- the first octets that are readable on a socket
abbrev pub readable_on : SocketsView → SocketId → ℕ → List ℕ
readable_on h id count = of_role (role_of h id)
  where
    of_role : Option Role → List ℕ
    of_role (Some (Connected c listener)) = take count c.receiving.readable
    of_role _ = []

-- the octets that a receive answers are the first that were readable
abbrev pub MeetsReceived : SocketsView → SocketId → ℕ → Result Received Refusal → Answer → SocketsView → Type 0
MeetsReceived h id len (Ok (received.Octets count)) (reply.Octets octets) new = (octets.items ≡ readable_on h id count) × (new ≡ after_recv h id len)
MeetsReceived h id len (Ok received.EndOfStream) reply.EndOfStream new = new ≡ after_recv h id len
MeetsReceived h id len (Err refusal) (reply.Refused told) new = (told ≡ refusal) × (new ≡ h)
MeetsReceived h id len _ _ new = ⊥

-- the first octets of the first datagram that waits at a socket
abbrev pub first_waiting_on : SocketsView → SocketId → ℕ → List ℕ
first_waiting_on h id count = of_role (role_of h id)
  where
    of_inbox : List Waiting → List ℕ
    of_inbox [] = []
    of_inbox (first ∷ rest) = take count first.octets

    of_role : Option Role → List ℕ
    of_role (Some (Datagrams bound socket)) = of_inbox socket.inbox
    of_role _ = []

-- the octets that are answered of a datagram are its first, with the endpoint that it came from
abbrev pub MeetsReceivedFrom : SocketsView → SocketId → Result (ℕ × Endpoint) Refusal → Answer → SocketsView → Type 0
MeetsReceivedFrom h id (Ok (count, from)) (reply.Datagram octets told) new = (octets.items ≡ first_waiting_on h id count) × (told ≡ from) × (new ≡ after_recvfrom h id)
MeetsReceivedFrom h id (Err refusal) (reply.Refused told) new = (told ≡ refusal) × (new ≡ h)
MeetsReceivedFrom h id _ _ new = ⊥

-- what is answered to a call at a moment, and what the table becomes, where it is told to which addresses a route leads
abbrev pub MeetsCall : (Addr → Bool) → Moment → Call → SocketsView → Answer → SocketsView → Type 0
MeetsCall routed now (call.Socket kind) h answer new = MeetsSocket kind h answer new
MeetsCall routed now (call.Bind id local) h answer new = Answers (unless_refused (bind_refusal h id local) (tt {0})) (λ _. reply.Done) (after_bind h id local) h answer new
MeetsCall routed now (call.Listen id backlog) h answer new = Answers (unless_refused (listen_refusal h id backlog) (tt {0})) (λ _. reply.Done) (after_listen h id backlog) h answer new
MeetsCall routed now (call.Accept id) h answer new = Answers (accept_answer h id) (λ p. reply.Accepted p.0 p.1) (after_accept h id) h answer new
MeetsCall routed now (call.Connect isn id peer) h answer new = Answers (unless_refused (connect_refusal h id peer (routed peer.addr)) (tt {0})) (λ _. reply.Started) (after_connect h now isn.0 id peer (routed peer.addr)) h answer new
MeetsCall routed now (call.Send id octets) h answer new = Answers (send_answer h id octets.items) (λ count. reply.Sent count) (after_send h id octets.items) h answer new
MeetsCall routed now (call.Recv id len) h answer new = MeetsReceived h id (recv_len len) (recv_answer h id (recv_len len)) answer new
MeetsCall routed now (call.SendTo id peer octets) h answer new = Answers (sendto_answer h id peer octets.items (routed peer.addr)) (λ count. reply.Sent count) (after_sendto h id peer octets.items (routed peer.addr)) h answer new
MeetsCall routed now (call.RecvFrom id len) h answer new = MeetsReceivedFrom h id (recvfrom_answer h id (recv_len len)) answer new
MeetsCall routed now (call.Shutdown id) h answer new = Answers (unless_refused (shutdown_refusal h id) (tt {0})) (λ _. reply.Done) (after_shutdown h id) h answer new
MeetsCall routed now (call.SetNoDelay id on) h answer new = Answers (unless_refused (nodelay_refusal h id) (tt {0})) (λ _. reply.Done) (after_nodelay h id on) h answer new
MeetsCall routed now (call.SetKeepAlive id every) h answer new = Answers (unless_refused (keepalive_refusal h id every) (tt {0})) (λ _. reply.Done) (after_keepalive h id every) h answer new
MeetsCall routed now (call.Close id) h answer new = Answers (unless_refused (close_refusal h id) (tt {0})) (λ _. reply.Done) (after_close h id) h answer new
MeetsCall routed now (call.Abort id) h answer new = Answers (unless_refused (close_refusal h id) (tt {0})) (λ _. reply.Done) (after_abort h id) h answer new
MeetsCall routed now (call.GiveWay id) h answer new = Answers (Ok (tt {0})) (λ _. reply.Done) (after_giving_way h (has_id id)) h answer new
MeetsCall routed now (call.State id) h answer new = Answers (state_answer h id) (λ state. reply.State state) h h answer new
MeetsCall routed now (call.Ready id) h answer new = Answers (readiness h id) (λ ready. reply.Ready ready) h h answer new
MeetsCall routed now (call.Info id) h answer new = Answers (info_answer h id) (λ info. reply.Info info) h h answer new
MeetsCall routed now (call.SockName id) h answer new = Answers (sockname_answer h id) (λ local. reply.Endpoint local) h h answer new
MeetsCall routed now (call.PeerName id) h answer new = Answers (peername_answer h id) (λ peer. reply.Endpoint peer) h h answer new

-- a call at a moment is of the table alone, and its interface says where a route leads
pub record HostMeetsCall (now : Moment) (c : Call) (h : HostView) (answer : Answer) (new : HostView) : Type 0 where
  pub table : MeetsCall (is_routed h.interface) now c h.sockets answer new.sockets
  pub others : new ≡ record h { sockets = new.sockets }

-- an opening is added, if there is one, with nothing counted yet
abbrev pub with_opening : NetworkView → Option Opening → NetworkView
with_opening n None = n
with_opening n (Some o) = record n { openings = n.openings ++ o ∷ []; written = n.written ++ 0 ∷ [] }

-- the network once a call on a side was answered and its host became another: a connect that was started opens a pair, and octets
-- that were taken are counted
abbrev pub after_call : Side → Call → Answer → ℕ → NetworkView → HostView → NetworkView
after_call side (call.Connect isn id peer) reply.Started place n host = with_opening (with_host n side host) (opened_by_connect n.openings side id place host.sockets (table_of n (other_side side)))
after_call side (call.Send id octets) (reply.Sent count) place n host = record (with_host n side host) { written = counts_after n.openings n.written side id count }
after_call side _ _ place n host = with_host n side host

-- a tick moves the clock forward, and ticks the host
abbrev pub station_after_tick : Station → Moment → Station
station_after_tick s moment = record s {
  host = after_tick s.host moment;
  clock = if nat_lt s.clock.0 moment.0 then moment else s.clock;
}

-- what is noted of a frame of a pair that goes out: the pair's epoch, and how much was written at both ends
abbrev pub note_of : NetworkView → Pair → Note
note_of n pair = let epoch = epoch_of n.openings pair in record { pair = pair; epoch = epoch; at_a = written_at n A pair epoch; at_b = written_at n B pair epoch }

-- The first frame that can go out of a side's host did, and its very octets stand at the end of the frames. It has a note where it carries a segment.
pub record EmitsFrame (side : Side) (index len : ℕ) (old new : NetworkView) : Type 0 where
  pub due : emission_len (host_of old side) (clock_of old side) ≡ Some len
  pub place : index ≡ length old.frames
  pub frame : Frame
  pub sender : frame.sender ≡ side
  pub octets : frame.octets.items ≡ emission_octets (host_of old side) (clock_of old side)
  pub note : frame.note ≡ option_map (note_of old) (pair_in frame.octets.items)
  pub after : new ≡ record (with_host old side (after_emission (host_of old side) (clock_of old side))) { frames = old.frames ++ frame ∷ [] }

-- none can, and then nothing changes
pub record EmitsNothing (side : Side) (old new : NetworkView) : Type 0 where
  pub due : emission_len (host_of old side) (clock_of old side) ≡ None
  pub after : new ≡ old

-- what a frame made of its host, and the opening of its pair where the host holds it anew
abbrev pub after_delivery : Side → ℕ → Option Note → NetworkView → HostView → NetworkView
after_delivery side place None n host = with_host n side host
after_delivery side place (Some note) n host = with_opening (with_host n side host) (opened_by_frame n.openings side place note.pair (table_of n side) host.sockets)

-- the host takes the frame's octets at its clock's moment, or drops them with a cause
abbrev pub MeetsFrame : HostView → Moment → ℕ → List ℕ → Answer → HostView → Type 0
MeetsFrame h now isn octets reply.Taken new = IsDelivered h now isn octets (Ok tt) new
MeetsFrame h now isn octets (reply.Dropped cause) new = IsDelivered h now isn octets (Err cause) new
MeetsFrame h now isn octets _ new = ⊥

-- the frame reaches the host just as it was emitted
abbrev pub DeliversFrame : Side → ℕ → ℕ → Answer → NetworkView → NetworkView → Option Frame → Type 0
DeliversFrame side isn place answer old new None = ⊥
DeliversFrame side isn place answer old new (Some f) = MeetsFrame (host_of old side) (clock_of old side) isn f.octets.items answer (host_of new side) × (new ≡ after_delivery side place f.note old (host_of new side))

-- the frame that is due goes out, or none is
abbrev pub MeetsEmission : Side → Answer → NetworkView → NetworkView → Type 0
MeetsEmission side (reply.Frame index len) old new = EmitsFrame side index len old new
MeetsEmission side reply.NoFrame old new = EmitsNothing side old new
MeetsEmission side _ old new = ⊥

-- what an event, answered so, makes of the network; its place in the trace is given
abbrev pub Steps : Event → ℕ → Answer → NetworkView → NetworkView → Type 0
Steps (event.Call side c) place answer old new = HostMeetsCall (clock_of old side) c (host_of old side) answer (host_of new side) × (new ≡ after_call side c answer place old (host_of new side))
Steps (event.Tick side moment) place answer old new = (answer ≡ reply.Done) × (new ≡ with_station old side (station_after_tick (station_of old side) moment))
Steps (event.Emit side) place answer old new = MeetsEmission side answer old new
Steps (event.Deliver side index isn) place answer old new = DeliversFrame side isn.0 place answer old new (slice_get old.frames index)

-- how many octets the host that an event names may read for it
abbrev pub call_recv_len : Call → ℕ
call_recv_len (call.Recv id len) = recv_len len
call_recv_len (call.RecvFrom id len) = recv_len len
call_recv_len _ = 0

abbrev pub event_recv_len : Event → ℕ
event_recv_len (event.Call side c) = call_recv_len c
event_recv_len _ = 0

-- the event may put a frame into the network
abbrev pub is_emission : Event → Bool
is_emission (event.Emit side) = true
is_emission _ = false
