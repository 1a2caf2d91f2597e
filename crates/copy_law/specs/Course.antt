-- How a copy goes: the events of its two hosts, each as the definitions of a host say, and the passages of the link between them.
use Rattle.std.specs.Prelude.{◌≡◌, ℕ, ◌+◌, ◌-◌, ◌<◌, ◌≤◌, ◌^◌, min, nat_lt, Bool, true, false, ◌||◌, if◌then◌else◌, List, [], ◌∷◌, ◌++◌, length, take, Option, Some, None, is_some, Result, Ok, ◌⊎◌}
use Rattle.clock.specs.declared.moment.Moment.{Moment}
use Rattle.ipv4.specs.declared.addr.Endpoint.{Endpoint}
use Rattle.ipv4.specs.declared.addr.Pair.{Pair}
use Rattle.tcp_segment.specs.declared.seq.Seq.{Seq}
use Rattle.tcp_state.specs.declared.calls.Received.TheVariants as received
use Rattle.frames.specs.declared.drop.DropCause.{DropCause}
use Rattle.frames.specs.Pairs.{pair_in}
use Rattle.interface.specs.Ways.{is_routed}
use Rattle.sockets.specs.declared.entry.Kind.TheVariants.{Tcp}
use Rattle.sockets.specs.declared.entry.SocketId.{SocketId}
use Rattle.sockets.specs.Sound.{IsEndpoint}
use Rattle.sockets.specs.SocketsView.{holder_id}
use Rattle.sockets.specs.Calls.{is_table_full, IsMade, bind_refusal, after_bind, listen_refusal, after_listen, accept_answer, after_accept, connect_refusal, after_connect, send_answer, after_send, recv_answer, after_recv, shutdown_refusal, after_shutdown}
use Rattle.host.specs.ConfigView.{ConfigView, IsConfig}
use Rattle.host.specs.HostView.{HostView, new_host, with_sockets}
use Rattle.host.specs.Sound.{IsSoundHost}
use Rattle.host.specs.Ticks.{after_tick}
use Rattle.host.specs.Emission.{emission_len, emission_octets, after_emission}
use Rattle.host.specs.Arrival.{IsDelivered, foreseen}
use Rattle.sides.specs.declared.side.Side.{Side}
use Rattle.sides.specs.declared.side.Side.TheVariants.{A, B}
use Rattle.wire_sim.specs.Steps.{readable_on}
use Rattle.wire_sim.specs.WorldView.{are_alike}
use Rattle.devices.specs.Passages.{taken, given, MayGive}
use Rattle.stream_law.specs.Begins.{Begins}
use Rattle.copy_law.specs.CopyView.{CopyView, host_at, with_host_at}

-- the octets that a connection holds for its peer at most (RFC 7323 section 2), and those that a segment carries
abbrev pub most_held : ℕ
most_held = 1048576

abbrev pub most_carried : ℕ
most_carried = 1460

-- a host made a socket for TCP
pub record MakesSocket (old : HostView) (id : SocketId) (new : HostView) : Type 0 where
  pub sound : IsSoundHost old
  pub room : is_table_full old.sockets ≡ false
  pub next : id.0 ≡ old.sockets.last_id + 1
  pub made : IsMade Tcp old.sockets new.sockets
  pub others : new ≡ with_sockets old new.sockets

-- a host bound a socket, and let it listen
pub record Listens (old : HostView) (id : SocketId) (new : HostView) : Type 0 where
  pub local : Endpoint
  pub backlog : ℕ
  pub sized : IsEndpoint local
  pub sound : IsSoundHost old
  pub may_bind : bind_refusal old.sockets id local ≡ None
  pub bound : HostView
  pub is_bound : bound ≡ with_sockets old (after_bind old.sockets id local)
  pub bound_sound : IsSoundHost bound
  pub may_listen : listen_refusal bound.sockets id backlog ≡ None
  pub listening : new ≡ with_sockets bound (after_listen bound.sockets id backlog)

-- a host opened a connection by a socket, while its clock stood at 0
pub record Connects (old : HostView) (id : SocketId) (new : HostView) : Type 0 where
  pub isn : Seq
  pub peer : Endpoint
  pub sized : isn.0 < 2 ^ 32
  pub sound : IsSoundHost old
  pub may : connect_refusal old.sockets id peer (is_routed old.interface peer.addr) ≡ None
  pub connecting : new ≡ with_sockets old (after_connect old.sockets (record { 0 = 0 }) isn.0 id peer (is_routed old.interface peer.addr))

-- the two hosts of a copy before anything was moved: b listens and a has opened a connection
pub record Starts (v : CopyView) : Type 0 where
  pub config_a : ConfigView
  pub config_b : ConfigView
  pub set_up_a : IsConfig config_a
  pub set_up_b : IsConfig config_b
  pub apart : are_alike config_a config_b ≡ false
  pub a_made : HostView
  pub b_made : HostView
  pub listener : SocketId
  pub b_socket : MakesSocket (new_host config_b) listener b_made
  pub b_listens : Listens b_made listener v.b
  pub a_socket : MakesSocket (new_host config_a) v.sender a_made
  pub a_connects : Connects a_made v.sender v.a
  pub sound_b : IsSoundHost v.b
  pub others : v ≡ record {
    a = v.a;
    b = v.b;
    clock = record { 0 = 0 };
    sender = v.sender;
    receiver = None;
    opened = false;
    allowance = most_held;
    told = [];
    sent = [];
    read = [];
    closed = false;
    ended = false;
  }

-- a host holds a pair, if there is one
abbrev pub holds_some : HostView → Option Pair → Bool
holds_some h None = false
holds_some h (Some pair) = is_some (holder_id h.sockets pair)

-- a host holds the pair of the segment in a frame
abbrev pub holds_pair_of : HostView → List ℕ → Bool
holds_pair_of h frame = holds_some h (pair_in frame)

-- whether b has held the pair of a frame, once a side took a frame more
abbrev pub opened_after : Side → Bool → HostView → List ℕ → Bool
opened_after A opened b frame = opened
opened_after B opened b frame = opened || holds_pair_of b frame

-- a frame may open a connection only at b, and only once
abbrev pub OpensOnce : CopyView → Side → List ℕ → Type 0
OpensOnce v A frame = foreseen v.a frame ≡ None
OpensOnce v B frame = (v.opened ≡ false) ⊎ (foreseen v.b frame ≡ None)

-- what becomes of a copy where the host of a side became another at a frame that the link gave it
abbrev pub after_hearing : CopyView → Side → List ℕ → HostView → CopyView
after_hearing v to frame h =
    let w = with_host_at v to h in
    record w { opened = opened_after to v.opened w.b frame; told = v.told ++ given to frame ∷ [] }

-- a clock after a tick
abbrev pub clock_after : Moment → Moment → Moment
clock_after clock moment = if nat_lt clock.0 moment.0 then moment else clock

-- One event of a copy.
pub data Goes (old new : CopyView) : Type 0 where
  -- a took octets
  writes : (octets : List ℕ) (count : ℕ) → length octets ≤ old.allowance → count ≤ length octets → send_answer old.a.sockets old.sender octets ≡ Ok count
      → new ≡ record old { a = with_sockets old.a (after_send old.a.sockets old.sender octets); allowance = old.allowance - count; sent = old.sent ++ take count octets } → Goes old new
  -- a closed its side
  closes : shutdown_refusal old.a.sockets old.sender ≡ None → new ≡ record old { a = with_sockets old.a (after_shutdown old.a.sockets old.sender); closed = true } → Goes old new
  -- a frame of a side's host went into the link
  emits : (from : Side) (len : ℕ) → length (emission_octets (host_at old from) old.clock) ≤ 1514 → emission_len (host_at old from) old.clock ≡ Some len
      → new ≡ (let w = with_host_at old from (after_emission (host_at old from) old.clock) in
      record w { allowance = min (old.allowance + most_carried) most_held; told = old.told ++ taken from (emission_octets (host_at old from) old.clock) ∷ [] }) → Goes old new
  -- a frame came out of the link, which a side's host took or dropped
  hears : (to : Side) (isn : Seq) (frame : List ℕ) (outcome : Result (Unit {0}) DropCause) (h : HostView) → isn.0 < 2 ^ 32 → MayGive old.told to frame → OpensOnce old to frame
      → IsDelivered (host_at old to) old.clock isn.0 frame outcome h → new ≡ after_hearing old to frame h → Goes old new
  -- a frame came out of the link and was passed over
  passes_over : (to : Side) (frame : List ℕ) → new ≡ record old { told = old.told ++ given to frame ∷ [] } → Goes old new
  -- b accepted the connection
  accepts : (listener id : SocketId) (peer : Endpoint) → old.receiver ≡ None → accept_answer old.b.sockets listener ≡ Ok (id, peer)
      → new ≡ record old { b = with_sockets old.b (after_accept old.b.sockets listener); receiver = Some id } → Goes old new
  -- b gave octets
  reads : (id : SocketId) (len count : ℕ) (octets : List ℕ) → old.receiver ≡ Some id → len ≤ most_held → length octets ≤ len → octets ≡ readable_on old.b.sockets id count
      → recv_answer old.b.sockets id len ≡ Ok (received.Octets count) → new ≡ record old { b = with_sockets old.b (after_recv old.b.sockets id len); read = old.read ++ octets } → Goes old new
  -- b told the end
  ends : (id : SocketId) (len : ℕ) → old.receiver ≡ Some id → len ≤ most_held → recv_answer old.b.sockets id len ≡ Ok received.EndOfStream
      → new ≡ record old { b = with_sockets old.b (after_recv old.b.sockets id len); ended = true } → Goes old new
  -- the clock came to a moment
  ticks : (moment : Moment) → IsSoundHost (after_tick old.a moment) → new ≡ record old { a = after_tick old.a moment; b = after_tick old.b moment; clock = clock_after old.clock moment } → Goes old new

-- what a copy may come to
pub data IsCourse : CopyView → Type 0 where
  starts : (v : CopyView) → Starts v → IsCourse v
  goes_on : (old new : CopyView) → IsCourse old → IsSoundHost old.a → IsSoundHost old.b → Goes old new → IsCourse new

-- what was read begins what was written, and the end was told only where a's side was closed and all that was written was read
pub record IsLawful (v : CopyView) : Type 0 where
  pub begins : Begins v.read v.sent
  pub end : v.ended ≡ true → (v.closed ≡ true) × (v.read ≡ v.sent)

-- the law of a copy, over every course
abbrev pub EveryCourseIsLawful : Type 0
EveryCourseIsLawful = (v : CopyView) → IsCourse v → IsLawful v
