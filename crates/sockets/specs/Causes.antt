-- Which states the entries of the table join, what ends them, and what makes them tell an error (RFC 9293 sections 3.3.2 and 3.10).
use Rattle.std.specs.Prelude.{◌≡◌, ◌⊎◌, ℕ, ◌+◌, ◌==◌, ◌&&◌, ◌||◌, not, Bool, true, false, List, [], ◌∷◌, Option, Some, None, find}
use Rattle.std.specs.List.{AllByRecursion}
use Rattle.ipv4.specs.declared.addr.Addr.{Addr}
use Rattle.ipv4.specs.declared.addr.Endpoint.{Endpoint}
use Rattle.tcp_segment.specs.Segment.{Segment}
use Rattle.udp.specs.Datagram.{UserDatagram}
use Rattle.tcp_halves.specs.declared.buffers.Buffers.{Buffers}
use Rattle.clock.specs.declared.moment.Moment.{Moment}
use Rattle.tcp_state.specs.declared.state.State.TheVariants.{SynReceived}
use Rattle.tcp_state.specs.View.{is_closed}
use Rattle.tcp_state.specs.declared.calls.Refusal.{Refusal as Error}
use Rattle.tcp_state.specs.Edges as edge
use Rattle.sockets.specs.declared.entry.SocketId.{SocketId}
use Rattle.sockets.specs.declared.entry.Entry.{Entry}
use Rattle.sockets.specs.declared.role.Leave.{Leave}
use Rattle.sockets.specs.declared.role.Role.{Role}
use Rattle.sockets.specs.declared.state.SocketState.{SocketState}
use Rattle.sockets.specs.declared.state.SocketState.TheVariants.{Datagram, Stream}
use Rattle.sockets.specs.Entries.{in_connection, is_socket, is_waiting_at, is_between, is_listening_at, sends, shown_state, leaving_event, new_socket, new_datagram_socket}
use Rattle.sockets.specs.SocketsView.{SocketsView, later_moment}
use Rattle.sockets.specs.Ticks.{after_tick}
use Rattle.sockets.specs.Lost.{is_given_up, loses_hop, after_giving_up}
use Rattle.sockets.specs.GiveWay.{gives_way, after_giving_way}
use Rattle.sockets.specs.Emission.{in_turn, after_segment_sent}
use Rattle.sockets.specs.Unreachable.{after_unreachable}
use Rattle.sockets.specs.Calls.{after_socket, after_datagram_socket, after_bind, after_listen, after_accept, after_connect, after_send, after_recv, after_shutdown, after_nodelay, after_keepalive, after_leaving}
use Rattle.sockets.specs.Datagrams.{after_sendto, after_recvfrom, after_reception}
use Rattle.sockets.specs.Arrival.{Arrival, Becomes, Opens, NoRoom, Answers, local_end, peer_end, is_opening, arrival}

-- what may happen to the table: a call that is not refused, a tick, a segment or a datagram from an address, something goes out, what waits for a lost
-- address is given up, or a hard error about the segment of a number from one end to another
pub data Event : Type 0 where
  Makes : Buffers → Event
  MakesDatagrams : Event
  Binds : SocketId → Endpoint → Event
  Listens : SocketId → ℕ → Event
  Accepts : SocketId → Event
  Connects : Moment → ℕ → SocketId → Endpoint → Bool → Event
  Sends : SocketId → List ℕ → Event
  Receives : SocketId → ℕ → Event
  Shuts : SocketId → Event
  SetsNoDelay : SocketId → Bool → Event
  SetsKeepAlive : SocketId → Option ℕ → Event
  Leaves : Leave → SocketId → Event
  Ticks : Moment → Event
  Hears : Moment → ℕ → Addr → Segment → Event
  Emits : (Addr → Bool) → Moment → Event
  GivesUp : (Addr → Bool) → Moment → Event
  GivesWay : (Entry → Bool) → Event
  Unreachable : Endpoint → Endpoint → ℕ → Event
  SendsTo : SocketId → Endpoint → List ℕ → Bool → Event
  ReceivesFrom : SocketId → ℕ → Event
  HearsDatagram : Addr → UserDatagram → Event

abbrev pub after_arrival : SocketsView → Arrival → SocketsView
after_arrival h (Becomes next) = next
after_arrival h (Opens next) = next
after_arrival h NoRoom = h
after_arrival h (Answers head) = h

-- the table after an event
abbrev pub after_event : SocketsView → Event → SocketsView
after_event h (Makes buffers) = after_socket h buffers
after_event h MakesDatagrams = after_datagram_socket h
after_event h (Binds id local) = after_bind h id local
after_event h (Listens id backlog) = after_listen h id backlog
after_event h (Accepts id) = after_accept h id
after_event h (Connects now isn id peer routed) = after_connect h now isn id peer routed
after_event h (Sends id octets) = after_send h id octets
after_event h (Receives id len) = after_recv h id len
after_event h (Shuts id) = after_shutdown h id
after_event h (SetsNoDelay id on) = after_nodelay h id on
after_event h (SetsKeepAlive id every) = after_keepalive h id every
after_event h (Leaves how id) = after_leaving h how id
after_event h (Ticks now) = after_tick h now
after_event h (Hears now isn source s) = after_arrival h (arrival h now isn source s)
after_event h (Emits goes now) = after_segment_sent h goes now
after_event h (GivesUp lost now) = after_giving_up h lost now
after_event h (GivesWay meant) = after_giving_way h meant
after_event h (Unreachable local peer number) = after_unreachable h local peer number
after_event h (SendsTo id peer octets routed) = after_sendto h id peer octets routed
after_event h (ReceivesFrom id len) = after_recvfrom h id
after_event h (HearsDatagram source d) = after_reception h source d

-- an event of the entry's connection ends it
abbrev pub is_connection_cause : edge.Event → Role → Bool
is_connection_cause e role = in_connection false (λ c. edge.is_cause c e) role

-- it is what goes out: of the entries that have something due to an address that passes, it is the one whose turn it is
abbrev pub is_next_out : SocketsView → (Addr → Bool) → Entry → Bool
is_next_out h goes x = of_entry (find (in_turn h (sends goes)) h.entries)
  where
    of_entry : Option Entry → Bool
    of_entry None = false
    of_entry (Some first) = first.id.0 == x.id.0

-- it gives way to another: of the entries that may and are meant it is the first
abbrev pub is_next_away : SocketsView → (Entry → Bool) → Entry → Bool
is_next_away h meant x = of_entry (find (gives_way meant) h.entries)
  where
    of_entry : Option Entry → Bool
    of_entry None = false
    of_entry (Some first) = first.id.0 == x.id.0

-- its caller's leaving ends it: nothing is left of a socket without a connection, and a connection ends as its own rules say
abbrev pub is_leaving_cause : Leave → Moment → Role → Bool
is_leaving_cause how now role = in_connection true (λ c. edge.is_cause c (leaving_event how now c)) role

-- What ends an entry: that its socket is closed or aborted, as its role says, or the listener that it waits at; and for a connection a segment of its two
-- ends, a tick, the going out of its segment, a hard error about a segment between its two ends or the loss of its hop, each as its own rules say, or
-- that its reset is given up; or that it gives way to another. No datagram ends one.
abbrev pub is_cause_for : SocketsView → Event → Entry → Bool
is_cause_for h (Leaves how id) x = (is_socket id x && is_leaving_cause how h.kept x.role) || is_waiting_at id x
is_cause_for h (Ticks now) x = is_connection_cause (edge.Ticks (later_moment h now)) x.role
is_cause_for h (Hears now isn source s) x = is_between (local_end h s) (peer_end source s) x && is_connection_cause (edge.Hears s (later_moment h now)) x.role
is_cause_for h (Emits goes now) x = is_next_out h goes x && is_connection_cause (edge.Emits (later_moment h now)) x.role
is_cause_for h (GivesUp lost now) x = is_given_up lost (later_moment h now) x.role || (loses_hop lost x.role && is_connection_cause (edge.LosesHop (later_moment h now)) x.role)
is_cause_for h (GivesWay meant) x = is_next_away h meant x
is_cause_for h (Unreachable local peer number) x = is_between local peer x && is_connection_cause (edge.Unreachable number) x.role
is_cause_for h _ x = false

-- a state of a connection is CLOSED
abbrev pub is_closed_state : SocketState → Bool
is_closed_state (Stream state) = is_closed state
is_closed_state Datagram = false

-- an entry becomes CLOSED
abbrev pub becomes_closed : Role → Role → Bool
becomes_closed before after = not (is_closed_state (shown_state before)) && is_closed_state (shown_state after)

-- a state stays or goes along an edge of the table of states, and a UDP socket stays one
abbrev pub IsEdge : SocketState → SocketState → Type 0
IsEdge (Stream before) (Stream after) = edge.IsEdge before after
IsEdge Datagram Datagram = Unit {0}
IsEdge (Stream before) Datagram = ⊥
IsEdge Datagram (Stream after) = ⊥

-- the error that an entry's connection tells its caller
abbrev pub pending_error_in : Role → Option Error
pending_error_in role = in_connection None (λ c. c.pending_error) role

-- whatever entry has this id, it's one of a connection that tells this error; an id whose entry is gone has none
abbrev pub TellsStill : SocketId → Error → SocketsView → Type 0
TellsStill id error h = AllByRecursion (λ (e : Entry). e.id ≡ id → pending_error_in e.role ≡ Some error) h.entries

-- an event of the entry's connection makes it tell an error: a reset that acts or a hard error, in a state that has it, the last expiry of its timer, or the end of
-- its wait for a hop
abbrev pub reports : edge.Event → Error → Role → Bool
reports e error role = in_connection false (λ c. edge.may_raise c e error) role

abbrev pub reports_to : SocketsView → Event → Error → Entry → Bool
reports_to h (Hears now isn source s) error x = is_between (local_end h s) (peer_end source s) x && reports (edge.Hears s (later_moment h now)) error x.role
reports_to h (Ticks now) error x = reports (edge.Ticks (later_moment h now)) error x.role
reports_to h (GivesUp lost now) error x = loses_hop lost x.role && reports (edge.LosesHop (later_moment h now)) error x.role
reports_to h (Unreachable local peer number) error x = is_between local peer x && reports (edge.Unreachable number) error x.role
reports_to h _ error x = false

-- the errors that are told after an event were told before, or the event makes the connection tell them
abbrev pub IsToldBy : SocketsView → Event → Entry → Entry → Type 0
IsToldBy h e x y = (error : Error) → pending_error_in y.role ≡ Some error → (pending_error_in x.role ≡ Some error) ⊎ (reports_to h e error x ≡ true)

-- An entry, and what an event leaves of it: its state stays, or goes along an edge of the table; where it is taken out, or becomes
-- CLOSED, that has a cause; and so has an error that it tells.
abbrev pub IsStep : SocketsView → Event → Entry → Option Entry → Type 0
IsStep h e x None = is_cause_for h e x ≡ true
IsStep h e x (Some y) = (y.id ≡ x.id) × IsEdge (shown_state x.role) (shown_state y.role) × (becomes_closed x.role y.role ≡ true → is_cause_for h e x ≡ true) × IsToldBy h e x y

-- a new connection in SYN-RECEIVED between the two ends of a segment that opens one, told no error, which waits at the listener of the
-- segment's destination port
pub record IsOpenedBy (h : SocketsView) (source : Addr) (s : Segment) (e : Entry) : Type 0 where
  pub opens : is_opening s.flags ≡ true
  pub id : e.id.0 ≡ h.last_id + 1
  pub between : is_between (local_end h s) (peer_end source s) e ≡ true
  pub state : shown_state e.role ≡ Stream SynReceived
  pub told : pending_error_in e.role ≡ None
  pub listener : Entry
  pub listens : find (is_listening_at s.destination) h.entries ≡ Some listener
  pub waits : is_waiting_at listener.id e ≡ true

-- What an event adds: the making of a socket adds one that is not bound, idle over TCP, a segment at most one connection, and nothing else any.
abbrev pub IsAdded : SocketsView → Event → List Entry → Type 0
IsAdded h (Makes buffers) added = added ≡ new_socket (record { 0 = h.last_id + 1 }) buffers ∷ []
IsAdded h MakesDatagrams added = added ≡ new_datagram_socket (record { 0 = h.last_id + 1 }) ∷ []
IsAdded h (Hears now isn source s) added = (added ≡ []) ⊎ ((e : Entry) × (added ≡ e ∷ []) × IsOpenedBy h source s e)
IsAdded h _ added = added ≡ []

-- The table before and after, entry by entry and in order: what is left of each, and behind them what was added.
abbrev pub Follows : (Entry → Option Entry → Type 0) → (List Entry → Type 0) → List Entry → List Entry → Type 0
Follows Step Added [] ys = Added ys
Follows Step Added (x ∷ xs) [] = Step x None × Follows Step Added xs []
Follows Step Added (x ∷ xs) (y ∷ ys) = (Step x (Some y) × Follows Step Added xs ys) ⊎ (Step x None × Follows Step Added xs (y ∷ ys))
