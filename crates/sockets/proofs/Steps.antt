-- What an event makes of each entry of the table, and of the rest of it.
use Rattle.std.proofs.Common.{◌≡◌, ◌⊎◌, inl, inr, ℕ, ◌+◌, ◌≤◌, ◌==◌, ◌||◌, not, Bool, true, false, if◌then◌else◌, List, [], ◌∷◌, ◌++◌, Option, Some, None, Result, Ok, Err, is_some, option_map, refl, sym, ◌∙◌, ap, subst, arith}
use Rattle.std.proofs.lemmas.Bool.Decides.{nat_tests}
use Rattle.std.proofs.lemmas.Grind.{common_steps}
use Rattle.std.specs.List.{find, filter}
use Rattle.ipv4.specs.declared.addr.Addr.{Addr}
use Rattle.ipv4.specs.declared.addr.Endpoint.{Endpoint}
use Rattle.udp.specs.Datagram.{UserDatagram}
use Rattle.udp_socket.specs.SocketView.{SocketView as Queues, with_sent, with_received, after_read}
use Rattle.udp_socket.specs.Emission.{after_part}
use Rattle.tcp_halves.specs.declared.buffers.Buffers.{Buffers}
use Rattle.tcp_segment.specs.declared.head.Head.{Head}
use Rattle.tcp_segment.specs.Segment.{Segment}
use Rattle.clock.specs.declared.moment.Moment.{Moment}
use Rattle.tcp_state.specs.declared.connection.Fate.{Fate}
use Rattle.tcp_state.specs.declared.connection.Fate.TheVariants.{Stays, Removed}
use Rattle.tcp_state.specs.View.{View, is_opening, opened_actively}
use Rattle.tcp_state.specs.Calls.{after_recv, after_shutdown, shutdown_refusal}
use Rattle.tcp_state.specs.Arrival.{opened_passively}
use Rattle.tcp_state.specs.Edges as edge
use Rattle.tcp_state.proofs.Edges.{and_right}
use Rattle.sockets.specs.declared.refusal.Refusal.{Refusal}
use Rattle.sockets.specs.declared.datagrams.Reception.{Reception}
use Rattle.sockets.specs.declared.datagrams.Reception.TheVariants.{Queued, NoRoom, NoSocket}
use Rattle.sockets.specs.declared.entry.SocketId.{SocketId}
use Rattle.sockets.specs.declared.entry.Entry.{Entry}
use Rattle.sockets.specs.declared.emission.Outgoing.{Outgoing}
use Rattle.sockets.specs.declared.role.Leave.{Leave}
use Rattle.sockets.specs.declared.role.Role.{Role}
use Rattle.sockets.specs.declared.role.Role.TheVariants.{Idle, Listener, Connected, Datagrams}
use Rattle.sockets.specs.Entries.{on_connection, in_connection, on_datagrams, is_socket, waits_at, is_waiting_at, is_waiting_id, is_between, sends, new_socket, new_datagram_socket, new_waiting, is_kept, entries_after_step, entries_after_steps, role_after_bind, role_after_listen, role_after_connect, role_after_accept, is_closed_by, leaving_event, role_after_leaving, leaving_fate_of, role_after_listener_close, listener_close_fate_of, role_after_tick, tick_fate_of, with_first, role_after_emission, emission_fate_of, is_datagrams_at, with_role}
use Rattle.sockets.specs.SocketsView.{SocketsView, later_moment, role_of, with_socket}
use Rattle.sockets.specs.GiveWay.{gives_way}
use Rattle.sockets.specs.Lists.{change_first}
use Rattle.tcp_state.specs.Hop.{hopless_fate}
use Rattle.sockets.specs.Lost.{is_given_up, is_hopless, loses_hop, role_after_giving_up, give_up_fate_of}
use Rattle.sockets.specs.Emission.{in_turn, after_segment_sent}
use Rattle.sockets.specs.Turns.{emission_of}
use Rattle.sockets.specs.Unreachable.{after_unreachable}
use Rattle.sockets.specs.Calls.{port_bound, after_bind, is_next_at, port_connected, after_connect, after_socket_left, after_leaving}
use Rattle.sockets.specs.Datagrams.{end_sent_from, after_sendto, reception, after_reception}
use Rattle.sockets.specs.Arrival.{room_for, local_end, peer_end, arrival_with_reply}
use Rattle.sockets.specs.Causes.{Event, Makes, MakesDatagrams, Binds, Listens, Accepts, Connects, Sends, Receives, Shuts, SetsNoDelay, SetsKeepAlive, Leaves, Ticks, Hears, Emits, GivesUp, GivesWay, Unreachable, SendsTo, ReceivesFrom, HearsDatagram, after_arrival, after_event, is_next_away, IsAdded, Follows}
use Rattle.sockets.specs.Timing.{IsUpTo}
use Rattle.sockets.specs.Traffic.{datagrams_taken}
use Rattle.sockets.proofs.Arrivals.{IsCalled, by_arrival}
use Rattle.sockets.proofs.Emitting.{found_due, segment_sent-found, segment_sent-none}
use Rattle.sockets.proofs.Queues.{sendto-refused, sendto-given, queued-change, no_room-same, no_socket-same}
use Rattle.sockets.proofs.Told.{told-found, told-none}
use Rattle.sockets.proofs.Ends.{eqb-same}
use Rattle.sockets.proofs.Followed.{IsNothing, by_test, some_same, as_it_was, first_changed, each_followed, settled_followed, steps_joined}

-- An event of the table that is one of an entry's connection: a call of its socket, the close or the abort of the listener that it waits at, a tick, a segment of its
-- two ends, that something of it goes out, a hard error about a segment between its two ends, or the loss of its hop.
pub data IsEventOf (h : SocketsView) (x : Entry) : Event → edge.Event → Type 0 where
  sends_it : (id : SocketId) (octets : List ℕ) → is_socket id x ≡ true → IsEventOf h x (Sends id octets) (edge.Sends octets h.kept)
  reads_it : (id : SocketId) (len : ℕ) → is_socket id x ≡ true → IsEventOf h x (Receives id len) (edge.Receives len)
  shuts_it : (id : SocketId) → is_socket id x ≡ true → IsEventOf h x (Shuts id) (edge.Shuts h.kept)
  delays_it : (id : SocketId) (on : Bool) → is_socket id x ≡ true → IsEventOf h x (SetsNoDelay id on) (edge.SetsNoDelay on h.kept)
  asks_it : (id : SocketId) (every : Option ℕ) → is_socket id x ≡ true → IsEventOf h x (SetsKeepAlive id every) (edge.SetsKeepAlive every h.kept)
  closes_it : (how : Leave) (id : SocketId) → is_socket id x ≡ true → in_connection true (is_closed_by how) x.role ≡ true → IsEventOf h x (Leaves how id) (edge.Closes h.kept)
  resets_it : (how : Leave) (id : SocketId) → is_socket id x ≡ true → in_connection true (is_closed_by how) x.role ≡ false → IsEventOf h x (Leaves how id) (edge.Aborts h.kept)
  aborts_it : (how : Leave) (id : SocketId) → is_waiting_at id x ≡ true → IsEventOf h x (Leaves how id) (edge.Aborts h.kept)
  ticks_it : (now : Moment) → IsEventOf h x (Ticks now) (edge.Ticks (later_moment h now))
  comes_to_it : (now : Moment) (isn : ℕ) (source : Addr) (s : Segment) → is_between (local_end h s) (peer_end source s) x ≡ true → IsEventOf h x (Hears now isn source s) (edge.Hears s (later_moment h now))
  goes_out : (goes : Addr → Bool) (now : Moment) → find (in_turn h (sends goes)) h.entries ≡ Some x → IsEventOf h x (Emits goes now) (edge.Emits (later_moment h now))
  tells_it : (local peer : Endpoint) (number : ℕ) → is_between local peer x ≡ true → IsEventOf h x (Unreachable local peer number) (edge.Unreachable number)
  loses_it : (lost : Addr → Bool) (now : Moment) → loses_hop lost x.role ≡ true → IsEventOf h x (GivesUp lost now) (edge.LosesHop (later_moment h now))

-- an entry by its two parts
abbrev pub entry : SocketId → Role → Entry
entry id role = record { id = id; role = role }

-- an event that may bind a socket, or open a connection from one
abbrev pub takes_end : Event → Bool
takes_end (Binds id local) = true
takes_end (Connects now isn id peer routed) = true
takes_end (SendsTo id peer octets routed) = true
takes_end _ = false

-- An entry, and what an event leaves of it. A connection goes on by one event of its own, or is taken out by it; an idle socket is bound, listens, or opens a
-- connection; a connection is accepted; and the queues of a UDP socket change, or it is bound. Without an event of its connection an entry is taken out where
-- its socket without one is closed or aborted, its reset is given up, or it gives way to another. Any other stays as it was.
pub data IsStepOf (h : SocketsView) : Event → Entry → Option Entry → Type 0 where
  stays : {e : Event} {x : Entry} → IsStepOf h e x (Some x)
  moves : {e : Event} (ev : edge.Event) (id : SocketId) (c : View) (l : Option SocketId) → IsEventOf h (entry id (Connected c l)) e ev → is_kept (edge.fate_by c ev) ≡ true
      → IsStepOf h e (entry id (Connected c l)) (Some (entry id (Connected (edge.after_event c ev) l)))
  ends : {e : Event} (ev : edge.Event) (id : SocketId) (c : View) (l : Option SocketId) → IsEventOf h (entry id (Connected c l)) e ev → edge.fate_by c ev ≡ Removed → IsStepOf h e (entry id (Connected c l)) None
  binds : (named : SocketId) (asked : Endpoint) (id : SocketId) (buffers : Buffers) (bound : Option Endpoint) (local : Endpoint) → is_socket named (entry id (Idle buffers bound)) ≡ true
      → IsStepOf h (Binds named asked) (entry id (Idle buffers bound)) (Some (entry id (Idle buffers (Some local))))
  listens : (named : SocketId) (backlog : ℕ) (id : SocketId) (buffers : Buffers) (local : Endpoint) → is_socket named (entry id (Idle buffers (Some local))) ≡ true
      → IsStepOf h (Listens named backlog) (entry id (Idle buffers (Some local))) (Some (entry id (Listener local backlog)))
  opens : (now : Moment) (isn : ℕ) (named : SocketId) (peer : Endpoint) (routed : Bool) (id : SocketId) (buffers : Buffers) (bound : Option Endpoint) (local : Endpoint) → is_socket named (entry id (Idle buffers bound)) ≡ true
      → IsStepOf h (Connects now isn named peer routed) (entry id (Idle buffers bound)) (Some (entry id (Connected (opened_actively buffers local peer isn (later_moment h now)) None)))
  accepted : (named id : SocketId) (c : View) (l : Option SocketId) → is_next_at h named (entry id (Connected c l)) ≡ true → IsStepOf h (Accepts named) (entry id (Connected c l)) (Some (entry id (Connected c None)))
  requeues : {e : Event} (id : SocketId) (bound : Option Endpoint) (before after : Queues) → IsStepOf h e (entry id (Datagrams bound before)) (Some (entry id (Datagrams bound after)))
  binds_datagrams : {e : Event} (id : SocketId) (bound : Option Endpoint) (local : Endpoint) (before after : Queues) → takes_end e ≡ true → IsStepOf h e (entry id (Datagrams bound before)) (Some (entry id (Datagrams (Some local) after)))
  closed : (how : Leave) (named id : SocketId) (role : Role) → is_socket named (entry id role) ≡ true → in_connection true (λ c. false) role ≡ true → IsStepOf h (Leaves how named) (entry id role) None
  given_up : (lost : Addr → Bool) (now : Moment) (x : Entry) → is_given_up lost (later_moment h now) x.role ≡ true → IsStepOf h (GivesUp lost now) x None
  gave_way : (meant : Entry → Bool) (x : Entry) → is_next_away h meant x ≡ true → IsStepOf h (GivesWay meant) x None

-- what an event adds: a socket, or a connection that a segment opens where none is
pub data IsJoining (h : SocketsView) : Event → Entry → Type 0 where
  made : (buffers : Buffers) → IsJoining h (Makes buffers) (new_socket (record { 0 = h.last_id + 1 }) buffers)
  made_datagrams : IsJoining h MakesDatagrams (new_datagram_socket (record { 0 = h.last_id + 1 }))
  called : (now : Moment) (isn : ℕ) (source : Addr) (s : Segment) (listener : Entry) → IsCalled h source s listener
      → IsJoining h (Hears now isn source s) (new_waiting (record { 0 = h.last_id + 1 }) listener.id (opened_passively (room_for h s) (local_end h s) (peer_end source s) isn s (later_moment h now)))

-- the table where an event adds nothing
pub record IsFollowed (h : SocketsView) (e : Event) (w : SocketsView) : Type 0 where
  pub addr : w.addr ≡ h.addr
  pub manner : w.manner ≡ h.manner
  pub sizes : w.sizes ≡ h.sizes
  pub last_id : w.last_id ≡ h.last_id
  pub kept : h.kept.0 ≤ w.kept.0
  pub up_to : (last : Moment) → h.kept.0 ≤ last.0 → IsUpTo last e → w.kept.0 ≤ last.0
  pub last_port : takes_end e ≡ false → w.last_port ≡ h.last_port
  pub identification : datagrams_taken h e ≡ 0 → w.identification ≡ h.identification
  pub turn : emission_of e ≡ None → w.turn ≡ h.turn
  pub added : IsAdded h e []
  pub entries : Follows (IsStepOf h e) IsNothing h.entries w.entries

-- and where it adds an entry
pub data IsStepped (h : SocketsView) (e : Event) : SocketsView → Type 0 where
  followed : {w : SocketsView} → IsFollowed h e w → IsStepped h e w
  joined : {x : Entry} → IsJoining h e x → IsStepped h e (record h { last_id = h.last_id + 1; entries = h.entries ++ x ∷ [] })

-- Fates.

-- what keeps no place is taken out
pub gone_removed : (r : Fate) → is_kept r ≡ false → r ≡ Removed
gone_removed r gone = grind arith

-- nothing takes a connection out
staying : (role : Role) → is_kept (in_connection Stays (λ (c : View). Stays) role) ≡ true
staying (Connected c l) = refl
staying _ = refl

-- the later of a moment and the kept one is no earlier than either
pub later_kept : (h : SocketsView) (now : Moment) → (let later = later_moment h now in (h.kept.0 ≤ later.0) × (now.0 ≤ later.0))
later_kept h now = grind (arith, nat_tests)

pub later_up_to : (h : SocketsView) (now last : Moment) → h.kept.0 ≤ last.0 → now.0 ≤ last.0 → (let later = later_moment h now in later.0 ≤ last.0)
later_up_to h now last kept told = grind (arith, nat_tests)

module _ (h : SocketsView) (e : Event) where
  -- Entries.

  -- what changes a connection as one event does, or leaves it
  moved : (change : View → View) (ev : edge.Event) → ((c : View) → (change c ≡ c) ⊎ (change c ≡ edge.after_event c ev)) → (x : Entry) → IsEventOf h x e ev → is_kept (in_connection Stays (λ (c : View). edge.fate_by c ev) x.role) ≡ true → IsStepOf h e x (Some (with_role (on_connection change) x))
  moved change ev either x meets kept = by_role x.role meets kept
    where
      by_role : (r : Role) → IsEventOf h (entry x.id r) e ev → is_kept (in_connection Stays (λ (c : View). edge.fate_by c ev) r) ≡ true → IsStepOf h e (entry x.id r) (Some (entry x.id (on_connection change r)))
      by_role (Connected c l) meets kept =
          let P : View → Type 0 = λ d. IsStepOf h e (entry x.id (Connected c l)) (Some (entry x.id (Connected d l))) in
          elim (either c) [ inl same ↦ subst P (sym same) stays | inr is ↦ subst P (sym is) (moves ev x.id c l meets kept) ]
      by_role _ meets kept = stays

  -- or takes it out
  ended : (ev : edge.Event) (x : Entry) → IsEventOf h x e ev → in_connection Stays (λ (c : View). edge.fate_by c ev) x.role ≡ Removed → IsStepOf h e x None
  ended ev x meets gone = by_role x.role meets gone
    where
      by_role : (r : Role) → IsEventOf h (entry x.id r) e ev → in_connection Stays (λ (c : View). edge.fate_by c ev) r ≡ Removed → IsStepOf h e (entry x.id r) None
      by_role (Connected c l) meets gone = ends ev x.id c l meets gone
      by_role _ meets gone = cc

  -- the queues of a UDP socket change, and of any other nothing does
  queued : (id : SocketId) (change : Queues → Queues) (role : Role) → IsStepOf h e (entry id role) (Some (entry id (on_datagrams (λ bound. bound) change role)))
  queued id change (Datagrams bound before) = requeues id bound before (change before)
  queued id change _ = stays

  -- .. or it is bound where it sends from
  queued_from : takes_end e ≡ true → (id : SocketId) (local : Endpoint) (change : Queues → Queues) (role : Role) → IsStepOf h e (entry id role) (Some (entry id (on_datagrams (λ bound. Some local) change role)))
  queued_from takes id local change (Datagrams bound before) = binds_datagrams id bound local before (change before) takes
  queued_from takes id local change _ = stays

  -- Tables.

  -- nothing changes but entries and those offered
  plain : (entries : List Entry) (offered : List SocketId) → IsAdded h e [] → Follows (IsStepOf h e) IsNothing h.entries entries → IsStepped h e (record h { entries = entries; offered = offered })
  plain entries offered added f = followed (record { addr = refl; manner = refl; sizes = refl; last_id = refl; kept = omega arith; up_to = λ last before up. before; last_port = λ free. refl; identification = λ none. refl; turn = λ none. refl; added = added; entries = f })

  -- .. and who sent last
  turned : (goes : Addr → Bool) → emission_of e ≡ Some goes → (turn : SocketId) (entries : List Entry) → IsAdded h e [] → Follows (IsStepOf h e) IsNothing h.entries entries → IsStepped h e (record h { turn = turn; entries = entries })
  turned goes emits turn entries added f =
      followed (record { addr = refl; manner = refl; sizes = refl; last_id = refl; kept = omega arith; up_to = λ last before up. before; last_port = λ free. refl; identification = λ none. refl; turn = λ none. let bad = sym emits ∙ none in cc; added = added; entries = f })

  -- nothing happens
  unchanged : IsAdded h e [] → IsStepped h e h
  unchanged added = plain h.entries h.offered added (as_it_was (IsStepOf h e) IsNothing refl (λ x. stays) h.entries)

  -- .. where a socket may be bound
  ported : takes_end e ≡ true → (last_port identification : ℕ) (entries : List Entry) → (datagrams_taken h e ≡ 0 → identification ≡ h.identification) → IsAdded h e [] → Follows (IsStepOf h e) IsNothing h.entries entries
      → IsStepped h e (record h { last_port = last_port; identification = identification; entries = entries })
  ported takes last_port identification entries drawn added f =
      followed (record { addr = refl; manner = refl; sizes = refl; last_id = refl; kept = omega arith; up_to = λ last before up. before; last_port = λ free. let bad : true ≡ false = sym takes ∙ free in cc; identification = drawn; turn = λ none. refl; added = added; entries = f })

  -- the first that passes changes
  changes : (test : Entry → Bool) (change : Role → Role) → ((x : Entry) → test x ≡ true → IsStepOf h e x (Some (with_role change x))) → Follows (IsStepOf h e) IsNothing h.entries (change_first test (with_role change) h.entries)
  changes test change step = first_changed (IsStepOf h e) IsNothing refl test (with_role change) h.entries (λ x. stays) (λ x passes found. step x passes)

  -- or takes a step of its connection
  settles : (ev : edge.Event) (test : Entry → Bool) (first : Entry) → find test h.entries ≡ Some first → ((x : Entry) → test x ≡ true → IsEventOf h x e ev)
      → Follows (IsStepOf h e) IsNothing h.entries (entries_after_step (in_connection Stays (λ (c : View). edge.fate_by c ev) first.role) test (on_connection (λ (c : View). edge.after_event c ev)) h.entries)
  settles ev test first found meets =
      let fate : Entry → Fate = λ x. in_connection Stays (λ (c : View). edge.fate_by c ev) x.role in
      settled_followed (IsStepOf h e) IsNothing refl (fate first) test (on_connection (λ (c : View). edge.after_event c ev)) h.entries (λ x. stays)
      (λ kept x passes at. moved (λ (c : View). edge.after_event c ev) ev (λ c. inr refl) x (meets x passes) (ap (λ y. is_kept (fate y)) (some_same _ x first at found) ∙ kept))
      (λ gone x passes at. ended ev x (meets x passes) (gone_removed (fate x) (ap (λ y. is_kept (fate y)) (some_same _ x first at found) ∙ gone)))

  -- a call that a socket's connection takes
  calls : (id : SocketId) (change : View → View) (ev : edge.Event) → IsAdded h e [] → ((c : View) → (change c ≡ c) ⊎ (change c ≡ edge.after_event c ev)) → ((x : Entry) → is_socket id x ≡ true → IsEventOf h x e ev)
      → ((role : Role) → is_kept (in_connection Stays (λ (c : View). edge.fate_by c ev) role) ≡ true) → IsStepped h e (with_socket h id (on_connection change))
  calls id change ev added either meets kept = plain _ h.offered added (changes (is_socket id) (on_connection change) (λ x passes. moved change ev either x (meets x passes) (kept x.role)))

-- Calls: what each makes of the socket that it is for.

bound : (h : SocketsView) (named id : SocketId) (asked local : Endpoint) (role : Role) → is_socket named (entry id role) ≡ true → IsStepOf h (Binds named asked) (entry id role) (Some (entry id (role_after_bind local role)))
bound h named id asked local (Idle buffers before) socket = binds named asked id buffers before local socket
bound h named id asked local (Datagrams before queues) socket = binds_datagrams id before local queues queues refl
bound h named id asked local _ socket = stays

bind_stepped : (h : SocketsView) (id : SocketId) (local : Endpoint) → IsStepped h (Binds id local) (after_bind h id local)
bind_stepped h id local = by_port (port_bound h id local) refl
  where
    by_port : (r : Result ℕ Refusal) → port_bound h id local ≡ r → IsStepped h (Binds id local) (after_bind h id local)
    by_port (Err refusal) given = rw given (unchanged h (Binds id local) refl)
    by_port (Ok port) given = rw given (ported h (Binds id local) refl _ h.identification _ (λ none. refl) refl
        (changes h (Binds id local) (is_socket id) (role_after_bind (record { addr = local.addr; port = port })) (λ x passes. bound h id x.id local (record { addr = local.addr; port = port }) x.role passes)))

listening : (h : SocketsView) (named id : SocketId) (backlog : ℕ) (role : Role) → is_socket named (entry id role) ≡ true → IsStepOf h (Listens named backlog) (entry id role) (Some (entry id (role_after_listen backlog role)))
listening h named id backlog (Idle buffers (Some local)) socket = listens named backlog id buffers local socket
listening h named id backlog _ socket = stays

accepting : (h : SocketsView) (named id : SocketId) (role : Role) → is_next_at h named (entry id role) ≡ true → IsStepOf h (Accepts named) (entry id role) (Some (entry id (role_after_accept role)))
accepting h named id (Connected c l) next = accepted named id c l next
accepting h named id _ next = stays

opening : (h : SocketsView) (now : Moment) (isn : ℕ) (named id : SocketId) (local peer : Endpoint) (routed : Bool) (role : Role) → is_socket named (entry id role) ≡ true → IsStepOf h (Connects now isn named peer routed) (entry id role) (Some (entry id (role_after_connect local peer isn (later_moment h now) role)))
opening h now isn named id local peer routed (Idle buffers before) socket = opens now isn named peer routed id buffers before local socket
opening h now isn named id local peer routed _ socket = stays

connect_stepped : (h : SocketsView) (now : Moment) (isn : ℕ) (id : SocketId) (peer : Endpoint) (routed : Bool) → IsStepped h (Connects now isn id peer routed) (after_connect h now isn id peer routed)
connect_stepped h now isn id peer routed = by_port (port_connected h id peer routed) refl
  where
    by_port : (r : Result ℕ Refusal) → port_connected h id peer routed ≡ r → IsStepped h (Connects now isn id peer routed) (after_connect h now isn id peer routed)
    by_port (Err refusal) given = rw given (unchanged h (Connects now isn id peer routed) refl)
    by_port (Ok port) given = rw given (ported h (Connects now isn id peer routed) refl _ h.identification _ (λ none. refl) refl
        (changes h (Connects now isn id peer routed) (is_socket id) (role_after_connect (record { addr = h.addr; port = port }) peer isn (later_moment h now)) (λ x passes. opening h now isn id x.id (record { addr = h.addr; port = port }) peer routed x.role passes)))

-- a read into an empty buffer leaves the connection
pub read_either : (c : View) (len : ℕ) → let d : View = if len == 0 then c else after_recv c len in (d ≡ c) ⊎ (d ≡ edge.after_event c (edge.Receives len))
read_either c len = by_test (len == 0) (λ none. inl (rw none refl)) (λ some. inr (rw some refl))

-- and so does a shutdown that is refused
pub shut_either : (c : View) (now : Moment) → let d : View = if is_some c.pending_error || is_opening c.state then c else after_shutdown c now in (d ≡ c) ⊎ (d ≡ edge.after_event c (edge.Shuts now))
shut_either c now =
    by_test (is_some c.pending_error || is_opening c.state) (λ refused. inl (rw refused refl))
    (λ shuts. let taken : is_some (shutdown_refusal c) ≡ false = grind (arith, common_steps) in inr (rw (shuts, taken) refl))

-- Leaving.

-- what its caller's leaving is to a connection
left_it : (h : SocketsView) (how : Leave) (named id : SocketId) (c : View) (l : Option SocketId) → is_socket named (entry id (Connected c l)) ≡ true → IsEventOf h (entry id (Connected c l)) (Leaves how named) (leaving_event how h.kept c)
left_it h how named id c l socket =
    let P : Bool → Type 0 = λ b. IsEventOf h (entry id (Connected c l)) (Leaves how named) (if b then edge.Closes h.kept else edge.Aborts h.kept) in
    by_test (is_closed_by how c) (λ closes. subst P (sym closes) (closes_it how named socket closes)) (λ aborts. subst P (sym aborts) (resets_it how named socket aborts))

-- a socket is left: what waits at a listener is none
abbrev IsLeaving : SocketsView → Leave → SocketId → Entry → Option Entry → Type 0
IsLeaving h how id x None = IsStepOf h (Leaves how id) x None
IsLeaving h how id x (Some y) = (y ≡ x) ⊎ (IsStepOf h (Leaves how id) x (Some y) × (waits_at id y.role ≡ false))

-- .. and its connection goes on
leaving : (h : SocketsView) (how : Leave) (id : SocketId) (x : Entry) → is_socket id x ≡ true → is_kept (leaving_fate_of how h.kept x.role) ≡ true → IsLeaving h how id x (Some (with_role (role_after_leaving how h.kept) x))
leaving h how id x named kept = by_role x.role named kept
  where
    by_role : (r : Role) → is_socket id (entry x.id r) ≡ true → is_kept (leaving_fate_of how h.kept r) ≡ true → IsLeaving h how id (entry x.id r) (Some (entry x.id (role_after_leaving how h.kept r)))
    by_role (Connected c None) named kept = inr (moves (leaving_event how h.kept c) x.id c None (left_it h how id x.id c None named) kept, refl)
    by_role (Connected c (Some l)) named kept = let bad : false ≡ true = and_right (x.id.0 == id.0) false named in cc
    by_role _ named kept = cc

-- .. or nothing is left of it
taken_out : (h : SocketsView) (how : Leave) (id : SocketId) (x : Entry) → is_socket id x ≡ true → is_kept (leaving_fate_of how h.kept x.role) ≡ false → IsStepOf h (Leaves how id) x None
taken_out h how id x named gone = by_role x.role named gone
  where
    by_role : (r : Role) → is_socket id (entry x.id r) ≡ true → is_kept (leaving_fate_of how h.kept r) ≡ false → IsStepOf h (Leaves how id) (entry x.id r) None
    by_role (Connected c l) named gone = ends (leaving_event how h.kept c) x.id c l (left_it h how id x.id c l named) (gone_removed _ gone)
    by_role (Idle buffers before) named gone = closed how id x.id (Idle buffers before) named refl
    by_role (Listener l b) named gone = closed how id x.id (Listener l b) named refl
    by_role (Datagrams before queues) named gone = closed how id x.id (Datagrams before queues) named refl

-- the table once the socket is left
record IsLeftAt (h : SocketsView) (how : Leave) (id : SocketId) : Type 0 where
  left : List Entry
  is : after_socket_left h how id ≡ record h { entries = left }
  follows : Follows (IsLeaving h how id) IsNothing h.entries left

socket_left : (h : SocketsView) (how : Leave) (id : SocketId) → IsLeftAt h how id
socket_left h how id = by_role (role_of h id) refl
  where
    same_role : (role : Role) (x : Entry) → role_of h id ≡ Some role → find (is_socket id) h.entries ≡ Some x → x.role ≡ role
    same_role role x is found = some_same (role_of h id) x.role role (ap (λ (o : Option Entry). option_map (λ (e : Entry). e.role) o) found) is

    by_role : (o : Option Role) → role_of h id ≡ o → IsLeftAt h how id
    by_role None is = record { left = h.entries; is = rw is refl; follows = as_it_was (IsLeaving h how id) IsNothing refl (λ x. inl refl) h.entries }
    by_role (Some role) is = record {
      left = entries_after_step (leaving_fate_of how h.kept role) (is_socket id) (role_after_leaving how h.kept) h.entries;
      is = rw is refl;
      follows = settled_followed (IsLeaving h how id) IsNothing refl (leaving_fate_of how h.kept role) (is_socket id) (role_after_leaving how h.kept) h.entries (λ x. inl refl)
          (λ kept x passes found. leaving h how id x passes (ap (λ (r : Role). is_kept (leaving_fate_of how h.kept r)) (same_role role x is found) ∙ kept))
          (λ gone x passes found. taken_out h how id x passes (ap (λ (r : Role). is_kept (leaving_fate_of how h.kept r)) (same_role role x is found) ∙ gone));
    }

-- and each that waits at it is aborted
abbrev IsForsaking : SocketsView → Leave → SocketId → Entry → Option Entry → Type 0
IsForsaking h how id y None = IsStepOf h (Leaves how id) y None × (waits_at id y.role ≡ true)
IsForsaking h how id y (Some z) = IsStepOf h (Leaves how id) y (Some z) × (waits_at id y.role ≡ false → z ≡ y)

forsaking : (h : SocketsView) (how : Leave) (id : SocketId) (y : Entry) → is_kept (listener_close_fate_of id y.role) ≡ true → IsForsaking h how id y (Some (with_role (role_after_listener_close h.kept id) y))
forsaking h how id y kept =
    by_test (waits_at id y.role)
    (λ waits. rw waits (moved h (Leaves how id) (λ (c : View). edge.after_event c (edge.Aborts h.kept)) (edge.Aborts h.kept) (λ c. inr refl) y (aborts_it how id waits) (rw waits at kept), λ other. cc))
    (λ other. rw other (stays, λ e. refl))

forsaken : (h : SocketsView) (how : Leave) (id : SocketId) (y : Entry) → is_kept (listener_close_fate_of id y.role) ≡ false → IsForsaking h how id y None
forsaken h how id y gone =
    by_test (waits_at id y.role)
    (λ waits. (ended h (Leaves how id) (edge.Aborts h.kept) y (aborts_it how id waits) (gone_removed _ (rw waits at gone)), waits))
    (λ other. let kept : is_kept (listener_close_fate_of id y.role) ≡ true = rw other in cc)

leaving_stepped : (h : SocketsView) (how : Leave) (id : SocketId) → IsStepped h (Leaves how id) (after_leaving h how id)
leaving_stepped h how id =
    let c = socket_left h how id in
    let P : SocketsView → Type 0 = λ w. IsStepped h (Leaves how id) (record w { entries = entries_after_steps (listener_close_fate_of id) (role_after_listener_close h.kept id) w.entries; offered = filter (λ x. not (is_waiting_id w.entries id x)) w.offered }) in
    subst P (sym c.is)
    (plain h (Leaves how id) _ _ refl
    (steps_joined (IsLeaving h how id) (IsForsaking h how id) (IsStepOf h (Leaves how id)) (λ x gone. gone) joins h.entries c.left _ c.follows
    (each_followed (IsForsaking h how id) IsNothing refl (λ y. is_kept (listener_close_fate_of id y.role)) (with_role (role_after_listener_close h.kept id)) c.left (forsaking h how id) (forsaken h how id))))
  where
    joins : (x y : Entry) (o : Option Entry) → IsLeaving h how id x (Some y) → IsForsaking h how id y o → IsStepOf h (Leaves how id) x o
    joins x y None (inl same) step = subst (λ (z : Entry). IsStepOf h (Leaves how id) z None) same step.0
    joins x y None (inr socket) step = let bad : true ≡ false = sym step.1 ∙ socket.1 in cc
    joins x y (Some z) (inl same) step = subst (λ (w : Entry). IsStepOf h (Leaves how id) w (Some z)) same step.0
    joins x y (Some z) (inr socket) step = subst (λ (w : Entry). IsStepOf h (Leaves how id) x (Some w)) (sym (step.1 socket.1)) socket.0

-- The clock.

tick_stepped : (h : SocketsView) (now : Moment) → IsStepped h (Ticks now) (after_event h (Ticks now))
tick_stepped h now =
    let later : Moment = later_moment h now in
    followed (record {
      addr = refl;
      manner = refl;
      sizes = refl;
      last_id = refl;
      kept = (later_kept h now).0;
      up_to = λ last before up. later_up_to h now last before up;
      last_port = λ free. refl;
      turn = λ none. refl;
      identification = λ none. refl;
      added = refl;
      entries = each_followed (IsStepOf h (Ticks now)) IsNothing refl (λ x. is_kept (tick_fate_of later x.role)) (with_role (role_after_tick later)) h.entries
          (λ x kept. moved h (Ticks now) (λ (c : View). edge.after_event c (edge.Ticks later)) (edge.Ticks later) (λ c. inr refl) x (ticks_it now) kept)
          (λ x gone. ended h (Ticks now) (edge.Ticks later) x (ticks_it now) (gone_removed _ gone));
    })

-- A segment comes.

answer_stepped : (h : SocketsView) (e : Event) → IsAdded h e [] → (o : Option Head) → IsStepped h e (after_arrival h (arrival_with_reply h o))
answer_stepped h e added None = unchanged h e added
answer_stepped h e added (Some head) = unchanged h e added

segment_stepped : (h : SocketsView) (now : Moment) (isn : ℕ) (source : Addr) (s : Segment) → IsStepped h (Hears now isn source s) (after_event h (Hears now isn source s))
segment_stepped h now isn source s =
    let e : Event = Hears now isn source s in
    by_arrival h now isn source s (λ a. IsStepped h e (after_arrival h a)) (λ reply is. answer_stepped h e (inl refl) reply)
    (λ first taker. plain h e _ _ (inl refl) (settles h e (edge.Hears s (later_moment h now)) (is_between (local_end h s) (peer_end source s)) first taker.found (λ x passes. comes_to_it now isn source s passes)))
    (λ listener call full. unchanged h e (inl refl))
    (λ listener call room. joined (called now isn source s listener call))

-- Something goes out.

emission_stepped : (h : SocketsView) (goes : Addr → Bool) (now : Moment) → IsStepped h (Emits goes now) (after_segment_sent h goes now)
emission_stepped h goes now = by_entry (find (in_turn h (sends goes)) h.entries) refl
  where
    later : Moment
    later = later_moment h now

    going : (what : Outgoing) (id : SocketId) (role : Role) → IsEventOf h (entry id role) (Emits goes now) (edge.Emits later) → is_kept (emission_fate_of (role_after_emission later what role)) ≡ true → IsStepOf h (Emits goes now) (entry id role) (Some (entry id (role_after_emission later what role)))
    going what id (Connected c l) meets kept = moves (edge.Emits later) id c l meets kept
    going what id (Datagrams before queues) meets kept = requeues id before queues (after_part (with_first what queues))
    going what id _ meets kept = stays

    gone_out : (what : Outgoing) (id : SocketId) (role : Role) → IsEventOf h (entry id role) (Emits goes now) (edge.Emits later) → is_kept (emission_fate_of (role_after_emission later what role)) ≡ false → IsStepOf h (Emits goes now) (entry id role) None
    gone_out what id (Connected c l) meets gone = ends (edge.Emits later) id c l meets (gone_removed _ gone)
    gone_out what id _ meets gone = cc

    by_entry : (o : Option Entry) → find (in_turn h (sends goes)) h.entries ≡ o → IsStepped h (Emits goes now) (after_segment_sent h goes now)
    by_entry None found = subst (IsStepped h (Emits goes now)) (sym (segment_sent-none h goes now found)) (unchanged h (Emits goes now) refl)
    by_entry (Some first) found =
        let due = found_due h goes first found in
        let what : Outgoing = due.0.1 in
        let fate : Entry → Fate = λ x. emission_fate_of (role_after_emission later what x.role) in
        subst (IsStepped h (Emits goes now)) (sym (segment_sent-found h goes now first due.0 found due.1))
        (turned h (Emits goes now) goes refl first.id _ refl
        (settled_followed (IsStepOf h (Emits goes now)) IsNothing refl (fate first) (in_turn h (sends goes)) (role_after_emission later what) h.entries (λ x. stays)
        (λ kept x passes at. going what x.id x.role (goes_out goes now at) (ap (λ y. is_kept (fate y)) (some_same _ x first at found) ∙ kept))
        (λ gone x passes at. gone_out what x.id x.role (goes_out goes now at) (ap (λ y. is_kept (fate y)) (some_same _ x first at found) ∙ gone))))

-- What waits for a lost address is given up: a connection goes on by the loss of its hop, or not at all.

module _ (h : SocketsView) (lost : Addr → Bool) (now : Moment) where
  abbrev gives_up : Event
  gives_up = GivesUp lost now

  abbrev by_then : Moment
  by_then = later_moment h now

  giving_up : (id : SocketId) (role : Role) → is_kept (give_up_fate_of lost by_then role) ≡ true → IsStepOf h gives_up (entry id role) (Some (entry id (role_after_giving_up lost by_then role)))
  giving_up id (Connected c l) kept =
      by_test (is_given_up lost by_then (Connected c l))
      (λ reset. let gone : is_kept (give_up_fate_of lost by_then (Connected c l)) ≡ false = rw reset in cc)
      (λ other. by_test (is_hopless lost c)
      (λ hopless. let so : is_kept (hopless_fate c by_then) ≡ true = rw (other, hopless) at kept in rw hopless (moves (edge.LosesHop by_then) id c l (loses_it lost now hopless) so))
      (λ reached. rw reached stays))
  giving_up id (Datagrams before queues) kept = requeues id before queues _
  giving_up id _ kept = stays

  gone_up : (id : SocketId) (role : Role) → is_kept (give_up_fate_of lost by_then role) ≡ false → IsStepOf h gives_up (entry id role) None
  gone_up id (Connected c l) gone =
      by_test (is_given_up lost by_then (Connected c l))
      (λ reset. given_up lost now (entry id (Connected c l)) reset)
      (λ other. by_test (is_hopless lost c)
      (λ hopless. let so : is_kept (hopless_fate c by_then) ≡ false = rw (other, hopless) at gone in ends (edge.LosesHop by_then) id c l (loses_it lost now hopless) (gone_removed _ so))
      (λ reached. let kept : is_kept (give_up_fate_of lost by_then (Connected c l)) ≡ true = rw (other, reached) in cc))
  gone_up id _ gone = cc

-- What gives way is the first that may and is meant.
pub next_away : (h : SocketsView) (meant : Entry → Bool) (x : Entry) → find (gives_way meant) h.entries ≡ Some x → is_next_away h meant x ≡ true
next_away h meant x found = rw found (eqb-same x.id.0)

-- An error comes, or a datagram.

error_stepped : (h : SocketsView) (local peer : Endpoint) (number : ℕ) → IsStepped h (Unreachable local peer number) (after_unreachable h local peer number)
error_stepped h local peer number = by_entry (find (is_between local peer) h.entries) refl
  where
    e : Event
    e = Unreachable local peer number

    by_entry : (o : Option Entry) → find (is_between local peer) h.entries ≡ o → IsStepped h e (after_unreachable h local peer number)
    by_entry None found = subst (IsStepped h e) (sym (told-none h local peer number found)) (unchanged h e refl)
    by_entry (Some first) found = subst (IsStepped h e) (sym (told-found h local peer number first found)) (plain h e _ _ refl (settles h e (edge.Unreachable number) (is_between local peer) first found (λ x passes. tells_it local peer number passes)))

sendto_stepped : (h : SocketsView) (id : SocketId) (peer : Endpoint) (octets : List ℕ) (routed : Bool) → IsStepped h (SendsTo id peer octets routed) (after_sendto h id peer octets routed)
sendto_stepped h id peer octets routed = by_end (end_sent_from h id peer octets routed) refl
  where
    e : Event
    e = SendsTo id peer octets routed

    by_end : (r : Result Endpoint Refusal) → end_sent_from h id peer octets routed ≡ r → IsStepped h e (after_sendto h id peer octets routed)
    by_end (Err refusal) given = subst (IsStepped h e) (sym (sendto-refused h id peer octets routed refusal given)) (unchanged h e refl)
    by_end (Ok local) given =
        let drawn : datagrams_taken h e ≡ 1 = rw given in
        subst (IsStepped h e) (sym (sendto-given h id peer octets routed local given))
        (ported h e refl _ _ _ (λ none. let bad : 1 ≡ 0 = sym drawn ∙ none in absurd (omega (arith, bad))) refl
        (changes h e (is_socket id) (on_datagrams (λ bound. Some local) (λ queues. with_sent queues h.kept peer h.identification octets)) (λ x passes. queued_from h e refl x.id local (λ queues. with_sent queues h.kept peer h.identification octets) x.role)))

datagram_stepped : (h : SocketsView) (source : Addr) (d : UserDatagram) → IsStepped h (HearsDatagram source d) (after_reception h source d)
datagram_stepped h source d = by_reception (reception h d) refl
  where
    e : Event
    e = HearsDatagram source d

    by_reception : (r : Reception) → reception h d ≡ r → IsStepped h e (after_reception h source d)
    by_reception Queued given =
        subst (IsStepped h e) (sym (queued-change h source d given))
        (plain h e _ _ refl (changes h e (is_datagrams_at d.destination) (on_datagrams (λ bound. bound) (λ queues. with_received queues (record { addr = source; port = d.source }) d.payload)) (λ x passes. queued h e x.id (λ queues. with_received queues (record { addr = source; port = d.source }) d.payload) x.role)))
    by_reception NoRoom given = subst (IsStepped h e) (sym (no_room-same h source d given)) (unchanged h e refl)
    by_reception NoSocket given = subst (IsStepped h e) (sym (no_socket-same h source d given)) (unchanged h e refl)

-- every event
pub stepped : (h : SocketsView) (e : Event) → IsStepped h e (after_event h e)
stepped h (Makes buffers) = joined (made buffers)
stepped h MakesDatagrams = joined made_datagrams
stepped h (Binds id local) = bind_stepped h id local
stepped h (Listens id backlog) = plain h (Listens id backlog) _ _ refl (changes h (Listens id backlog) (is_socket id) (role_after_listen backlog) (λ x passes. listening h id x.id backlog x.role passes))
stepped h (Accepts id) = plain h (Accepts id) _ _ refl (changes h (Accepts id) (is_next_at h id) role_after_accept (λ x passes. accepting h id x.id x.role passes))
stepped h (Connects now isn id peer routed) = connect_stepped h now isn id peer routed
stepped h (Sends id octets) = calls h (Sends id octets) id _ (edge.Sends octets h.kept) refl (λ c. inr refl) (λ x named. sends_it id octets named) staying
stepped h (Receives id len) = calls h (Receives id len) id _ (edge.Receives len) refl (λ c. read_either c len) (λ x named. reads_it id len named) staying
stepped h (Shuts id) = calls h (Shuts id) id _ (edge.Shuts h.kept) refl (λ c. shut_either c h.kept) (λ x named. shuts_it id named) staying
stepped h (SetsNoDelay id on) = calls h (SetsNoDelay id on) id _ (edge.SetsNoDelay on h.kept) refl (λ c. inr refl) (λ x named. delays_it id on named) staying
stepped h (SetsKeepAlive id every) = calls h (SetsKeepAlive id every) id _ (edge.SetsKeepAlive every h.kept) refl (λ c. inr refl) (λ x named. asks_it id every named) staying
stepped h (Leaves how id) = leaving_stepped h how id
stepped h (Ticks now) = tick_stepped h now
stepped h (Hears now isn source s) = segment_stepped h now isn source s
stepped h (Emits goes now) = emission_stepped h goes now
stepped h (GivesUp lost now) =
    plain h (GivesUp lost now) _ _ refl
    (each_followed (IsStepOf h (GivesUp lost now)) IsNothing refl (λ x. is_kept (give_up_fate_of lost (later_moment h now) x.role)) (with_role (role_after_giving_up lost (later_moment h now))) h.entries
    (λ x kept. giving_up h lost now x.id x.role kept) (λ x gone. gone_up h lost now x.id x.role gone))
stepped h (GivesWay meant) =
    plain h (GivesWay meant) _ _ refl
    (settled_followed (IsStepOf h (GivesWay meant)) IsNothing refl Removed (gives_way meant) (λ r. r) h.entries (λ x. stays) (λ kept x passes at. cc) (λ gone x passes at. gave_way meant x (next_away h meant x at)))
stepped h (Unreachable local peer number) = error_stepped h local peer number
stepped h (SendsTo id peer octets routed) = sendto_stepped h id peer octets routed
stepped h (ReceivesFrom id len) = plain h (ReceivesFrom id len) _ _ refl (changes h (ReceivesFrom id len) (is_socket id) (on_datagrams (λ bound. bound) after_read) (λ x passes. queued h (ReceivesFrom id len) x.id after_read x.role))
stepped h (HearsDatagram source d) = datagram_stepped h source d
