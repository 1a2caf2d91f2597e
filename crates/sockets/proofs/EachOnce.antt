-- What each call makes of the entries, one by one.
use Rattle.std.proofs.Common.{◌≡◌, ℕ, ◌==◌, ◌≤◌, ◌||◌, Bool, true, false, if◌then◌else◌, List, count_by, Option, Some, None, Result, Ok, Err, is_some, refl, sym, ◌∙◌, subst, arith}
use Rattle.std.proofs.lemmas.Bool.{eqb-true}
use Rattle.std.proofs.lemmas.Grind.{common_steps}
use Rattle.ipv4.specs.declared.addr.Addr.{Addr}
use Rattle.ipv4.specs.declared.addr.Endpoint.{Endpoint}
use Rattle.clock.specs.declared.moment.Moment.{Moment}
use Rattle.tcp_state.specs.View.{View, is_opening}
use Rattle.tcp_state.specs.Calls.{after_shutdown, shutdown_refusal}
use Rattle.tcp_state.specs.Edges as edge
use Rattle.tcp_state.proofs.Edges.{and_left}
use Rattle.udp.specs.Datagram.{UserDatagram}
use Rattle.sockets.specs.declared.datagrams.Reception.{Reception}
use Rattle.sockets.specs.declared.datagrams.Reception.TheVariants.{Queued, NoRoom, NoSocket}
use Rattle.sockets.specs.declared.refusal.Refusal.{Refusal}
use Rattle.sockets.specs.declared.entry.SocketId.{SocketId}
use Rattle.sockets.specs.declared.entry.Entry.{Entry}
use Rattle.sockets.specs.declared.role.Role.{Role}
use Rattle.sockets.specs.declared.role.Role.TheVariants.{Idle, Listener, Connected, Datagrams}
use Rattle.sockets.specs.Lists.{change_first}
use Rattle.sockets.specs.Entries.{on_connection, in_connection, on_datagrams, is_socket, is_between, waits_at, is_waiting_id, sends, is_kept, entries_after_step, entries_after_steps, is_datagrams_at, with_role}
use Rattle.sockets.specs.Entries as role
use Rattle.sockets.specs.SocketsView.{SocketsView, later_moment}
use Rattle.sockets.specs.Calls.{port_bound, after_bind, next_offered, is_next_at, port_connected, after_connect}
use Rattle.sockets.specs.Datagrams.{end_sent_from, after_sendto, reception, after_reception}
use Rattle.sockets.specs.Causes.{Event, Binds, Listens, Accepts, Connects, Sends, Receives, Shuts, SetsNoDelay, SetsKeepAlive, SendsTo, HearsDatagram, after_event, Follows}
use Rattle.sockets.specs.Steps.{event_of, connected, closes_socket, may_change, remains, changes, opens, IsLeft, IsOneEvent}
use Rattle.sockets.specs.Order.{IsOrdered}
use Rattle.sockets.proofs.OfferCounts.{by_option}
use Rattle.sockets.proofs.Queues.{sendto-refused, sendto-given, queued-change, no_room-same, no_socket-same}
use Rattle.sockets.proofs.Steps.{entry}
use Rattle.sockets.proofs.Followed.{IsNothing, by_test, first_changed}
use Rattle.sockets.proofs.OneEvent.{IsPlain, once_changed, ids_once, apart, passed, calls_once, unchanged, sockets_change}
use Rattle.udp_socket.specs.SocketView.{SocketView as Queues, with_sent, with_received}

-- Calls of what is no connection.

module _ (h : SocketsView) where
  binds : (named : SocketId) (asked local : Endpoint) (id : SocketId) (r : Role) → is_socket named (entry id r) ≡ true → IsLeft h (Binds named asked) id r (Some (entry id (role.role_after_bind local r)))
  binds named asked local id (Connected c l) socket = refl
  binds named asked local id (Idle buffers bound) socket = changes (entry id (Idle buffers (Some local))) refl refl socket
  binds named asked local id (Listener l b) socket = remains refl
  binds named asked local id (Datagrams bound queues) socket = changes (entry id (Datagrams (Some local) queues)) refl refl socket

  pub bound_once : (named : SocketId) (asked : Endpoint) → Follows (IsOneEvent h (Binds named asked)) IsNothing h.entries (let w = after_bind h named asked in w.entries)
  bound_once named asked = by_port (port_bound h named asked) refl
    where
      by_port : (r : Result ℕ Refusal) → port_bound h named asked ≡ r → Follows (IsOneEvent h (Binds named asked)) IsNothing h.entries (let w = after_bind h named asked in w.entries)
      by_port (Err refusal) given = rw given (unchanged h (Binds named asked) (λ x l. (refl, refl)) (λ x. refl) (λ x. refl))
      by_port (Ok port) given = rw given (sockets_change h (Binds named asked) (λ x l. (refl, refl)) (λ x. refl) (λ x. refl) (is_socket named) (role.role_after_bind (record { addr = asked.addr; port = port })) (λ id r passes. binds named asked (record { addr = asked.addr; port = port }) id r passes))

  pub listens : (named : SocketId) (backlog : ℕ) (id : SocketId) (r : Role) → is_socket named (entry id r) ≡ true → IsLeft h (Listens named backlog) id r (Some (entry id (role.role_after_listen backlog r)))
  listens named backlog id (Connected c l) socket = refl
  listens named backlog id (Idle buffers None) socket = remains refl
  listens named backlog id (Idle buffers (Some local)) socket = changes (entry id (Listener local backlog)) refl refl socket
  listens named backlog id (Listener l b) socket = remains refl
  listens named backlog id (Datagrams bound queues) socket = remains refl

  connects : (now : Moment) (isn port : ℕ) (named : SocketId) (peer : Endpoint) (routed : Bool) → port_connected h named peer routed ≡ Ok port → (id : SocketId) (r : Role) → is_socket named (entry id r) ≡ true
      → IsLeft h (Connects now isn named peer routed) id r (Some (entry id (role.role_after_connect (record { addr = h.addr; port = port }) peer isn (later_moment h now) r)))
  connects now isn port named peer routed given id (Connected c l) socket = refl
  connects now isn port named peer routed given id (Idle buffers bound) socket = opens now isn named peer routed port id buffers bound socket given
  connects now isn port named peer routed given id (Listener l b) socket = remains refl
  connects now isn port named peer routed given id (Datagrams bound queues) socket = remains refl

  pub connected_once : (now : Moment) (isn : ℕ) (named : SocketId) (peer : Endpoint) (routed : Bool) → Follows (IsOneEvent h (Connects now isn named peer routed)) IsNothing h.entries (let w = after_connect h now isn named peer routed in w.entries)
  connected_once now isn named peer routed = by_port (port_connected h named peer routed) refl
    where
      e : Event
      e = Connects now isn named peer routed

      by_port : (r : Result ℕ Refusal) → port_connected h named peer routed ≡ r → Follows (IsOneEvent h e) IsNothing h.entries (let w = after_connect h now isn named peer routed in w.entries)
      by_port (Err refusal) given = rw given (unchanged h e (λ x l. (refl, refl)) (λ x. refl) (λ x. refl))
      by_port (Ok port) given = rw given (sockets_change h e (λ x l. (refl, refl)) (λ x. refl) (λ x. refl) (is_socket named) (role.role_after_connect (record { addr = h.addr; port = port }) peer isn (later_moment h now)) (λ id r passes. connects now isn port named peer routed given id r passes))

-- what a UDP socket makes of itself is no event of a connection
pub queues_change : (h : SocketsView) (e : Event) → IsPlain h e → ((x : Entry) → closes_socket e x ≡ false) → ((x : Entry) → event_of h e x ≡ None) → (bind : Option Endpoint → Option Endpoint) (change : Queues → Queues) (test : Entry → Bool) → ((x : Entry) → test x ≡ true → may_change h e x ≡ true)
    → Follows (IsOneEvent h e) IsNothing h.entries (change_first test (with_role (on_datagrams bind change)) h.entries)
queues_change h e plain stays none bind change test which = sockets_change h e plain stays none test (on_datagrams bind change) by_role
  where
    by_role : (id : SocketId) (r : Role) → test (entry id r) ≡ true → IsLeft h e id r (Some (entry id (on_datagrams bind change r)))
    by_role id (Connected c l) passes = apart h e plain id c l (none (connected id c l))
    by_role id (Idle buffers bound) passes = remains (stays _)
    by_role id (Listener l b) passes = remains (stays _)
    by_role id (Datagrams bound queues) passes = changes (entry id (Datagrams (bind bound) (change queues))) refl refl (which _ passes)

pub sent_once : (h : SocketsView) (id : SocketId) (peer : Endpoint) (octets : List ℕ) (routed : Bool) → Follows (IsOneEvent h (SendsTo id peer octets routed)) IsNothing h.entries (let w = after_sendto h id peer octets routed in w.entries)
sent_once h id peer octets routed = by_end (end_sent_from h id peer octets routed) refl
  where
    e : Event
    e = SendsTo id peer octets routed

    P : SocketsView → Type 0
    P w = Follows (IsOneEvent h e) IsNothing h.entries w.entries

    by_end : (r : Result Endpoint Refusal) → end_sent_from h id peer octets routed ≡ r → P (after_sendto h id peer octets routed)
    by_end (Err refusal) given = subst P (sym (sendto-refused h id peer octets routed refusal given)) (unchanged h e (λ x l. (refl, refl)) (λ x. refl) (λ x. refl))
    by_end (Ok local) given =
        subst P (sym (sendto-given h id peer octets routed local given))
        (queues_change h e (λ x l. (refl, refl)) (λ x. refl) (λ x. refl) (λ bound. Some local) (λ queues. with_sent queues h.kept peer h.identification octets) (is_socket id) (λ x passes. passes))

pub received_once : (h : SocketsView) (source : Addr) (d : UserDatagram) → Follows (IsOneEvent h (HearsDatagram source d)) IsNothing h.entries (let w = after_reception h source d in w.entries)
received_once h source d = by_reception (reception h d) refl
  where
    e : Event
    e = HearsDatagram source d

    P : SocketsView → Type 0
    P w = Follows (IsOneEvent h e) IsNothing h.entries w.entries

    by_reception : (r : Reception) → reception h d ≡ r → P (after_reception h source d)
    by_reception Queued given =
        subst P (sym (queued-change h source d given))
        (queues_change h e (λ x l. (refl, refl)) (λ x. refl) (λ x. refl) (λ bound. bound) (λ queues. with_received queues (record { addr = source; port = d.source }) d.payload) (is_datagrams_at d.destination) (λ x passes. passes))
    by_reception NoRoom given = subst P (sym (no_room-same h source d given)) (unchanged h e (λ x l. (refl, refl)) (λ x. refl) (λ x. refl))
    by_reception NoSocket given = subst P (sym (no_socket-same h source d given)) (unchanged h e (λ x l. (refl, refl)) (λ x. refl) (λ x. refl))

-- Calls of a connection's socket.

shut_same : (c : View) (now : Moment) → (let d : View = if is_some c.pending_error || is_opening c.state then c else after_shutdown c now in d) ≡ edge.after_event c (edge.Shuts now)
shut_same c now =
    by_test (is_some c.pending_error || is_opening c.state)
    (λ refused. let told : is_some (shutdown_refusal c) ≡ true = grind (arith, common_steps) in rw (refused, told) refl)
    (λ shuts. let taken : is_some (shutdown_refusal c) ≡ false = grind (arith, common_steps) in rw (shuts, taken) refl)

module _ (h : SocketsView) (o : IsOrdered h) where
  pub sends_once : (id : SocketId) (octets : List ℕ) → Follows (IsOneEvent h (Sends id octets)) IsNothing h.entries (let w = after_event h (Sends id octets) in w.entries)
  sends_once id octets = calls_once h (Sends id octets) (λ x l. (refl, refl)) (λ x. refl) (edge.Sends octets h.kept) id _ (λ c. refl) (λ c. refl) (λ x other. rw other refl) (λ x named. rw named refl) o

  pub reads_once : (id : SocketId) (len : ℕ) → Follows (IsOneEvent h (Receives id len)) IsNothing h.entries (let w = after_event h (Receives id len) in w.entries)
  reads_once id len =
      by_test (len == 0)
      (λ none. first_changed (IsOneEvent h e) IsNothing refl (is_socket id) (with_role (role.role_after_recv len)) h.entries (λ x. still none x) (λ x named found. left none x))
      (λ some. calls_once h e (λ x l. (refl, refl)) (λ x. refl) (edge.Receives len) id _ (λ c. rw some refl) (λ c. refl) (λ x other. rw (some, other) refl) (λ x named. rw (some, named) refl) o)
    where
      e : Event
      e = Receives id len

      still : (len == 0) ≡ true → (x : Entry) → IsOneEvent h e x (Some x)
      still none x = passed h e (λ x l. (refl, refl)) x (rw none refl) refl

      left : (len == 0) ≡ true → (x : Entry) → IsOneEvent h e x (Some (with_role (role.role_after_recv len) x))
      left none x = by_role x.role
        where
          by_role : (r : Role) → IsLeft h e x.id r (Some (entry x.id (role.role_after_recv len r)))
          by_role (Connected c l) = rw none refl
          by_role (Idle buffers bound) = remains refl
          by_role (Listener local backlog) = remains refl
          by_role (Datagrams bound queues) = remains refl

  pub shuts_once : (id : SocketId) → Follows (IsOneEvent h (Shuts id)) IsNothing h.entries (let w = after_event h (Shuts id) in w.entries)
  shuts_once id = calls_once h (Shuts id) (λ x l. (refl, refl)) (λ x. refl) (edge.Shuts h.kept) id _ (λ c. shut_same c h.kept) (λ c. refl) (λ x other. rw other refl) (λ x named. rw named refl) o

  pub delays_once : (id : SocketId) (on : Bool) → Follows (IsOneEvent h (SetsNoDelay id on)) IsNothing h.entries (let w = after_event h (SetsNoDelay id on) in w.entries)
  delays_once id on = calls_once h (SetsNoDelay id on) (λ x l. (refl, refl)) (λ x. refl) (edge.SetsNoDelay on h.kept) id _ (λ c. refl) (λ c. refl) (λ x other. rw other refl) (λ x named. rw named refl) o

  pub asks_once : (id : SocketId) (every : Option ℕ) → Follows (IsOneEvent h (SetsKeepAlive id every)) IsNothing h.entries (let w = after_event h (SetsKeepAlive id every) in w.entries)
  asks_once id every = calls_once h (SetsKeepAlive id every) (λ x l. (refl, refl)) (λ x. refl) (edge.SetsKeepAlive every h.kept) id _ (λ c. refl) (λ c. refl) (λ x other. rw other refl) (λ x named. rw named refl) o

  -- The next connection that a listener accepts is one entry.
  pub accepts_once : (id : SocketId) → Follows (IsOneEvent h (Accepts id)) IsNothing h.entries (let w = after_event h (Accepts id) in w.entries)
  accepts_once id = once_changed (IsOneEvent h e) (is_next_at h id) still (with_role role.role_after_accept) accepted h.entries few
    where
      e : Event
      e = Accepts id

      still : (x : Entry) → is_next_at h id x ≡ false → IsOneEvent h e x (Some x)
      still x other = by_role x.role other
        where
          by_role : (r : Role) → is_next_at h id (entry x.id r) ≡ false → IsLeft h e x.id r (Some (entry x.id r))
          by_role (Connected c l) other = rw other refl
          by_role (Idle buffers bound) other = remains refl
          by_role (Listener local backlog) other = remains refl
          by_role (Datagrams bound queues) other = remains refl

      accepted : (x : Entry) → is_next_at h id x ≡ true → IsOneEvent h e x (Some (with_role role.role_after_accept x))
      accepted x next = by_role x.role next
        where
          by_role : (r : Role) → is_next_at h id (entry x.id r) ≡ true → IsLeft h e x.id r (Some (entry x.id (role.role_after_accept r)))
          by_role (Connected c l) next = rw next refl
          by_role (Idle buffers bound) next = remains refl
          by_role (Listener local backlog) next = remains refl
          by_role (Datagrams bound queues) next = remains refl

      few : count_by (is_next_at h id) h.entries ≤ 1
      few =
          by_option (next_offered h id)
          (λ none. ids_once 0 (is_next_at h id) (λ x next. let never : is_next_at h id x ≡ false = rw none refl in let bad : false ≡ true = sym never ∙ next in cc) 0 h.last_id h.entries o.ids)
          (λ n some. ids_once n.0 (is_next_at h id) (λ x next. let waits : role.is_waiting_as id n x ≡ true = rw some at next in eqb-true x.id.0 n.0 (and_left _ _ waits)) 0 h.last_id h.entries o.ids)
