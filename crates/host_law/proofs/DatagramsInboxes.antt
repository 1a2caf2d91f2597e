-- What waits in UDP sockets to be read stays, whatever happens to the table but for a `recvfrom` and a datagram that comes.
use Rattle.std.proofs.Common.{◌≡◌, ℕ, zero, suc, Bool, List, [], ◌∷◌, Option, Some, None, Result, Ok, Err, refl, sym, ◌∙◌, subst}
use Rattle.std.specs.List.{find, retain_mut, AllByRecursion}
use Rattle.ipv4.specs.declared.addr.Addr.{Addr}
use Rattle.ipv4.specs.declared.addr.Endpoint.{Endpoint}
use Rattle.clock.specs.declared.moment.Moment.{Moment}
use Rattle.tcp_segment.specs.declared.head.Head.{Head}
use Rattle.tcp_segment.specs.Segment.{Segment}
use Rattle.tcp_state.specs.declared.connection.Fate.{Fate}
use Rattle.tcp_state.specs.View.{View}
use Rattle.udp.specs.Waiting.{Waiting}
use Rattle.udp_socket.specs.SocketView.{Outgoing, SocketView as Queues}
use Rattle.udp_socket.specs.Emission.{brought, after_part, fragment_of}
use Rattle.sockets.specs.declared.emission.Outgoing.{Outgoing as Due}
use Rattle.sockets.specs.declared.entry.SocketId.{SocketId}
use Rattle.sockets.specs.declared.entry.Entry.{Entry}
use Rattle.sockets.specs.declared.refusal.Refusal.{Refusal}
use Rattle.sockets.specs.declared.role.Leave.{Leave}
use Rattle.sockets.specs.declared.role.Role.{Role}
use Rattle.sockets.specs.declared.role.Role.TheVariants.{Idle, Listener, Connected, Datagrams}
use Rattle.sockets.specs.Arrival.{arrival_with_reply}
use Rattle.sockets.specs.Calls.{after_bind, after_connect, after_leaving, after_socket_left, of_socket, port_bound, port_connected}
use Rattle.sockets.specs.Causes.{Event, Makes, MakesDatagrams, Binds, Listens, Accepts, Connects, Sends, Receives, Shuts, SetsNoDelay, SetsKeepAlive, Leaves, Ticks, Hears, Emits, GivesUp, GivesWay, Unreachable, SendsTo, ReceivesFrom, HearsDatagram, after_arrival, after_event}
use Rattle.sockets.specs.GiveWay.{gives_way}
use Rattle.sockets.specs.Datagrams.{after_sendto, end_sent_from}
use Rattle.sockets.specs.Emission.{after_segment_sent, in_turn}
use Rattle.sockets.specs.Entries.{leaving_fate_of, entries_after_step, is_between, is_kept, is_socket, on_connection, on_datagrams, place_of, role_after_accept, role_after_bind, role_after_leaving, role_after_connect, role_after_emission, role_after_listen, role_after_listener_close, role_after_sendto, role_after_unreachable, sends, waits_at, with_first, with_role}
use Rattle.sockets.specs.Lists.{change_first, remove_first}
use Rattle.sockets.specs.Lost.{role_after_giving_up}
use Rattle.sockets.specs.SocketsView.{SocketsView, later_moment, role_of}
use Rattle.sockets.specs.Unreachable.{after_unreachable}
use Rattle.sockets.proofs.Arrivals.{by_arrival}
use Rattle.sockets.proofs.Emitting.{found_due, segment_sent-found, segment_sent-none}
use Rattle.sockets.proofs.Followed.{all_joined, by_test}
use Rattle.sockets.proofs.Queues.{sendto-refused, sendto-given}
use Rattle.sockets.proofs.Told.{told-found, told-none}

-- What goes out of a socket leaves what came.

brought-inbox : (place : ℕ) (s : Queues) → (let after : Queues = brought place s in after.inbox) ≡ s.inbox
brought-inbox zero s = refl
brought-inbox (suc place) s = refl

part-inbox : (s : Queues) → (let after : Queues = after_part s in after.inbox) ≡ s.inbox
part-inbox s = by_outbox s.outbox refl
  where
    by_outbox : (outbox : List Outgoing) → s.outbox ≡ outbox → (let after : Queues = after_part s in after.inbox) ≡ s.inbox
    by_outbox [] is = rw is refl
    by_outbox (o ∷ rest) is = by_test (fragment_of o s.parts).more_fragments (λ more. rw (is, more) refl) (λ last. rw (is, last) refl)

-- an event of the table by which nothing is read or comes, and no time is told
abbrev pub IsPlain : Event → Type 0
IsPlain (ReceivesFrom id len) = ⊥
IsPlain (HearsDatagram source d) = ⊥
IsPlain (Ticks now) = ⊥
IsPlain _ = Unit {0}

module _ (W : SocketId → List Waiting → Type 0) where
  -- this holds of what waits in a socket
  abbrev pub Holds : SocketId → Role → Type 0
  Holds id (Datagrams bound socket) = W id socket.inbox
  Holds id (Connected c listener) = Unit {0}
  Holds id (Listener local backlog) = Unit {0}
  Holds id (Idle buffers bound) = Unit {0}

  abbrev pub AllHold : List Entry → Type 0
  AllHold entries = AllByRecursion (λ (e : Entry). Holds e.id e.role) entries

  -- Roles.

  abbrev Keeps : (Role → Role) → Type 0
  Keeps change = (id : SocketId) (role : Role) → Holds id role → Holds id (change role)

  connection-keeps : (change : View → View) → Keeps (on_connection change)
  connection-keeps change id (Datagrams bound s) holds = holds
  connection-keeps change id (Connected c l) holds = tt
  connection-keeps change id (Listener local b) holds = tt
  connection-keeps change id (Idle buffers bound) holds = tt

  queues-keep : (bind : Option Endpoint → Option Endpoint) (change : Queues → Queues) → ((s : Queues) → (let after : Queues = change s in after.inbox) ≡ s.inbox) → Keeps (on_datagrams bind change)
  queues-keep bind change keeps id (Datagrams bound s) holds = subst (W id) (sym (keeps s)) holds
  queues-keep bind change keeps id (Connected c l) holds = tt
  queues-keep bind change keeps id (Listener local b) holds = tt
  queues-keep bind change keeps id (Idle buffers bound) holds = tt

  bind-keeps : (local : Endpoint) → Keeps (role_after_bind local)
  bind-keeps local id (Datagrams bound s) holds = holds
  bind-keeps local id (Connected c l) holds = tt
  bind-keeps local id (Listener at b) holds = tt
  bind-keeps local id (Idle buffers bound) holds = tt

  listen-keeps : (backlog : ℕ) → Keeps (role_after_listen backlog)
  listen-keeps backlog id (Datagrams bound s) holds = holds
  listen-keeps backlog id (Connected c l) holds = tt
  listen-keeps backlog id (Listener at b) holds = tt
  listen-keeps backlog id (Idle buffers (Some local)) holds = tt
  listen-keeps backlog id (Idle buffers None) holds = tt

  accept-keeps : Keeps role_after_accept
  accept-keeps id (Datagrams bound s) holds = holds
  accept-keeps id (Connected c l) holds = tt
  accept-keeps id (Listener at b) holds = tt
  accept-keeps id (Idle buffers bound) holds = tt

  connect-keeps : (local peer : Endpoint) (isn : ℕ) (now : Moment) → Keeps (role_after_connect local peer isn now)
  connect-keeps local peer isn now id (Datagrams bound s) holds = holds
  connect-keeps local peer isn now id (Connected c l) holds = tt
  connect-keeps local peer isn now id (Listener at b) holds = tt
  connect-keeps local peer isn now id (Idle buffers bound) holds = tt

  forsaken-keeps : (now : Moment) (listener : SocketId) → Keeps (role_after_listener_close now listener)
  forsaken-keeps now listener id role holds = by_test (waits_at listener role) (λ waits. rw waits (connection-keeps _ id role holds)) (λ other. rw other holds)

  emission-keeps : (now : Moment) (what : Due) → Keeps (role_after_emission now what)
  emission-keeps now what id (Datagrams bound s) holds = subst (W id) (sym (part-inbox (with_first what s) ∙ brought-inbox (place_of what) s)) holds
  emission-keeps now what id (Connected c l) holds = tt
  emission-keeps now what id (Listener at b) holds = tt
  emission-keeps now what id (Idle buffers bound) holds = tt

  given_up-keeps : (lost : Addr → Bool) (now : Moment) → Keeps (role_after_giving_up lost now)
  given_up-keeps lost now id (Datagrams bound s) holds = holds
  given_up-keeps lost now id (Connected c l) holds = tt
  given_up-keeps lost now id (Listener at b) holds = tt
  given_up-keeps lost now id (Idle buffers bound) holds = tt

  -- Entries.

  changed-hold : (test : Entry → Bool) (change : Role → Role) → Keeps change → (xs : List Entry) → AllHold xs → AllHold (change_first test (with_role change) xs)
  changed-hold test change keeps [] all = tt
  changed-hold test change keeps (x ∷ xs) all =
      by_test (test x) (λ passes. rw passes (keeps x.id x.role all.0, all.1)) (λ fails. rw fails (all.0, changed-hold test change keeps xs all.1))

  removed-hold : (test : Entry → Bool) (xs : List Entry) → AllHold xs → AllHold (remove_first test xs)
  removed-hold test [] all = tt
  removed-hold test (x ∷ xs) all = by_test (test x) (λ passes. rw passes all.1) (λ fails. rw fails (all.0, removed-hold test xs all.1))

  stepped-hold : (fate : Fate) (test : Entry → Bool) (change : Role → Role) → Keeps change → (xs : List Entry) → AllHold xs → AllHold (entries_after_step fate test change xs)
  stepped-hold fate test change keeps xs all = by_test (is_kept fate) (λ kept. rw kept (changed-hold test change keeps xs all)) (λ gone. rw gone (removed-hold test xs all))

  retained-hold : (test : Entry → Bool) (change : Role → Role) → Keeps change → (xs : List Entry) → AllHold xs → AllHold (retain_mut test (with_role change) xs)
  retained-hold test change keeps [] all = tt
  retained-hold test change keeps (x ∷ xs) all =
      by_test (test x) (λ stays. rw stays (keeps x.id x.role all.0, retained-hold test change keeps xs all.1)) (λ goes. rw goes (retained-hold test change keeps xs all.1))

  -- Tables: what waits is as before, and so is the kept moment.

  pub record IsKept (h w : SocketsView) : Type 0 where
    pub holds : AllHold w.entries
    pub kept : w.kept ≡ h.kept

  bound-hold : (h : SocketsView) (id : SocketId) (local : Endpoint) → AllHold h.entries → IsKept h (after_bind h id local)
  bound-hold h id local all = by_port (port_bound h id local) refl
    where
      by_port : (r : Result ℕ Refusal) → port_bound h id local ≡ r → IsKept h (after_bind h id local)
      by_port (Err refusal) given = rw given (record { holds = all; kept = refl })
      by_port (Ok port) given = rw given (record { holds = changed-hold (is_socket id) _ (bind-keeps _) h.entries all; kept = refl })

  connected-hold : (h : SocketsView) (now : Moment) (isn : ℕ) (id : SocketId) (peer : Endpoint) (routed : Bool) → AllHold h.entries → IsKept h (after_connect h now isn id peer routed)
  connected-hold h now isn id peer routed all = by_port (port_connected h id peer routed) refl
    where
      by_port : (r : Result ℕ Refusal) → port_connected h id peer routed ≡ r → IsKept h (after_connect h now isn id peer routed)
      by_port (Err refusal) given = rw given (record { holds = all; kept = refl })
      by_port (Ok port) given = rw given (record { holds = changed-hold (is_socket id) _ (connect-keeps _ peer isn (later_moment h now)) h.entries all; kept = refl })

  left-hold : (h : SocketsView) (how : Leave) (id : SocketId) → AllHold h.entries → IsKept h (after_leaving h how id)
  left-hold h how id all =
      let left = by_role (role_of h id) in
      record { holds = retained-hold _ _ (forsaken-keeps h.kept id) (let w : SocketsView = after_socket_left h how id in w.entries) left.holds; kept = left.kept }
    where
      by_role : (o : Option Role) → IsKept h (of_socket h (λ role. record h { entries = entries_after_step (leaving_fate_of how h.kept role) (is_socket id) (role_after_leaving how h.kept) h.entries }) o)
      by_role None = record { holds = all; kept = refl }
      by_role (Some role) = record { holds = stepped-hold (leaving_fate_of how h.kept role) (is_socket id) (role_after_leaving how h.kept) (connection-keeps _) h.entries all; kept = refl }

  heard-hold : (h : SocketsView) (now : Moment) (isn : ℕ) (source : Addr) (s : Segment) → AllHold h.entries → IsKept h (after_event h (Hears now isn source s))
  heard-hold h now isn source s all =
      by_arrival h now isn source s (λ a. IsKept h (after_arrival h a)) (λ reply is. answered reply)
      (λ first taker. record { holds = stepped-hold _ _ _ (connection-keeps _) h.entries all; kept = refl })
      (λ listener call full. record { holds = all; kept = refl })
      (λ listener call room. record { holds = all_joined (λ (e : Entry). Holds e.id e.role) h.entries _ all tt; kept = refl })
    where
      answered : (reply : Option Head) → IsKept h (after_arrival h (arrival_with_reply h reply))
      answered None = record { holds = all; kept = refl }
      answered (Some head) = record { holds = all; kept = refl }

  emitted-hold : (h : SocketsView) (goes : Addr → Bool) (now : Moment) → AllHold h.entries → IsKept h (after_segment_sent h goes now)
  emitted-hold h goes now all = by_entry (find (in_turn h (sends goes)) h.entries) refl
    where
      by_entry : (o : Option Entry) → find (in_turn h (sends goes)) h.entries ≡ o → IsKept h (after_segment_sent h goes now)
      by_entry None found = subst (IsKept h) (sym (segment_sent-none h goes now found)) (record { holds = all; kept = refl })
      by_entry (Some first) found =
          let due = found_due h goes first found in
          subst (IsKept h) (sym (segment_sent-found h goes now first due.0 found due.1))
          (record { holds = stepped-hold _ (in_turn h (sends goes)) _ (emission-keeps (later_moment h now) due.0.1) h.entries all; kept = refl })

  told-hold : (h : SocketsView) (local peer : Endpoint) (number : ℕ) → AllHold h.entries → IsKept h (after_unreachable h local peer number)
  told-hold h local peer number all = by_entry (find (is_between local peer) h.entries) refl
    where
      by_entry : (o : Option Entry) → find (is_between local peer) h.entries ≡ o → IsKept h (after_unreachable h local peer number)
      by_entry None found = subst (IsKept h) (sym (told-none h local peer number found)) (record { holds = all; kept = refl })
      by_entry (Some first) found =
          subst (IsKept h) (sym (told-found h local peer number first found))
          (record { holds = stepped-hold _ (is_between local peer) (role_after_unreachable number) (connection-keeps _) h.entries all; kept = refl })

  sendto-hold : (h : SocketsView) (id : SocketId) (peer : Endpoint) (octets : List ℕ) (routed : Bool) → AllHold h.entries → IsKept h (after_sendto h id peer octets routed)
  sendto-hold h id peer octets routed all = by_end (end_sent_from h id peer octets routed) refl
    where
      by_end : (r : Result Endpoint Refusal) → end_sent_from h id peer octets routed ≡ r → IsKept h (after_sendto h id peer octets routed)
      by_end (Err refusal) given = subst (IsKept h) (sym (sendto-refused h id peer octets routed refusal given)) (record { holds = all; kept = refl })
      by_end (Ok local) given =
          subst (IsKept h) (sym (sendto-given h id peer octets routed local given))
          (record { holds = changed-hold (is_socket id) (role_after_sendto local h.kept peer h.identification octets) (queues-keep _ _ (λ s. refl)) h.entries all; kept = refl })

  pub plain-holds : ((id : SocketId) → W id []) → (h : SocketsView) (e : Event) → IsPlain e → AllHold h.entries → IsKept h (after_event h e)
  plain-holds none h (Makes buffers) plain all = record { holds = all_joined (λ (e : Entry). Holds e.id e.role) h.entries _ all tt; kept = refl }
  plain-holds none h MakesDatagrams plain all = record { holds = all_joined (λ (e : Entry). Holds e.id e.role) h.entries _ all (none _); kept = refl }
  plain-holds none h (Binds id local) plain all = bound-hold h id local all
  plain-holds none h (Listens id backlog) plain all = record { holds = changed-hold _ _ (listen-keeps backlog) h.entries all; kept = refl }
  plain-holds none h (Accepts id) plain all = record { holds = changed-hold _ _ accept-keeps h.entries all; kept = refl }
  plain-holds none h (Connects now isn id peer routed) plain all = connected-hold h now isn id peer routed all
  plain-holds none h (Sends id octets) plain all = record { holds = changed-hold _ _ (connection-keeps _) h.entries all; kept = refl }
  plain-holds none h (Receives id len) plain all = record { holds = changed-hold _ _ (connection-keeps _) h.entries all; kept = refl }
  plain-holds none h (Shuts id) plain all = record { holds = changed-hold _ _ (connection-keeps _) h.entries all; kept = refl }
  plain-holds none h (SetsNoDelay id on) plain all = record { holds = changed-hold _ _ (connection-keeps _) h.entries all; kept = refl }
  plain-holds none h (SetsKeepAlive id every) plain all = record { holds = changed-hold _ _ (connection-keeps _) h.entries all; kept = refl }
  plain-holds none h (Leaves how id) plain all = left-hold h how id all
  plain-holds none h (Ticks now) plain all = absurd plain
  plain-holds none h (Hears now isn source s) plain all = heard-hold h now isn source s all
  plain-holds none h (Emits goes now) plain all = emitted-hold h goes now all
  plain-holds none h (GivesUp lost now) plain all = record { holds = retained-hold _ _ (given_up-keeps lost _) h.entries all; kept = refl }
  plain-holds none h (GivesWay meant) plain all = record { holds = removed-hold (gives_way meant) h.entries all; kept = refl }
  plain-holds none h (Unreachable local peer number) plain all = told-hold h local peer number all
  plain-holds none h (SendsTo id peer octets routed) plain all = sendto-hold h id peer octets routed all
  plain-holds none h (ReceivesFrom id len) plain all = absurd plain
  plain-holds none h (HearsDatagram source d) plain all = absurd plain

  -- .. and by a tick it is the later of both
  pub tick-holds : (h : SocketsView) (now : Moment) → AllHold h.entries → (let w = after_event h (Ticks now) in AllHold w.entries × (w.kept ≡ later_moment h now))
  tick-holds h now all = (retained-hold _ _ (connection-keeps _) h.entries all, refl)
