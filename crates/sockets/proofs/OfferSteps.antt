-- What each event makes of those that wait, and of those that are offered.
use Rattle.std.proofs.Common.{◌≡◌, ℕ, ◌+◌, ◌<◌, ◌&&◌, not, Bool, true, false, List, [], ◌∷◌, ◌++◌, count_by, Option, Some, None, Result, Ok, Err, refl, sym, ◌∙◌, ap, subst}
use Rattle.std.specs.List.{find, filter}
use Rattle.std.proofs.lemmas.Bool.{leb-false, or_parts}
use Rattle.ipv4.specs.declared.addr.Addr.{Addr}
use Rattle.ipv4.specs.declared.addr.Endpoint.{Endpoint}
use Rattle.udp.specs.Datagram.{UserDatagram}
use Rattle.tcp_segment.specs.declared.head.Head.{Head}
use Rattle.tcp_segment.specs.Segment.{Segment}
use Rattle.clock.specs.declared.moment.Moment.{Moment}
use Rattle.tcp_state.specs.View.{View}
use Rattle.tcp_state.specs.Edges as edge
use Rattle.tcp_state.specs.Arrival.{opened_passively}
use Rattle.tcp_state.specs.declared.connection.Fate.{Fate}
use Rattle.tcp_state.specs.declared.connection.Fate.TheVariants.{Removed}
use Rattle.tcp_state.proofs.Edges.{and_right}
use Rattle.sockets.specs.declared.datagrams.Reception.{Reception}
use Rattle.sockets.specs.declared.datagrams.Reception.TheVariants.{Queued}
use Rattle.sockets.specs.declared.entry.SocketId.{SocketId}
use Rattle.sockets.specs.declared.entry.Entry.{Entry}
use Rattle.sockets.specs.declared.emission.Outgoing.{Outgoing}
use Rattle.sockets.specs.declared.role.Leave.{Leave}
use Rattle.sockets.specs.declared.role.Role.{Role}
use Rattle.sockets.specs.Entries.{is_socket, waits_at, is_waiting_at, is_waiting_as, is_waiting_id, backlog_of, is_between, is_listening_at, sends, is_kept, is_offered_by, entries_after_step, entries_after_steps, fate_of, role_after_segment, role_after_unreachable, unreachable_fate_of, role_after_tick, tick_fate_of, role_after_emission, emission_fate_of, role_after_listener_close, listener_close_fate_of, leaving_event, role_after_leaving, leaving_fate_of, role_after_bind, role_after_listen, role_after_connect, role_after_accept, new_socket, new_datagram_socket, new_waiting, on_connection, on_datagrams, is_datagrams_at, with_role}
use Rattle.sockets.specs.SocketsView.{SocketsView, later_moment, with_socket}
use Rattle.sockets.specs.GiveWay.{gives_way}
use Rattle.sockets.specs.Lost.{role_after_giving_up, give_up_fate_of}
use Rattle.sockets.specs.Emission.{in_turn, after_segment_sent}
use Rattle.sockets.specs.Unreachable.{after_unreachable}
use Rattle.sockets.specs.Calls.{is_table_full, port_bound, after_bind, next_offered, is_next_at, after_accept, port_connected, after_connect, after_socket_left, after_leaving}
use Rattle.sockets.specs.Datagrams.{end_sent_from, after_sendto, reception, after_reception}
use Rattle.sockets.specs.Arrival.{room_for, local_end, peer_end, has_no_room, arrival_with_reply, offered_with, arrival, after_opening}
use Rattle.sockets.specs.Lists.{change_first, remove_first}
use Rattle.sockets.specs.Causes.{Event, Makes, MakesDatagrams, Binds, Listens, Accepts, Connects, Sends, Receives, Shuts, SetsNoDelay, SetsKeepAlive, Leaves, Ticks, Hears, Emits, GivesUp, GivesWay, Unreachable, SendsTo, ReceivesFrom, HearsDatagram, Follows, after_arrival, after_event}
use Rattle.sockets.specs.Order.{IsAllowed}
use Rattle.sockets.specs.Offered.{is_ready}
use Rattle.sockets.proofs.Offered.{next-test, next-none}
use Rattle.sockets.proofs.Followed.{IsNothing, by_test, some_same, as_it_was, first_changed, each_followed, settled_followed}
use Rattle.sockets.proofs.Arrivals.{IsTaker, after_taking, by_arrival}
use Rattle.sockets.proofs.Opened.{found_passes}
use Rattle.sockets.proofs.OfferCounts.{by_option, same-id}
use Rattle.sockets.proofs.Emitting.{found_due, segment_sent-found, segment_sent-none}
use Rattle.sockets.proofs.OfferRoles.{IsPlain, is_waking, Carries, Turned, StaysReady, as-it-was, socket-stays, socket-unready, bound-stays, listening-stays, connecting-stays, queued-stays, tick-stays, tick-gone, emission-stays, emission-gone, give_up-stays, give_up-gone, give_way-gone, told-stays, told-gone, forsaken-withdrawn, forsaken-gone, accepted-carries}
use Rattle.sockets.proofs.OfferHeard.{heard-stays, heard-carries, heard-gone, offered-waking, offered-kept, offered-ready}

-- An entry, and what is left of it: where roles stay so it is ready as before, and else it is ready no longer; it goes only where it was not ready, or doesn't stay so ..
abbrev pub IsTurned : (Role → Bool) → Entry → Option Entry → Type 0
IsTurned stays x None = IsPlain x.role → (stays x.role && is_ready x.role) ≡ false
IsTurned stays x (Some y) = (y.id ≡ x.id) × (IsPlain x.role → Turned (stays x.role) x.role y.role)

-- .. which all do ..
abbrev pub all : Role → Bool
all r = true

abbrev pub IsCalm : Entry → Option Entry → Type 0
IsCalm x o = IsTurned all x o

-- .. or those that don't wait at this listener
abbrev pub elsewhere : SocketId → Role → Bool
elsewhere id r = not (waits_at id r)

abbrev pub IsForsaken : SocketId → Entry → Option Entry → Type 0
IsForsaken id x o = IsTurned (elsewhere id) x o

-- whatever becomes of it, it waits nowhere else
abbrev pub IsCarried : Entry → Option Entry → Type 0
IsCarried x None = Unit {0}
IsCarried x (Some y) = (y.id ≡ x.id) × (IsPlain x.role → Carries x.role y.role)

-- a listener has room
pub record HasRoom (h : SocketsView) (id : SocketId) : Type 0 where
  pub listener : Entry
  pub test : Entry → Bool
  pub found : find test h.entries ≡ Some listener
  pub same : listener.id ≡ id
  pub room : count_by (is_waiting_at id) h.entries < backlog_of listener.role

-- an entry joins, and none is offered
pub record IsJoined (h w : SocketsView) : Type 0 where
  pub new : Entry
  pub id : new.id.0 ≡ h.last_id + 1
  pub last : w.last_id ≡ h.last_id + 1
  pub sizes : w.sizes ≡ h.sizes
  pub entries : w.entries ≡ h.entries ++ new ∷ []
  pub offered : w.offered ≡ h.offered
  pub place : is_table_full h ≡ false
  pub plain : IsPlain new.role
  pub ready : is_ready new.role ≡ false
  pub room : (id : SocketId) → waits_at id new.role ≡ true → HasRoom h id

-- those that are there stay as they were
pub record IsStill (h w : SocketsView) : Type 0 where
  pub last : w.last_id ≡ h.last_id
  pub sizes : w.sizes ≡ h.sizes
  pub offered : w.offered ≡ h.offered
  pub follows : Follows IsCalm IsNothing h.entries w.entries

-- one passes SYN-RECEIVED
pub record IsPassed (h w : SocketsView) : Type 0 where
  pub last : w.last_id ≡ h.last_id
  pub sizes : w.sizes ≡ h.sizes
  pub test : Entry → Bool
  pub change : Role → Role
  pub e : Entry
  pub found : find test h.entries ≡ Some e
  pub waking : is_waking e.role ≡ true
  pub ready : IsPlain e.role → is_ready (change e.role) ≡ true
  pub offered : w.offered ≡ offered_with h.sizes.entries true e.id h.offered
  pub entries : w.entries ≡ change_first test (with_role change) h.entries
  pub follows : Follows IsCarried IsNothing h.entries w.entries

-- one is accepted
pub record IsTaken (h w : SocketsView) : Type 0 where
  pub last : w.last_id ≡ h.last_id
  pub sizes : w.sizes ≡ h.sizes
  pub listener : SocketId
  pub id : SocketId
  pub next : next_offered h listener ≡ Some id
  pub offered : w.offered ≡ remove_first (is_waiting_id h.entries listener) h.offered
  pub entries : w.entries ≡ change_first (is_waiting_as listener id) (with_role role_after_accept) h.entries
  pub follows : Follows IsCarried IsNothing h.entries w.entries

-- a listener goes: its socket is left, and those that wait at it are aborted then
pub record IsLeft (h w : SocketsView) : Type 0 where
  pub listener : SocketId
  pub between : SocketsView
  pub first : IsStill h between
  pub last : w.last_id ≡ between.last_id
  pub sizes : w.sizes ≡ between.sizes
  pub then_follows : Follows (IsForsaken listener) IsNothing between.entries w.entries
  pub offered : w.offered ≡ filter (λ x. not (is_waiting_id between.entries listener x)) between.offered

-- one of the five
pub data Outcome : SocketsView → SocketsView → Type 0 where
  Still : {h w : SocketsView} → IsStill h w → Outcome h w
  Joined : {h w : SocketsView} → IsJoined h w → Outcome h w
  Passed : {h w : SocketsView} → IsPassed h w → Outcome h w
  Taken : {h w : SocketsView} → IsTaken h w → Outcome h w
  Left : {h w : SocketsView} → IsLeft h w → Outcome h w

-- Steps.

-- an entry that nothing happens to is ready as before, and waits nowhere else
calm : (x : Entry) → IsCalm x (Some x)
calm x = (refl, as-it-was x.role)

carried : (x : Entry) → IsCarried x (Some x)
carried x = (refl, λ p. (as-it-was x.role p).carries)

-- nobody is offered who was not
still : (h w : SocketsView) → w.last_id ≡ h.last_id → w.sizes ≡ h.sizes → w.offered ≡ h.offered → Follows IsCalm IsNothing h.entries w.entries → Outcome h w
still h w last sizes offered follows = Still (record { last = last; sizes = sizes; offered = offered; follows = follows })

nothing-happens : (h : SocketsView) → Outcome h h
nothing-happens h = still h h refl refl refl (as_it_was IsCalm IsNothing refl calm h.entries)

-- the first that passes changes ..
changed : (test : Entry → Bool) (change : Role → Role) (entries : List Entry) → ((x : Entry) → test x ≡ true → IsPlain x.role → StaysReady x.role (change x.role)) → Follows IsCalm IsNothing entries (change_first test (with_role change) entries)
changed test change entries stays = first_changed IsCalm IsNothing refl test (with_role change) entries calm (λ x passes found. (refl, stays x passes))

-- .. or a socket's connection does
called : (h : SocketsView) (id : SocketId) (change : View → View) → Outcome h (with_socket h id (on_connection change))
called h id change = still h _ refl refl refl (changed (is_socket id) (on_connection change) h.entries (λ x passes. socket-stays change x.role (and_right _ _ passes)))

-- .. or goes on or goes, by what it is
settled : (test : Entry → Bool) (fate : Role → Fate) (change : Role → Role) (entries : List Entry) (e : Entry) → find test entries ≡ Some e
    → ((x : Entry) → test x ≡ true → is_kept (fate x.role) ≡ true → x ≡ e → IsPlain x.role → StaysReady x.role (change x.role))
    → ((x : Entry) → test x ≡ true → is_kept (fate x.role) ≡ false → IsPlain x.role → is_ready x.role ≡ false)
    → Follows IsCalm IsNothing entries (entries_after_step (fate e.role) test change entries)
settled test fate change entries e found stays gone =
    settled_followed IsCalm IsNothing refl (fate e.role) test change entries calm
    (λ kept x passes at. let same = some_same _ x e at found in (refl, stays x passes (ap (λ (y : Entry). is_kept (fate y.role)) same ∙ kept) same))
    (λ removed x passes at. gone x passes (ap (λ (y : Entry). is_kept (fate y.role)) (some_same _ x e at found) ∙ removed))

-- each goes on or goes
all-settled : (fate : Role → Fate) (change : Role → Role) (entries : List Entry) → ((r : Role) → is_kept (fate r) ≡ true → IsPlain r → StaysReady r (change r)) → ((r : Role) → is_kept (fate r) ≡ false → IsPlain r → is_ready r ≡ false)
    → Follows IsCalm IsNothing entries (entries_after_steps fate change entries)
all-settled fate change entries stays gone = each_followed IsCalm IsNothing refl (λ x. is_kept (fate x.role)) (with_role change) entries (λ x kept. (refl, stays x.role kept)) (λ x removed. gone x.role removed)

-- Events.

-- by what a call answers
by_result : {X E P : Type 0} (r : Result X E) → ((e : E) → r ≡ Err e → P) → ((x : X) → r ≡ Ok x → P) → P
by_result (Err e) refused taken = refused e refl
by_result (Ok x) refused taken = taken x refl

bind-outcome : (h : SocketsView) (id : SocketId) (local : Endpoint) → Outcome h (after_bind h id local)
bind-outcome h id local =
    by_result (port_bound h id local) (λ refusal given. rw given (nothing-happens h))
    (λ port given.
    let there : Endpoint = record { addr = local.addr; port = port } in
    rw given (still h _ refl refl refl (changed (is_socket id) (role_after_bind there) h.entries (λ x passes. bound-stays there x.role))))

connect-outcome : (h : SocketsView) (now : Moment) (isn : ℕ) (id : SocketId) (peer : Endpoint) (routed : Bool) → Outcome h (after_connect h now isn id peer routed)
connect-outcome h now isn id peer routed =
    by_result (port_connected h id peer routed) (λ refusal given. rw given (nothing-happens h))
    (λ port given.
    let local : Endpoint = record { addr = h.addr; port = port } in
    rw given (still h _ refl refl refl (changed (is_socket id) (role_after_connect local peer isn (later_moment h now)) h.entries (λ x passes. connecting-stays local peer isn (later_moment h now) x.role))))

sendto-outcome : (h : SocketsView) (id : SocketId) (peer : Endpoint) (octets : List ℕ) (routed : Bool) → Outcome h (after_sendto h id peer octets routed)
sendto-outcome h id peer octets routed =
    by_result (end_sent_from h id peer octets routed) (λ refusal given. rw given (nothing-happens h))
    (λ local given. rw given (still h _ refl refl refl (changed (is_socket id) (on_datagrams _ _) h.entries (λ x passes. queued-stays _ _ x.role))))

datagram-outcome : (h : SocketsView) (source : Addr) (d : UserDatagram) → Outcome h (after_reception h source d)
datagram-outcome h source d = by_reception (reception h d) refl
  where
    by_reception : (r : Reception) → reception h d ≡ r → Outcome h (after_reception h source d)
    by_reception Queued given = rw given (still h _ refl refl refl (changed (is_datagrams_at d.destination) (on_datagrams _ _) h.entries (λ x passes. queued-stays _ _ x.role)))
    by_reception _ given = rw given (nothing-happens h)

emission-outcome : (h : SocketsView) (goes : Addr → Bool) (now : Moment) → Outcome h (after_segment_sent h goes now)
emission-outcome h goes now =
    by_option (find (in_turn h (sends goes)) h.entries) (λ none. subst (Outcome h) (sym (segment_sent-none h goes now none)) (nothing-happens h))
    (λ e found.
    let later = later_moment h now in
    let due = found_due h goes e found in
    let what : Outgoing = due.0.1 in
    subst (Outcome h) (sym (segment_sent-found h goes now e due.0 found due.1))
    (still h _ refl refl refl (settled (in_turn h (sends goes)) (λ r. emission_fate_of (role_after_emission later what r)) (role_after_emission later what) h.entries e found
    (λ x passes kept same. emission-stays later what x.role) (λ x passes gone. emission-gone later what x.role gone))))

error-outcome : (h : SocketsView) (local peer : Endpoint) (number : ℕ) → Outcome h (after_unreachable h local peer number)
error-outcome h local peer number =
    by_option (find (is_between local peer) h.entries) (λ none. rw none (nothing-happens h))
    (λ e found. rw found (still h _ refl refl refl (settled (is_between local peer) (unreachable_fate_of number) (role_after_unreachable number) h.entries e found
    (λ x passes kept same. told-stays number x.role) (λ x passes gone. told-gone number x.role gone))))

-- Accepting.

accept-outcome : (h : SocketsView) (id : SocketId) → Outcome h (after_accept h id)
accept-outcome h id =
    by_option (next_offered h id)
    (λ none. still h _ refl refl (unremoved (is_waiting_id h.entries id) h.offered none)
    (first_changed IsCalm IsNothing refl (is_next_at h id) (with_role role_after_accept) h.entries calm (λ y passes found. let nobody = next-none h id none in cc)))
    (λ x next. Taken (record {
      last = refl;
      sizes = refl;
      listener = id;
      id = x;
      next = next;
      offered = refl;
      entries = ap (λ (t : Entry → Bool). change_first t (with_role role_after_accept) h.entries) (next-test h id x next);
      follows = first_changed IsCarried IsNothing refl (is_next_at h id) (with_role role_after_accept) h.entries carried (λ y passes found. (refl, accepted-carries y.role));
    }))
  where
    unremoved : (test : SocketId → Bool) (xs : List SocketId) → find test xs ≡ None → remove_first test xs ≡ xs
    unremoved test [] none = refl
    unremoved test (x ∷ xs) none = by_test (test x) (λ here. let some = (rw here at none) in cc) (λ there. rw there (ap (λ (ys : List SocketId). x ∷ ys) (unremoved test xs (rw there at none))))

-- Leaving.

-- the socket itself goes, or its connection goes on without it
socket-left : (h : SocketsView) (how : Leave) (id : SocketId) → IsStill h (after_socket_left h how id)
socket-left h how id =
    by_option (find (is_socket id) h.entries) (λ none. rw none (record { last = refl; sizes = refl; offered = refl; follows = as_it_was IsCalm IsNothing refl calm h.entries }))
    (λ e found. rw found (record {
      last = refl;
      sizes = refl;
      offered = refl;
      follows = settled (is_socket id) (leaving_fate_of how h.kept) (role_after_leaving how h.kept) h.entries e found
          (λ x passes kept same. socket-stays (λ c. edge.after_event c (leaving_event how h.kept c)) x.role (and_right _ _ passes)) (λ x passes gone. socket-unready x.role (and_right _ _ passes));
    }))

leaving-outcome : (h : SocketsView) (how : Leave) (id : SocketId) → Outcome h (after_leaving h how id)
leaving-outcome h how id =
    let alone = after_socket_left h how id in
    Left (record {
      listener = id;
      between = alone;
      first = socket-left h how id;
      last = refl;
      sizes = refl;
      then_follows = each_followed (IsForsaken id) IsNothing refl (λ x. is_kept (listener_close_fate_of id x.role)) (with_role (role_after_listener_close h.kept id)) alone.entries
          (λ x kept. (refl, forsaken-withdrawn h.kept id x.role kept)) (λ x gone p. rw (forsaken-gone id x.role gone));
      offered = refl;
    })

-- A segment.

answer-outcome : (h : SocketsView) (reply : Option Head) → Outcome h (after_arrival h (arrival_with_reply h reply))
answer-outcome h None = nothing-happens h
answer-outcome h (Some head) = nothing-happens h

opening-outcome : (h : SocketsView) (now : Moment) (isn : ℕ) (listener : Entry) (source : Addr) (s : Segment) → find (is_listening_at s.destination) h.entries ≡ Some listener → has_no_room h listener ≡ false → Outcome h (after_opening h now isn listener source s)
opening-outcome h now isn listener source s found place =
    let parts = or_parts _ _ place in
    Joined (record {
      new = new_waiting (record { 0 = h.last_id + 1 }) listener.id (opened_passively (room_for h s) (local_end h s) (peer_end source s) isn s now);
      id = refl;
      last = refl;
      sizes = refl;
      entries = refl;
      offered = refl;
      place = parts.1;
      plain = record { passive = refl; sent = refl; owes = λ e. refl; left = λ e. cc };
      ready = refl;
      room = λ id waits.
          let same = same-id listener.id id waits in
          record { listener = listener; test = is_listening_at s.destination; found = found; same = same; room = subst (λ (i : SocketId). count_by (is_waiting_at i) h.entries < backlog_of listener.role) same (leb-false _ _ parts.0) };
    })

taking-outcome : (h : SocketsView) (now : Moment) (source : Addr) (s : Segment) (e : Entry) → IsTaker h source s e → Outcome h (after_taking h now source s e)
taking-outcome h now source s e taker = by_test (is_offered_by moment s e.role) passed quiet
  where
    moment : Moment
    moment = later_moment h now

    test : Entry → Bool
    test = is_between (local_end h s) (peer_end source s)

    quiet : is_offered_by moment s e.role ≡ false → Outcome h (after_taking h now source s e)
    quiet none = still h _ refl refl (rw none) (settled test (fate_of s) (role_after_segment moment s) h.entries e taker.found
        (λ x passes kept same. heard-stays moment s (local_end h s) (peer_end source s) x.role passes kept (ap (λ (y : Entry). is_offered_by moment s y.role) same ∙ none)) (λ x passes gone. heard-gone s x.role gone))

    passed : is_offered_by moment s e.role ≡ true → Outcome h (after_taking h now source s e)
    passed offered =
        let list : entries_after_step (fate_of s e.role) test (role_after_segment moment s) h.entries ≡ change_first test (with_role (role_after_segment moment s)) h.entries = rw (offered-kept moment s e.role offered) in
        Passed (record {
          last = refl;
          sizes = refl;
          test = test;
          change = role_after_segment moment s;
          e = e;
          found = taker.found;
          waking = offered-waking moment s e.role offered;
          ready = offered-ready moment s (local_end h s) (peer_end source s) e.role (found_passes test h.entries e taker.found) offered;
          offered = ap (λ (b : Bool). offered_with h.sizes.entries b e.id h.offered) offered;
          entries = list;
          follows = subst (λ (ws : List Entry). Follows IsCarried IsNothing h.entries ws) (sym list)
              (first_changed IsCarried IsNothing refl test (with_role (role_after_segment moment s)) h.entries carried (λ x passes at. (refl, heard-carries moment s (local_end h s) (peer_end source s) x.role passes)));
        })

segment-outcome : (h : SocketsView) (now : Moment) (isn : ℕ) (source : Addr) (s : Segment) → Outcome h (after_arrival h (arrival h now isn source s))
segment-outcome h now isn source s =
    by_arrival h now isn source s (λ a. Outcome h (after_arrival h a)) (λ reply is. answer-outcome h reply) (λ e taker. taking-outcome h now source s e taker)
    (λ listener called full. nothing-happens h) (λ listener called room. opening-outcome h (later_moment h now) isn listener source s called.found room)

pub outcome : (h : SocketsView) (e : Event) → IsAllowed h e → Outcome h (after_event h e)
outcome h (Makes buffers) allowed = Joined (record { new = new_socket (record { 0 = h.last_id + 1 }) buffers; id = refl; last = refl; sizes = refl; entries = refl; offered = refl; place = allowed.0; plain = tt; ready = refl; room = λ id w. cc })
outcome h MakesDatagrams allowed = Joined (record { new = new_datagram_socket (record { 0 = h.last_id + 1 }); id = refl; last = refl; sizes = refl; entries = refl; offered = refl; place = allowed; plain = tt; ready = refl; room = λ id w. cc })
outcome h (Binds id local) allowed = bind-outcome h id local
outcome h (Listens id backlog) allowed = still h _ refl refl refl (changed (is_socket id) (role_after_listen backlog) h.entries (λ x passes. listening-stays backlog x.role))
outcome h (Accepts id) allowed = accept-outcome h id
outcome h (Connects now isn id peer routed) allowed = connect-outcome h now isn id peer routed
outcome h (Sends id octets) allowed = called h id _
outcome h (Receives id len) allowed = called h id _
outcome h (Shuts id) allowed = called h id _
outcome h (SetsNoDelay id on) allowed = called h id _
outcome h (SetsKeepAlive id every) allowed = called h id _
outcome h (Leaves how id) allowed = leaving-outcome h how id
outcome h (Ticks now) allowed = let later = later_moment h now in still h _ refl refl refl (all-settled (tick_fate_of later) (role_after_tick later) h.entries (tick-stays later) (tick-gone later))
outcome h (Hears now isn source s) allowed = segment-outcome h now isn source s
outcome h (Emits goes now) allowed = emission-outcome h goes now
outcome h (GivesUp lost now) allowed =
    let later = later_moment h now in still h _ refl refl refl (all-settled (give_up_fate_of lost later) (role_after_giving_up lost later) h.entries (give_up-stays lost later) (give_up-gone lost later))
outcome h (GivesWay meant) allowed = still h _ refl refl refl (settled_followed IsCalm IsNothing refl Removed (gives_way meant) (λ r. r) h.entries calm (λ kept x passes at. cc) (λ gone x passes at. give_way-gone x.id x.role (and_right (meant x) _ passes)))
outcome h (Unreachable local peer number) allowed = error-outcome h local peer number
outcome h (SendsTo id peer octets routed) allowed = sendto-outcome h id peer octets routed
outcome h (ReceivesFrom id len) allowed = still h _ refl refl refl (changed (is_socket id) (on_datagrams _ _) h.entries (λ x passes. queued-stays _ _ x.role))
outcome h (HearsDatagram source d) allowed = datagram-outcome h source d
