-- The queues of UDP sockets stay within their limits, whatever happens to the table.
use Rattle.std.proofs.Common.{◌≡◌, ℕ, zero, suc, ◌+◌, ◌<◌, ◌≤◌, ◌&&◌, nat_lt, nat_le, not, Bool, true, false, List, [], ◌∷◌, ◌++◌, length, map, drop, take, Option, Some, None, option_map, Result, Ok, Err, refl, sym, ◌∙◌, ap, subst, length-append, arith}
use Rattle.std.specs.List.{find, filter, remove, retain_mut, sum_by, AllByRecursion}
use Rattle.std.proofs.lemmas.Bool.Decides.{nat_tests}
use Rattle.std.proofs.lemmas.List.{length-map}
use Rattle.std.proofs.lemmas.List.Sums.{sum_by-append, sum_by-cons, sum_by_push}
use Rattle.ipv4.specs.declared.addr.Addr.{Addr}
use Rattle.ipv4.specs.declared.addr.Endpoint.{Endpoint}
use Rattle.arp.proofs.History.{length-filter-le}
use Rattle.clock.specs.declared.moment.Moment.{Moment}
use Rattle.tcp_segment.specs.declared.head.Head.{Head}
use Rattle.tcp_segment.specs.Segment.{Segment}
use Rattle.tcp_state.specs.declared.connection.Fate.{Fate}
use Rattle.tcp_state.specs.View.{View}
use Rattle.udp.specs.Datagram.{UserDatagram}
use Rattle.udp.specs.Waiting.{Waiting, counted, load, brought_forward}
use Rattle.udp_socket.specs.declared.socket.TheConstants.{MOST_OCTETS}
use Rattle.udp_socket.specs.SocketView.{Outgoing, SocketView as Queues, line_of, waiting_of, has_room, with_received, with_sent, after_read}
use Rattle.udp_socket.specs.Emission.{brought, after_part, fragment_of}
use Rattle.udp_socket.specs.Waits.{after_giving_up as queues_after_giving_up, is_given_up}
use Rattle.sockets.specs.declared.emission.Outgoing.{Outgoing as Due}
use Rattle.sockets.specs.declared.entry.SocketId.{SocketId}
use Rattle.sockets.specs.declared.entry.Entry.{Entry}
use Rattle.sockets.specs.declared.refusal.Refusal.{Refusal}
use Rattle.sockets.specs.declared.refusal.Refusal.TheVariants.{EBADF, EMSGSIZE, EAGAIN, EADDRINUSE, EOPNOTSUPP}
use Rattle.sockets.specs.declared.role.Leave.{Leave}
use Rattle.sockets.specs.declared.role.Role.{Role}
use Rattle.sockets.specs.declared.role.Role.TheVariants.{Idle, Listener, Connected, Datagrams}
use Rattle.sockets.specs.Arrival.{arrival_with_reply}
use Rattle.sockets.specs.Calls.{after_bind, after_connect, after_leaving, after_socket_left, of_socket, port_bound, port_connected, reach_refusal}
use Rattle.sockets.specs.Causes.{Event, Makes, MakesDatagrams, Binds, Listens, Accepts, Connects, Sends, Receives, Shuts, SetsNoDelay, SetsKeepAlive, Leaves, Ticks, Hears, Emits, GivesUp, GivesWay, Unreachable, SendsTo, ReceivesFrom, HearsDatagram, after_arrival, after_event}
use Rattle.sockets.specs.GiveWay.{gives_way}
use Rattle.sockets.specs.Datagrams.{after_reception, after_sendto, end_sent_from, sending_end}
use Rattle.sockets.specs.Emission.{after_segment_sent, in_turn}
use Rattle.sockets.specs.Entries.{leaving_fate_of, entries_after_step, has_room_to_receive, has_room_to_send, is_between, is_datagrams_at, is_kept, is_socket, on_connection, on_datagrams, role_after_accept, role_after_bind, role_after_leaving, role_after_connect, role_after_emission, role_after_listen, role_after_listener_close, role_after_reception, role_after_sendto, role_after_unreachable, sends, waits_at, with_first, with_role}
use Rattle.sockets.specs.Lists.{change_first, remove_first}
use Rattle.sockets.specs.Lost.{role_after_giving_up}
use Rattle.sockets.specs.Offered.{IsReached}
use Rattle.sockets.specs.SocketsView.{SocketsView, later_moment, new_sockets, role_of}
use Rattle.sockets.specs.Traffic.{after_events}
use Rattle.sockets.specs.Unreachable.{after_unreachable}
use Rattle.sockets.proofs.Arrivals.{by_arrival}
use Rattle.sockets.proofs.Emitting.{found_due, segment_sent-found, segment_sent-none}
use Rattle.sockets.proofs.Followed.{all_joined, by_test}
use Rattle.sockets.proofs.Queues.{sendto-refused, sendto-given, queued-change, no_room-same, no_socket-same}
use Rattle.sockets.proofs.Told.{told-found, told-none}
use Rattle.host.specs.Limits.{IsInItsQueues, IsShort}

-- One queue.

both : (a b c d : ℕ) → (nat_lt a b && nat_le c d) ≡ true → (a < b) × (c ≤ d)
both a b c d test = (grind (arith, nat_tests, test), grind (arith, nat_tests, test))

-- a datagram joins it that has room
joined-within : (items : List Waiting) (item : Waiting) → has_room items (length item.octets) ≡ true → IsShort items → IsShort (items ++ item ∷ [])
joined-within items item room within =
    let fits = both (length items) 64 (load (line_of items) + (8 + length item.octets)) 65535 room in record {
      number = omega (arith, fits.0, length-append items (item ∷ []));
      octets = omega (arith, fits.1, sum_by_push counted items item);
    }

-- the first leaves
rest-within : (items : List Waiting) → IsShort items → IsShort (drop 1 items)
rest-within [] within = within
rest-within (item ∷ items) within = record { number = omega (arith, within.number); octets = omega (arith, within.octets, sum_by-cons counted item items) }

-- What is to go out.

abbrev size : Outgoing → ℕ
size o = counted (waiting_of o)

load-is : (outbox : List Outgoing) → sum_by counted (map waiting_of outbox) ≡ sum_by size outbox
load-is [] = refl
load-is (o ∷ rest) = sum_by-cons counted (waiting_of o) (map waiting_of rest) ∙ ap (λ n. size o + n) (load-is rest) ∙ sym (sum_by-cons size o rest)

-- no more than other datagrams
fewer-within : (before after : List Outgoing) → length after ≤ length before → sum_by size after ≤ sum_by size before → IsShort (map waiting_of before) → IsShort (map waiting_of after)
fewer-within before after fewer lighter within = record {
  number = omega (arith, fewer, within.number, length-map before waiting_of, length-map after waiting_of);
  octets = omega (arith, lighter, within.octets, load-is before, load-is after);
}

map-push : (outbox : List Outgoing) (o : Outgoing) → map waiting_of (outbox ++ o ∷ []) ≡ map waiting_of outbox ++ waiting_of o ∷ []
map-push [] o = refl
map-push (p ∷ rest) o = ap (λ (ws : List Waiting). waiting_of p ∷ ws) (map-push rest o)

-- one of them stands before the others
brought-length : {X : Type 0} (place : ℕ) (xs : List X) → length (brought_forward place xs) ≡ length xs
brought-length zero [] = refl
brought-length (suc place) [] = refl
brought-length zero (x ∷ xs) = refl
brought-length (suc place) (x ∷ xs) =
    omega (arith, brought-length place xs, length-append (take 1 (drop place xs)) (x ∷ remove xs place), length-append (take 1 (drop place xs)) (remove xs place))

brought-sum : {X : Type 0} (f : X → ℕ) (place : ℕ) (xs : List X) → sum_by f (brought_forward place xs) ≡ sum_by f xs
brought-sum f zero [] = refl
brought-sum f (suc place) [] = refl
brought-sum f zero (x ∷ xs) = refl
brought-sum f (suc place) (x ∷ xs) =
    omega (
      arith,
      brought-sum f place xs,
      sum_by-append f (take 1 (drop place xs)) (x ∷ remove xs place),
      sum_by-append f (take 1 (drop place xs)) (remove xs place),
      sum_by-cons f x (remove xs place),
      sum_by-cons f x xs,
    )

filtered-sum : {X : Type 0} (f : X → ℕ) (p : X → Bool) (xs : List X) → sum_by f (filter p xs) ≤ sum_by f xs
filtered-sum f p [] = omega arith
filtered-sum f p (x ∷ xs) =
    by_test (p x)
    (λ passes. rw passes (omega (arith, filtered-sum f p xs, sum_by-cons f x (filter p xs), sum_by-cons f x xs)))
    (λ fails. rw fails (omega (arith, filtered-sum f p xs, sum_by-cons f x xs)))

-- What happens to a socket.

received-fits : (s : Queues) (from : Endpoint) (octets : List ℕ) → has_room s.inbox (length octets) ≡ true → IsInItsQueues s → IsInItsQueues (with_received s from octets)
received-fits s from octets room fits = record { received = joined-within s.inbox (record { endpoint = from; octets = octets }) room fits.received; sent = fits.sent }

sent-fits : (s : Queues) (now : Moment) (peer : Endpoint) (identification : ℕ) (octets : List ℕ) → has_room (map waiting_of s.outbox) (length octets) ≡ true → IsInItsQueues s → IsInItsQueues (with_sent s now peer identification octets)
sent-fits s now peer identification octets room fits =
    let o : Outgoing = record { peer = peer; identification = identification; since = now; octets = octets } in record {
      received = fits.received;
      sent = subst (λ (items : List Waiting). IsShort items) (sym (map-push s.outbox o)) (joined-within (map waiting_of s.outbox) (waiting_of o) room fits.sent);
    }

read-fits : (s : Queues) → IsInItsQueues s → IsInItsQueues (after_read s)
read-fits s fits = record { received = rest-within s.inbox fits.received; sent = fits.sent }

brought-fits : (place : ℕ) (s : Queues) → IsInItsQueues s → IsInItsQueues (brought place s)
brought-fits zero s fits = fits
brought-fits (suc place) s fits = record {
  received = fits.received;
  sent = fewer-within s.outbox (brought_forward (suc place) s.outbox) (omega (arith, brought-length (suc place) s.outbox)) (omega (arith, brought-sum size (suc place) s.outbox)) fits.sent;
}

part-fits : (s : Queues) → IsInItsQueues s → IsInItsQueues (after_part s)
part-fits s fits = by_outbox s.outbox refl
  where
    by_outbox : (outbox : List Outgoing) → s.outbox ≡ outbox → IsInItsQueues (after_part s)
    by_outbox [] is = rw is (record { received = fits.received; sent = subst (λ (os : List Outgoing). IsShort (map waiting_of os)) is fits.sent })
    by_outbox (o ∷ rest) is =
        let all : IsShort (map waiting_of (o ∷ rest)) = subst (λ (os : List Outgoing). IsShort (map waiting_of os)) is fits.sent in
        let left : IsShort (map waiting_of rest) = fewer-within (o ∷ rest) rest (omega arith) (omega (arith, sum_by-cons size o rest)) all in
        by_test (fragment_of o s.parts).more_fragments
        (λ more. rw (is, more) (record { received = fits.received; sent = all }))
        (λ last. rw (is, last) (record { received = fits.received; sent = left }))

given_up-fits : (s : Queues) (lost : Addr → Bool) (now : Moment) → IsInItsQueues s → IsInItsQueues (queues_after_giving_up s lost now)
given_up-fits s lost now fits =
    let stays : Outgoing → Bool = λ o. not (is_given_up lost now o) in
    record { received = fits.received; sent = fewer-within s.outbox (filter stays s.outbox) (length-filter-le stays s.outbox) (filtered-sum size stays s.outbox) fits.sent }

-- What happens to an entry.

abbrev pub Fits : Role → Type 0
Fits (Datagrams bound socket) = IsInItsQueues socket
Fits (Connected c listener) = Unit {0}
Fits (Listener local backlog) = Unit {0}
Fits (Idle buffers bound) = Unit {0}

-- a change of a role that leaves a UDP socket its queues
abbrev Keeps : (Role → Role) → Type 0
Keeps change = (role : Role) → Fits role → Fits (change role)

connection-keeps : (change : View → View) → Keeps (on_connection change)
connection-keeps change (Datagrams bound s) fits = fits
connection-keeps change (Connected c l) fits = tt
connection-keeps change (Listener local b) fits = tt
connection-keeps change (Idle buffers bound) fits = tt

queues-keep : (bind : Option Endpoint → Option Endpoint) (change : Queues → Queues) → ((s : Queues) → IsInItsQueues s → IsInItsQueues (change s)) → Keeps (on_datagrams bind change)
queues-keep bind change keeps (Datagrams bound s) fits = keeps s fits
queues-keep bind change keeps (Connected c l) fits = tt
queues-keep bind change keeps (Listener local b) fits = tt
queues-keep bind change keeps (Idle buffers bound) fits = tt

bind-keeps : (local : Endpoint) → Keeps (role_after_bind local)
bind-keeps local (Datagrams bound s) fits = fits
bind-keeps local (Connected c l) fits = tt
bind-keeps local (Listener at b) fits = tt
bind-keeps local (Idle buffers bound) fits = tt

listen-keeps : (backlog : ℕ) → Keeps (role_after_listen backlog)
listen-keeps backlog (Datagrams bound s) fits = fits
listen-keeps backlog (Connected c l) fits = tt
listen-keeps backlog (Listener at b) fits = tt
listen-keeps backlog (Idle buffers (Some local)) fits = tt
listen-keeps backlog (Idle buffers None) fits = tt

accept-keeps : Keeps role_after_accept
accept-keeps (Datagrams bound s) fits = fits
accept-keeps (Connected c l) fits = tt
accept-keeps (Listener at b) fits = tt
accept-keeps (Idle buffers bound) fits = tt

connect-keeps : (local peer : Endpoint) (isn : ℕ) (now : Moment) → Keeps (role_after_connect local peer isn now)
connect-keeps local peer isn now (Datagrams bound s) fits = fits
connect-keeps local peer isn now (Connected c l) fits = tt
connect-keeps local peer isn now (Listener at b) fits = tt
connect-keeps local peer isn now (Idle buffers bound) fits = tt

forsaken-keeps : (now : Moment) (id : SocketId) → Keeps (role_after_listener_close now id)
forsaken-keeps now id role fits = by_test (waits_at id role) (λ waits. rw waits (connection-keeps _ role fits)) (λ other. rw other fits)

emission-keeps : (now : Moment) (what : Due) → Keeps (role_after_emission now what)
emission-keeps now what (Datagrams bound s) fits = part-fits (with_first what s) (brought-fits _ s fits)
emission-keeps now what (Connected c l) fits = tt
emission-keeps now what (Listener at b) fits = tt
emission-keeps now what (Idle buffers bound) fits = tt

given_up-keeps : (lost : Addr → Bool) (now : Moment) → Keeps (role_after_giving_up lost now)
given_up-keeps lost now (Datagrams bound s) fits = given_up-fits s lost now fits
given_up-keeps lost now (Connected c l) fits = tt
given_up-keeps lost now (Listener at b) fits = tt
given_up-keeps lost now (Idle buffers bound) fits = tt

-- What happens to the entries.

abbrev AllFit : List Entry → Type 0
AllFit entries = AllByRecursion (λ (e : Entry). Fits e.role) entries

changed-fit : (test : Entry → Bool) (change : Role → Role) → Keeps change → (xs : List Entry) → AllFit xs → AllFit (change_first test (with_role change) xs)
changed-fit test change keeps [] all = tt
changed-fit test change keeps (x ∷ xs) all =
    by_test (test x) (λ passes. rw passes (keeps x.role all.0, all.1)) (λ fails. rw fails (all.0, changed-fit test change keeps xs all.1))

-- the one that is found changes
found-fit : (test : Entry → Bool) (change : Role → Role) (xs : List Entry) (first : Entry) → find test xs ≡ Some first → (Fits first.role → Fits (change first.role)) → AllFit xs → AllFit (change_first test (with_role change) xs)
found-fit test change [] first found keeps all = tt
found-fit test change (x ∷ xs) first found keeps all =
    by_test (test x)
    (λ passes.
    let here : Some x ≡ Some first = rw passes at found in
    let same : first ≡ x = cc in
    let so : Fits x.role → Fits (change x.role) = subst (λ (e : Entry). Fits e.role → Fits (change e.role)) same keeps in
    rw passes (so all.0, all.1))
    (λ fails. let later : find test xs ≡ Some first = rw fails at found in rw fails (all.0, found-fit test change xs first later keeps all.1))

removed-fit : (test : Entry → Bool) (xs : List Entry) → AllFit xs → AllFit (remove_first test xs)
removed-fit test [] all = tt
removed-fit test (x ∷ xs) all = by_test (test x) (λ passes. rw passes all.1) (λ fails. rw fails (all.0, removed-fit test xs all.1))

stepped-fit : (fate : Fate) (test : Entry → Bool) (change : Role → Role) → Keeps change → (xs : List Entry) → AllFit xs → AllFit (entries_after_step fate test change xs)
stepped-fit fate test change keeps xs all = by_test (is_kept fate) (λ kept. rw kept (changed-fit test change keeps xs all)) (λ gone. rw gone (removed-fit test xs all))

retained-fit : (test : Entry → Bool) (change : Role → Role) → Keeps change → (xs : List Entry) → AllFit xs → AllFit (retain_mut test (with_role change) xs)
retained-fit test change keeps [] all = tt
retained-fit test change keeps (x ∷ xs) all =
    by_test (test x) (λ stays. rw stays (keeps x.role all.0, retained-fit test change keeps xs all.1)) (λ goes. rw goes (retained-fit test change keeps xs all.1))

-- What happens to the table.

abbrev Filled : SocketsView → Type 0
Filled h = AllFit h.entries

bound-fit : (h : SocketsView) (id : SocketId) (local : Endpoint) → Filled h → Filled (after_bind h id local)
bound-fit h id local all = by_port (port_bound h id local) refl
  where
    by_port : (r : Result ℕ Refusal) → port_bound h id local ≡ r → Filled (after_bind h id local)
    by_port (Err refusal) given = rw given all
    by_port (Ok port) given = rw given (changed-fit (is_socket id) _ (bind-keeps _) h.entries all)

connected-fit : (h : SocketsView) (now : Moment) (isn : ℕ) (id : SocketId) (peer : Endpoint) (routed : Bool) → Filled h → Filled (after_connect h now isn id peer routed)
connected-fit h now isn id peer routed all = by_port (port_connected h id peer routed) refl
  where
    by_port : (r : Result ℕ Refusal) → port_connected h id peer routed ≡ r → Filled (after_connect h now isn id peer routed)
    by_port (Err refusal) given = rw given all
    by_port (Ok port) given = rw given (changed-fit (is_socket id) _ (connect-keeps _ peer isn (later_moment h now)) h.entries all)

left-fit : (h : SocketsView) (how : Leave) (id : SocketId) → Filled h → Filled (after_leaving h how id)
left-fit h how id all = retained-fit _ _ (forsaken-keeps h.kept id) (let w : SocketsView = after_socket_left h how id in w.entries) (by_role (role_of h id))
  where
    by_role : (o : Option Role) → Filled (of_socket h (λ role. record h { entries = entries_after_step (leaving_fate_of how h.kept role) (is_socket id) (role_after_leaving how h.kept) h.entries }) o)
    by_role None = all
    by_role (Some role) = stepped-fit (leaving_fate_of how h.kept role) (is_socket id) (role_after_leaving how h.kept) (connection-keeps _) h.entries all

heard-fit : (h : SocketsView) (now : Moment) (isn : ℕ) (source : Addr) (s : Segment) → Filled h → Filled (after_event h (Hears now isn source s))
heard-fit h now isn source s all =
    by_arrival h now isn source s (λ a. Filled (after_arrival h a)) (λ reply is. answered reply)
    (λ first taker. stepped-fit _ _ _ (connection-keeps _) h.entries all)
    (λ listener call full. all)
    (λ listener call room. all_joined (λ (e : Entry). Fits e.role) h.entries _ all tt)
  where
    answered : (reply : Option Head) → Filled (after_arrival h (arrival_with_reply h reply))
    answered None = all
    answered (Some head) = all

emitted-fit : (h : SocketsView) (goes : Addr → Bool) (now : Moment) → Filled h → Filled (after_segment_sent h goes now)
emitted-fit h goes now all = by_entry (find (in_turn h (sends goes)) h.entries) refl
  where
    by_entry : (o : Option Entry) → find (in_turn h (sends goes)) h.entries ≡ o → Filled (after_segment_sent h goes now)
    by_entry None found = subst Filled (sym (segment_sent-none h goes now found)) all
    by_entry (Some first) found =
        let due = found_due h goes first found in
        subst Filled (sym (segment_sent-found h goes now first due.0 found due.1)) (stepped-fit _ (in_turn h (sends goes)) _ (emission-keeps (later_moment h now) due.0.1) h.entries all)

told-fit : (h : SocketsView) (local peer : Endpoint) (number : ℕ) → Filled h → Filled (after_unreachable h local peer number)
told-fit h local peer number all = by_entry (find (is_between local peer) h.entries) refl
  where
    by_entry : (o : Option Entry) → find (is_between local peer) h.entries ≡ o → Filled (after_unreachable h local peer number)
    by_entry None found = subst Filled (sym (told-none h local peer number found)) all
    by_entry (Some first) found = subst Filled (sym (told-found h local peer number first found)) (stepped-fit _ (is_between local peer) (role_after_unreachable number) (connection-keeps _) h.entries all)

-- a datagram that is to go out has room in its socket
role-found : (h : SocketsView) (id : SocketId) (role : Role) → role_of h id ≡ Some role → (first : Entry) × (find (is_socket id) h.entries ≡ Some first) × (first.role ≡ role)
role-found h id role is = by_entry (find (is_socket id) h.entries) refl is
  where
    by_entry : (o : Option Entry) → find (is_socket id) h.entries ≡ o → option_map (λ (e : Entry). e.role) o ≡ Some role → (first : Entry) × (find (is_socket id) h.entries ≡ Some first) × (first.role ≡ role)
    by_entry None found e = cc
    by_entry (Some first) found e = (first, found, (let same : first.role ≡ role = cc in same))

module _ (h : SocketsView) (id : SocketId) (peer : Endpoint) (octets : List ℕ) (routed : Bool) (local : Endpoint) where
  abbrev Sent : Type 0
  Sent = end_sent_from h id peer octets routed ≡ Ok local

  abbrev HasRoomAt : Type 0
  HasRoomAt = (first : Entry) × (find (is_socket id) h.entries ≡ Some first) × (has_room_to_send (length octets) first.role ≡ true)

  room-sent : Sent → HasRoomAt
  room-sent given = by_role (role_of h id) refl
    where
      by_room : (bound : Option Endpoint) (q : Queues) (there : Endpoint) → role_of h id ≡ Some (Datagrams bound q) → nat_lt MOST_OCTETS (length octets) ≡ false → reach_refusal h peer routed ≡ None → sending_end h bound ≡ Some there
          → (b : Bool) → has_room_to_send (length octets) (Datagrams bound q) ≡ b → HasRoomAt
      by_room bound q there is short reached sends false room = let refused : end_sent_from h id peer octets routed ≡ Err EAGAIN = rw (is, short, reached, sends, room) in cc
      by_room bound q there is short reached sends true room =
          let at = role-found h id (Datagrams bound q) is in
          (at.0, at.1, ap (has_room_to_send (length octets)) at.2 ∙ room)

      by_end : (bound : Option Endpoint) (q : Queues) → role_of h id ≡ Some (Datagrams bound q) → nat_lt MOST_OCTETS (length octets) ≡ false → reach_refusal h peer routed ≡ None → (o : Option Endpoint) → sending_end h bound ≡ o → HasRoomAt
      by_end bound q is short reached None sends = let refused : end_sent_from h id peer octets routed ≡ Err EADDRINUSE = rw (is, short, reached, sends) in cc
      by_end bound q is short reached (Some there) sends = by_room bound q there is short reached sends (has_room_to_send (length octets) (Datagrams bound q)) refl

      by_reach : (bound : Option Endpoint) (q : Queues) → role_of h id ≡ Some (Datagrams bound q) → nat_lt MOST_OCTETS (length octets) ≡ false → (o : Option Refusal) → reach_refusal h peer routed ≡ o → HasRoomAt
      by_reach bound q is short (Some refusal) reached = let refused : end_sent_from h id peer octets routed ≡ Err refusal = rw (is, short, reached) in cc
      by_reach bound q is short None reached = by_end bound q is short reached (sending_end h bound) refl

      by_len : (bound : Option Endpoint) (q : Queues) → role_of h id ≡ Some (Datagrams bound q) → (b : Bool) → nat_lt MOST_OCTETS (length octets) ≡ b → HasRoomAt
      by_len bound q is true long = let refused : end_sent_from h id peer octets routed ≡ Err EMSGSIZE = rw (is, long) in cc
      by_len bound q is false short = by_reach bound q is short (reach_refusal h peer routed) refl

      by_role : (o : Option Role) → role_of h id ≡ o → HasRoomAt
      by_role None is = let refused : end_sent_from h id peer octets routed ≡ Err EBADF = rw is in cc
      by_role (Some (Datagrams bound q)) is = by_len bound q is (nat_lt MOST_OCTETS (length octets)) refl
      by_role (Some _) is = let refused : end_sent_from h id peer octets routed ≡ Err EOPNOTSUPP = rw is in cc

roomy-sent : (local : Endpoint) (now : Moment) (peer : Endpoint) (identification : ℕ) (octets : List ℕ) (role : Role) → has_room_to_send (length octets) role ≡ true → Fits role → Fits (role_after_sendto local now peer identification octets role)
roomy-sent local now peer identification octets (Datagrams bound s) room fits = sent-fits s now peer identification octets room fits
roomy-sent local now peer identification octets _ room fits = cc

sendto-fit : (h : SocketsView) (id : SocketId) (peer : Endpoint) (octets : List ℕ) (routed : Bool) → Filled h → Filled (after_sendto h id peer octets routed)
sendto-fit h id peer octets routed all = by_end (end_sent_from h id peer octets routed) refl
  where
    by_end : (r : Result Endpoint Refusal) → end_sent_from h id peer octets routed ≡ r → Filled (after_sendto h id peer octets routed)
    by_end (Err refusal) given = subst Filled (sym (sendto-refused h id peer octets routed refusal given)) all
    by_end (Ok local) given =
        let at = room-sent h id peer octets routed local given in
        subst Filled (sym (sendto-given h id peer octets routed local given))
        (found-fit (is_socket id) (role_after_sendto local h.kept peer h.identification octets) h.entries at.0 at.1 (roomy-sent local h.kept peer h.identification octets (let e : Entry = at.0 in e.role) at.2) all)

-- and so has one that came
roomy-received : (from : Endpoint) (octets : List ℕ) (role : Role) → has_room_to_receive (length octets) role ≡ true → Fits role → Fits (role_after_reception from octets role)
roomy-received from octets (Datagrams bound s) room fits = received-fits s from octets room fits
roomy-received from octets _ room fits = cc

received-fit : (h : SocketsView) (source : Addr) (d : UserDatagram) → Filled h → Filled (after_reception h source d)
received-fit h source d all = by_entry (find (is_datagrams_at d.destination) h.entries) refl
  where
    by_room : (e : Entry) → find (is_datagrams_at d.destination) h.entries ≡ Some e → (b : Bool) → has_room_to_receive (length d.payload) e.role ≡ b → Filled (after_reception h source d)
    by_room e found false room = subst Filled (sym (no_room-same h source d (rw (found, room) refl))) all
    by_room e found true room =
        subst Filled (sym (queued-change h source d (rw (found, room) refl)))
        (found-fit (is_datagrams_at d.destination) (role_after_reception (record { addr = source; port = d.source }) d.payload) h.entries e found (roomy-received (record { addr = source; port = d.source }) d.payload e.role room) all)

    by_entry : (o : Option Entry) → find (is_datagrams_at d.destination) h.entries ≡ o → Filled (after_reception h source d)
    by_entry None found = subst Filled (sym (no_socket-same h source d (rw found refl))) all
    by_entry (Some e) found = by_room e found (has_room_to_receive (length d.payload) e.role) refl

-- any event
event-fit : (h : SocketsView) (e : Event) → Filled h → Filled (after_event h e)
event-fit h (Makes buffers) all = all_joined (λ (e : Entry). Fits e.role) h.entries _ all tt
event-fit h MakesDatagrams all = all_joined (λ (e : Entry). Fits e.role) h.entries _ all (record { received = record { number = omega arith; octets = omega arith }; sent = record { number = omega arith; octets = omega arith } })
event-fit h (Binds id local) all = bound-fit h id local all
event-fit h (Listens id backlog) all = changed-fit _ _ (listen-keeps backlog) h.entries all
event-fit h (Accepts id) all = changed-fit _ _ accept-keeps h.entries all
event-fit h (Connects now isn id peer routed) all = connected-fit h now isn id peer routed all
event-fit h (Sends id octets) all = changed-fit _ _ (connection-keeps _) h.entries all
event-fit h (Receives id len) all = changed-fit _ _ (connection-keeps _) h.entries all
event-fit h (Shuts id) all = changed-fit _ _ (connection-keeps _) h.entries all
event-fit h (SetsNoDelay id on) all = changed-fit _ _ (connection-keeps _) h.entries all
event-fit h (SetsKeepAlive id every) all = changed-fit _ _ (connection-keeps _) h.entries all
event-fit h (Leaves how id) all = left-fit h how id all
event-fit h (Ticks now) all = retained-fit _ _ (connection-keeps _) h.entries all
event-fit h (Hears now isn source s) all = heard-fit h now isn source s all
event-fit h (Emits goes now) all = emitted-fit h goes now all
event-fit h (GivesUp lost now) all = retained-fit _ _ (given_up-keeps lost _) h.entries all
event-fit h (GivesWay meant) all = removed-fit (gives_way meant) h.entries all
event-fit h (Unreachable local peer number) all = told-fit h local peer number all
event-fit h (SendsTo id peer octets routed) all = sendto-fit h id peer octets routed all
event-fit h (ReceivesFrom id len) all = changed-fit _ _ (queues-keep _ _ read-fits) h.entries all
event-fit h (HearsDatagram source d) all = received-fit h source d all

events-fit : (events : List Event) (h : SocketsView) → Filled h → Filled (after_events h events)
events-fit [] h all = all
events-fit (e ∷ rest) h all = events-fit rest (after_event h e) (event-fit h e all)

-- and so in each table that events lead to
pub reached-fit : (h : SocketsView) → IsReached h → AllByRecursion (λ (e : Entry). Fits e.role) h.entries
reached-fit h reached = subst Filled reached.is (events-fit reached.events (new_sockets reached.addr reached.manner reached.sizes) tt)
