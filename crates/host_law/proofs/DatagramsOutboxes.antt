-- What waits in UDP sockets to go out stays, in turn, whatever happens to the table but for a `sendto` and for what goes out.
use Rattle.std.proofs.Common.{◌≡◌, ℕ, suc, ◌+◌, ◌*◌, ◌<◌, ◌≤◌, ◌^◌, ◌==◌, ◌&&◌, not, nat_lt, Bool, true, false, cond, if◌then◌else◌, List, [], ◌∷◌, ◌++◌, length, map, filter, option_map, Option, Some, None, Result, Ok, Err, refl, sym, ◌∙◌, ap, subst, arith}
use Rattle.std.specs.List.{find, retain_mut, AllByRecursion}
use Rattle.std.specs.Option.{ok_or}
use Rattle.std.proofs.lemmas.Bool.Decides.{nat_tests}
use Rattle.ipv4.specs.declared.addr.Addr.{Addr}
use Rattle.ipv4.specs.declared.addr.Endpoint.{Endpoint}
use Rattle.ipv4.specs.Addresses.{same_addr}
use Rattle.clock.specs.declared.moment.Moment.{Moment}
use Rattle.tcp_segment.specs.declared.head.Head.{Head}
use Rattle.tcp_segment.specs.Segment.{Segment}
use Rattle.tcp_state.specs.declared.connection.Fate.{Fate}
use Rattle.tcp_state.specs.View.{View}
use Rattle.udp.specs.Datagram.{UserDatagram}
use Rattle.udp.specs.Fragments.{count_of}
use Rattle.udp_socket.specs.Emission.{after_part, brought, first_that, fragment_of}
use Rattle.udp_socket.specs.SocketView.{Outgoing, SocketView as Queues, new_socket}
use Rattle.udp_socket.specs.Waits.{after_giving_up, is_given_up, parts_left}
use Rattle.udp_socket.proofs.Places.{brought_between}
use Rattle.sockets.specs.declared.datagrams.Reception.{Reception}
use Rattle.sockets.specs.declared.datagrams.Reception.TheVariants.{Queued, NoRoom, NoSocket}
use Rattle.sockets.specs.declared.emission.Outgoing.{Outgoing as Due}
use Rattle.sockets.specs.declared.entry.SocketId.{SocketId}
use Rattle.sockets.specs.declared.entry.Entry.{Entry}
use Rattle.sockets.specs.declared.refusal.Refusal.{Refusal}
use Rattle.sockets.specs.declared.refusal.Refusal.TheVariants.{EADDRINUSE, EADDRNOTAVAIL, EINVAL}
use Rattle.sockets.specs.declared.role.Leave.{Leave}
use Rattle.sockets.specs.declared.role.Role.{Role}
use Rattle.sockets.specs.declared.role.Role.TheVariants.{Idle, Listener, Connected, Datagrams}
use Rattle.sockets.specs.Arrival.{arrival_with_reply}
use Rattle.sockets.specs.Calls.{after_bind, after_connect, after_leaving, after_socket_left, any_addr, free_port, of_socket, port_at, port_bound, port_connected}
use Rattle.sockets.specs.Causes.{Event, Makes, MakesDatagrams, Binds, Listens, Accepts, Connects, Sends, Receives, Shuts, SetsNoDelay, SetsKeepAlive, Leaves, Ticks, Hears, Emits, GivesUp, GivesWay, Unreachable, SendsTo, ReceivesFrom, HearsDatagram, after_arrival, after_event}
use Rattle.sockets.specs.GiveWay.{gives_way}
use Rattle.sockets.specs.Datagrams.{after_reception, reception}
use Rattle.sockets.specs.Emission.{after_segment_sent, in_turn}
use Rattle.sockets.specs.Entries.{due_to, emission_fate_of, leaving_fate_of, entries_after_step, is_between, is_kept, is_socket, on_connection, role_after_accept, role_after_bind, role_after_leaving, role_after_connect, role_after_emission, role_after_listen, role_after_listener_close, role_after_reception, role_after_recvfrom, role_after_unreachable, sends, waits_at, with_role}
use Rattle.sockets.specs.Ids.{AreAscending}
use Rattle.sockets.specs.Lists.{change_first, remove_first}
use Rattle.sockets.specs.Lost.{role_after_giving_up}
use Rattle.sockets.specs.Ports.{first_port, is_free_datagram_port}
use Rattle.sockets.specs.SocketsView.{SocketsView, later_moment, role_of}
use Rattle.sockets.specs.Unreachable.{after_unreachable}
use Rattle.sockets.proofs.Arrivals.{by_arrival}
use Rattle.sockets.proofs.ByIds.{found_above, found_behind, found_first}
use Rattle.sockets.proofs.Connected.{some_from_ok}
use Rattle.sockets.proofs.Emitting.{segment_sent-found}
use Rattle.sockets.proofs.FirstPorts.{given_dynamic}
use Rattle.sockets.proofs.Followed.{all_joined, by_test}
use Rattle.sockets.proofs.Queues.{queued-change, no_room-same, no_socket-same}
use Rattle.sockets.proofs.Told.{told-found, told-none}

-- fewer fragments of the first have gone out than it has
abbrev pub HasPartsLeft : List Outgoing → ℕ → Type 0
HasPartsLeft [] parts = parts ≡ 0
HasPartsLeft (o ∷ rest) parts = parts < count_of (8 + length o.octets)

first-left : (outbox : List Outgoing) → HasPartsLeft outbox 0
first-left [] = refl
first-left (o ∷ rest) = omega arith

-- a datagram that waits, and how many were taken before it
pub record Numbered : Type 0 where
  pub number : ℕ
  pub o : Outgoing

abbrev pub outs : List Numbered → List Outgoing
outs zs = map (λ z. z.o) zs

-- for one address the one behind was taken later
abbrev pub IsBefore : Numbered → Numbered → Type 0
IsBefore a b = a.o.peer.addr ≡ b.o.peer.addr → a.number < b.number

abbrev pub AreInTurn : List Numbered → Type 0
AreInTurn [] = Unit {0}
AreInTurn (z ∷ zs) = AllByRecursion (IsBefore z) zs × AreInTurn zs

-- Lists.

pub all-weaker : {X : Type 0} (P Q : X → Type 0) → ((x : X) → P x → Q x) → (xs : List X) → AllByRecursion P xs → AllByRecursion Q xs
all-weaker P Q more [] all = tt
all-weaker P Q more (x ∷ xs) all = (more x all.0, all-weaker P Q more xs all.1)

pub all-pushed : {X : Type 0} (P : X → Type 0) (xs : List X) (x : X) → AllByRecursion P xs → P x → AllByRecursion P (xs ++ x ∷ [])
all-pushed P [] x all last = (last, tt)
all-pushed P (y ∷ ys) x all last = (all.0, all-pushed P ys x all.1 last)

all-sieved : (P : Numbered → Type 0) (test : Outgoing → Bool) (zs : List Numbered) → AllByRecursion P zs → AllByRecursion P (filter (λ z. test z.o) zs)
all-sieved P test [] all = tt
all-sieved P test (z ∷ zs) all = by_test (test z.o) (λ stays. rw stays (all.0, all-sieved P test zs all.1)) (λ goes. rw goes (all-sieved P test zs all.1))

turn-sieved : (test : Outgoing → Bool) (zs : List Numbered) → AreInTurn zs → AreInTurn (filter (λ z. test z.o) zs)
turn-sieved test [] turn = tt
turn-sieved test (z ∷ zs) turn = by_test (test z.o) (λ stays. rw stays (all-sieved (IsBefore z) test zs turn.0, turn-sieved test zs turn.1)) (λ goes. rw goes (turn-sieved test zs turn.1))

sieved : (test : Outgoing → Bool) (zs : List Numbered) → filter test (outs zs) ≡ outs (filter (λ z. test z.o) zs)
sieved test [] = refl
sieved test (z ∷ zs) = by_test (test z.o) (λ stays. rw stays (ap (λ (os : List Outgoing). z.o ∷ os) (sieved test zs))) (λ goes. rw goes (sieved test zs))

pub turn-pushed : (zs : List Numbered) (z : Numbered) → AreInTurn zs → AllByRecursion (λ (x : Numbered). x.number < z.number) zs → AreInTurn (zs ++ z ∷ [])
turn-pushed [] z turn below = (tt, tt)
turn-pushed (x ∷ xs) z turn below = (all-pushed (IsBefore x) xs z turn.0 (λ same. below.0), turn-pushed xs z turn.1 below.1)

pub outs-pushed : (zs : List Numbered) (z : Numbered) → outs zs ++ z.o ∷ [] ≡ outs (zs ++ z ∷ [])
outs-pushed [] z = refl
outs-pushed (x ∷ xs) z = ap (λ (os : List Outgoing). x.o ∷ os) (outs-pushed xs z)

outs-joined : (xs ys : List Numbered) → outs (xs ++ ys) ≡ outs xs ++ outs ys
outs-joined [] ys = refl
outs-joined (x ∷ xs) ys = ap (λ (os : List Outgoing). x.o ∷ os) (outs-joined xs ys)

-- One between others.

between-all : (P : Numbered → Type 0) (front back : List Numbered) (z : Numbered) → AllByRecursion P (front ++ z ∷ back) → P z × AllByRecursion P (front ++ back)
between-all P [] back z all = (all.0, all.1)
between-all P (x ∷ xs) back z all = let rest = between-all P xs back z all.1 in (rest.0, (all.0, rest.1))

between-turn : (front back : List Numbered) (z : Numbered) → AreInTurn (front ++ z ∷ back) → AreInTurn (front ++ back)
between-turn [] back z turn = turn.1
between-turn (x ∷ xs) back z turn = let rest = between-all (IsBefore x) xs back z turn.0 in (rest.1, between-turn xs back z turn.1)

-- where none before it is for its address, it is before all others
foremost : (goes : Addr → Bool) (front back : List Numbered) (z : Numbered) → goes z.o.peer.addr ≡ true → AllByRecursion (λ (x : Numbered). goes x.o.peer.addr ≡ false) front → AreInTurn (front ++ z ∷ back) → AllByRecursion (IsBefore z) (front ++ back)
foremost goes [] back z passes fails turn = turn.0
foremost goes (x ∷ xs) back z passes fails turn =
    (λ same. let bad : true ≡ false = sym passes ∙ ap goes same ∙ fails.0 in cc, foremost goes xs back z passes fails.1 turn.1)

-- the first that passes a test of addresses
record IsAt (goes : Addr → Bool) (zs : List Numbered) (place : ℕ) : Type 0 where
  pub front : List Numbered
  pub z : Numbered
  pub back : List Numbered
  pub is : zs ≡ front ++ z ∷ back
  pub long : length (outs front) ≡ place
  pub passes : goes z.o.peer.addr ≡ true
  pub fails : AllByRecursion (λ (x : Numbered). goes x.o.peer.addr ≡ false) front

first-at : (goes : Addr → Bool) (zs : List Numbered) (place : ℕ) → first_that goes (outs zs) ≡ Some place → IsAt goes zs place
first-at goes [] place is = cc
first-at goes (x ∷ xs) place is = by_test (goes x.o.peer.addr) here (there (λ p first. first-at goes xs p first))
  where
    here : goes x.o.peer.addr ≡ true → IsAt goes (x ∷ xs) place
    here passes =
        let first : Some 0 ≡ Some place = ap (λ (b : Bool). cond b (Some 0) (option_map suc (first_that goes (outs xs)))) (sym passes) ∙ is in
        let same : 0 ≡ place = cc in
        record { front = []; z = x; back = xs; is = refl; long = same; passes = passes; fails = tt }

    by_rest : ((p : ℕ) → first_that goes (outs xs) ≡ Some p → IsAt goes xs p) → goes x.o.peer.addr ≡ false → (o : Option ℕ) → first_that goes (outs xs) ≡ o → option_map suc o ≡ Some place → IsAt goes (x ∷ xs) place
    by_rest onward fails None first same = cc
    by_rest onward fails (Some p) first same =
        let next : suc p ≡ place = cc in
        let rest = onward p first in
        record {
          front = x ∷ rest.front;
          z = rest.z;
          back = rest.back;
          is = ap (λ (ys : List Numbered). x ∷ ys) rest.is;
          long = ap suc rest.long ∙ next;
          passes = rest.passes;
          fails = (fails, rest.fails);
        }

    there : ((p : ℕ) → first_that goes (outs xs) ≡ Some p → IsAt goes xs p) → goes x.o.peer.addr ≡ false → IsAt goes (x ∷ xs) place
    there onward fails = by_rest onward fails (first_that goes (outs xs)) refl (ap (λ (b : Bool). cond b (Some 0) (option_map suc (first_that goes (outs xs)))) (sym fails) ∙ is)

-- Sockets.

-- each that waits to go out of a socket is such, and for one address they wait in the order in which they were taken
pub record EachWaits (D : Numbered → Type 0) (s : Queues) : Type 0 where
  pub zs : List Numbered
  pub is : s.outbox ≡ outs zs
  pub each : AllByRecursion D zs
  pub turn : AreInTurn zs
  pub parts : HasPartsLeft s.outbox s.parts

pub none-waits : (D : Numbered → Type 0) → EachWaits D new_socket
none-waits D = record { zs = []; is = refl; each = tt; turn = tt; parts = refl }

pub each-more : (D E : Numbered → Type 0) (s : Queues) → ((z : Numbered) → D z → E z) → EachWaits D s → EachWaits E s
each-more D E s more h = record { zs = h.zs; is = h.is; each = all-weaker D E more h.zs h.each; turn = h.turn; parts = h.parts }

-- some are given up
parts-given_up : (lost : Addr → Bool) (now : Moment) (outbox : List Outgoing) (parts : ℕ) → HasPartsLeft outbox parts → HasPartsLeft (filter (λ o. not (is_given_up lost now o)) outbox) (parts_left lost now outbox parts)
parts-given_up lost now [] parts left = left
parts-given_up lost now (o ∷ rest) parts left = by_test_of (is_given_up lost now o)
  where
    kept : List Outgoing
    kept = filter (λ o. not (is_given_up lost now o)) rest

    by_test_of : (b : Bool) → HasPartsLeft (cond (not b) (o ∷ kept) kept) (cond b 0 parts)
    by_test_of true = first-left kept
    by_test_of false = left

each-given_up : (D : Numbered → Type 0) (s : Queues) (lost : Addr → Bool) (now : Moment) → EachWaits D s → EachWaits D (after_giving_up s lost now)
each-given_up D s lost now h =
    let stays : Outgoing → Bool = λ o. not (is_given_up lost now o) in
    record {
      zs = filter (λ z. stays z.o) h.zs;
      is = ap (filter stays) h.is ∙ sieved stays h.zs;
      each = all-sieved D stays h.zs h.each;
      turn = turn-sieved stays h.zs h.turn;
      parts = parts-given_up lost now s.outbox s.parts h.parts;
    }

-- The first datagram that may go out is brought before the others.
pub record IsForemost (D : Numbered → Type 0) (s : Queues) (place : ℕ) : Type 0 where
  pub z : Numbered
  pub rest : List Numbered
  pub parts : ℕ
  pub is : brought place s ≡ record s { outbox = z.o ∷ outs rest; parts = parts }
  pub first : D z
  pub others : AllByRecursion D rest
  pub before : AllByRecursion (IsBefore z) rest
  pub turn : AreInTurn rest
  pub below : parts < count_of (8 + length z.o.octets)

pub first-brought : (D : Numbered → Type 0) (s : Queues) (goes : Addr → Bool) (place : ℕ) → first_that goes s.outbox ≡ Some place → EachWaits D s → IsForemost D s place
first-brought D s goes place first h = by_front at.front refl
  where
    at : IsAt goes h.zs place
    at = first-at goes h.zs place (ap (first_that goes) (sym h.is) ∙ first)

    each : AllByRecursion D (at.front ++ at.z ∷ at.back)
    each = subst (AllByRecursion D) at.is h.each

    turn : AreInTurn (at.front ++ at.z ∷ at.back)
    turn = subst AreInTurn at.is h.turn

    there : s.outbox ≡ outs at.front ++ at.z.o ∷ outs at.back
    there = h.is ∙ ap outs at.is ∙ outs-joined at.front (at.z ∷ at.back)

    parted : (parts : ℕ) → brought place s ≡ record s { outbox = at.z.o ∷ outs (at.front ++ at.back); parts = parts } → parts < count_of (8 + length at.z.o.octets) → IsForemost D s place
    parted parts is below = record {
      z = at.z;
      rest = at.front ++ at.back;
      parts = parts;
      is = is;
      first = (between-all D at.front at.back at.z each).0;
      others = (between-all D at.front at.back at.z each).1;
      before = foremost goes at.front at.back at.z at.passes at.fails turn;
      turn = between-turn at.front at.back at.z turn;
      below = below;
    }

    by_front : (front : List Numbered) → at.front ≡ front → IsForemost D s place
    by_front [] none =
        let zero_place : 0 ≡ place = ap (λ (zs : List Numbered). length (outs zs)) (sym none) ∙ at.long in
        let here : s.outbox ≡ at.z.o ∷ outs (at.front ++ at.back) = there ∙ ap (λ (zs : List Numbered). outs zs ++ at.z.o ∷ outs at.back) none ∙ ap (λ (zs : List Numbered). at.z.o ∷ outs (zs ++ at.back)) (sym none) in
        parted s.parts (sym (ap (λ (n : ℕ). brought n s) zero_place) ∙ ap (λ (os : List Outgoing). let w : Queues = record s { outbox = os } in w) here) (subst (λ (os : List Outgoing). HasPartsLeft os s.parts) here h.parts)
    by_front (x ∷ xs) some =
        let long : 0 < length (outs at.front) = subst (λ (zs : List Numbered). 0 < length (outs zs)) (sym some) (omega arith) in
        parted 0 (ap (λ (n : ℕ). brought n s) (sym at.long) ∙ brought_between s (outs at.front) (outs at.back) at.z.o long there
        ∙ ap (λ (os : List Outgoing). let w : Queues = record s { outbox = at.z.o ∷ os; parts = 0 } in w) (sym (outs-joined at.front at.back)))
        (omega arith)

further : (len parts : ℕ) → nat_lt (1480 * (parts + 1)) len ≡ true → parts + 1 < count_of len
further len parts more = let below : 1480 * (parts + 1) < len = grind (arith, nat_tests, more) in omega (arith, below)

-- .. and one part of it goes out
pub first-parted : (D E : Numbered → Type 0) (s : Queues) (place : ℕ) (b : IsForemost D s place) → ((x : Numbered) → IsBefore b.z x → D x → E x) → ((let f = fragment_of b.z.o b.parts in f.more_fragments) ≡ true → D b.z → E b.z) → EachWaits E (after_part (brought place s))
first-parted D E s place b next same = subst (λ (w : Queues). EachWaits E (after_part w)) (sym b.is) (by_more (nat_lt (1480 * (b.parts + 1)) (8 + length b.z.o.octets)) refl)
  where
    others : (xs : List Numbered) → AllByRecursion (IsBefore b.z) xs → AllByRecursion D xs → AllByRecursion E xs
    others [] before all = tt
    others (x ∷ xs) before all = (next x before.0 all.0, others xs before.1 all.1)

    by_more : (more : Bool) → nat_lt (1480 * (b.parts + 1)) (8 + length b.z.o.octets) ≡ more
        → EachWaits E (cond more (record s { outbox = b.z.o ∷ outs b.rest; parts = b.parts + 1 }) (record s { outbox = outs b.rest; parts = 0 }))
    by_more true more = record { zs = b.z ∷ b.rest; is = refl; each = (same more b.first, others b.rest b.before b.others); turn = (b.before, b.turn); parts = further (8 + length b.z.o.octets) b.parts more }
    by_more false last = record { zs = b.rest; is = refl; each = others b.rest b.before b.others; turn = b.turn; parts = first-left (outs b.rest) }

-- a port to which a socket is bound has 16 bits
abbrev pub IsBoundWithin : Option Endpoint → Type 0
IsBoundWithin None = Unit {0}
IsBoundWithin (Some local) = local.port < 2 ^ 16

-- .. as one that a bind gives has
port-within : (h : SocketsView) (is_free : ℕ → Bool) (local : Endpoint) (port : ℕ) → local.port < 2 ^ 16 → port_at h is_free local ≡ Ok port → port < 2 ^ 16
port-within h is_free local port within given =
    by_test (not (same_addr local.addr h.addr) && not (same_addr local.addr any_addr))
    (λ apart. let refused : port_at h is_free local ≡ Err EADDRNOTAVAIL = rw apart in cc)
    (λ ours. let asked : ok_or (free_port h is_free local.port) EADDRINUSE ≡ port_at h is_free local = rw ours in by_port (some_from_ok (free_port h is_free local.port) EADDRINUSE port (sym (asked ∙ given))))
  where
    by_port : free_port h is_free local.port ≡ Some port → port < 2 ^ 16
    by_port some =
        by_test (local.port == 0)
        (λ none. let first : first_port is_free h.last_port 0 16384 ≡ free_port h is_free local.port = rw none in
        let dynamic = given_dynamic is_free h.last_port 0 16384 port (first ∙ some) in omega (arith, dynamic.to_last))
        (λ one. by_test (is_free local.port)
        (λ free. let is : free_port h is_free local.port ≡ Some local.port = rw (one, free) in let same : local.port ≡ port = (let both : Some local.port ≡ Some port = sym is ∙ some in cc) in subst (λ (n : ℕ). n < 2 ^ 16) same within)
        (λ used. let is : free_port h is_free local.port ≡ None = rw (one, used) in cc))

-- an event of the table that is no `sendto` and by which nothing goes out, and which names a port of 16 bits where it binds
abbrev pub IsOther : Event → Type 0
IsOther (SendsTo id peer octets routed) = ⊥
IsOther (Emits goes now) = ⊥
IsOther (Binds id local) = local.port < 2 ^ 16
IsOther _ = Unit {0}

module _ (D : SocketId → Option Endpoint → Numbered → Type 0) where
  -- this holds of what waits in a socket to go out
  abbrev pub Holds : SocketId → Role → Type 0
  Holds id (Datagrams bound s) = IsBoundWithin bound × EachWaits (D id bound) s
  Holds id (Connected c listener) = Unit {0}
  Holds id (Listener local backlog) = Unit {0}
  Holds id (Idle buffers bound) = Unit {0}

  abbrev pub AllHold : List Entry → Type 0
  AllHold entries = AllByRecursion (λ (e : Entry). Holds e.id e.role) entries

  -- Roles.

  abbrev Keeps : (Role → Role) → Type 0
  Keeps change = (id : SocketId) (role : Role) → Holds id role → Holds id (change role)

  connection-keeps : (change : View → View) → Keeps (on_connection change)
  connection-keeps change id (Datagrams bound s) holds = holds
  connection-keeps change id (Connected c l) holds = tt
  connection-keeps change id (Listener local b) holds = tt
  connection-keeps change id (Idle buffers bound) holds = tt

  listen-keeps : (backlog : ℕ) → Keeps (role_after_listen backlog)
  listen-keeps backlog id (Datagrams bound s) holds = holds
  listen-keeps backlog id (Connected c l) holds = tt
  listen-keeps backlog id (Listener at b) holds = tt
  listen-keeps backlog id (Idle buffers (Some local)) holds = tt
  listen-keeps backlog id (Idle buffers None) holds = tt

  accept-keeps : Keeps role_after_accept
  accept-keeps id (Datagrams bound s) holds = holds
  accept-keeps id (Connected c l) holds = tt
  accept-keeps id (Listener at b) holds = tt
  accept-keeps id (Idle buffers bound) holds = tt

  connect-keeps : (local peer : Endpoint) (isn : ℕ) (now : Moment) → Keeps (role_after_connect local peer isn now)
  connect-keeps local peer isn now id (Datagrams bound s) holds = holds
  connect-keeps local peer isn now id (Connected c l) holds = tt
  connect-keeps local peer isn now id (Listener at b) holds = tt
  connect-keeps local peer isn now id (Idle buffers bound) holds = tt

  forsaken-keeps : (now : Moment) (listener : SocketId) → Keeps (role_after_listener_close now listener)
  forsaken-keeps now listener id role holds = by_test (waits_at listener role) (λ waits. rw waits (connection-keeps _ id role holds)) (λ other. rw other holds)

  given_up-keeps : (lost : Addr → Bool) (now : Moment) → Keeps (role_after_giving_up lost now)
  given_up-keeps lost now id (Datagrams bound s) holds = (holds.0, each-given_up (D id bound) s lost now holds.1)
  given_up-keeps lost now id (Connected c l) holds = tt
  given_up-keeps lost now id (Listener at b) holds = tt
  given_up-keeps lost now id (Idle buffers bound) holds = tt

  read-keeps : Keeps role_after_recvfrom
  read-keeps id (Datagrams bound s) holds = (holds.0, let w = holds.1 in record { zs = w.zs; is = w.is; each = w.each; turn = w.turn; parts = w.parts })
  read-keeps id (Connected c l) holds = tt
  read-keeps id (Listener at b) holds = tt
  read-keeps id (Idle buffers bound) holds = tt

  reception-keeps : (from : Endpoint) (octets : List ℕ) → Keeps (role_after_reception from octets)
  reception-keeps from octets id (Datagrams bound s) holds = (holds.0, let w = holds.1 in record { zs = w.zs; is = w.is; each = w.each; turn = w.turn; parts = w.parts })
  reception-keeps from octets id (Connected c l) holds = tt
  reception-keeps from octets id (Listener at b) holds = tt
  reception-keeps from octets id (Idle buffers bound) holds = tt

  -- Entries.

  pub first-hold : (test : Entry → Bool) (change : Role → Role) (xs : List Entry) → ((x : Entry) → find test xs ≡ Some x → Holds x.id x.role → Holds x.id (change x.role)) → AllHold xs → AllHold (change_first test (with_role change) xs)
  first-hold test change [] keeps all = tt
  first-hold test change (x ∷ xs) keeps all =
      by_test (test x)
      (λ passes. rw passes (keeps x (rw passes refl) all.0, all.1))
      (λ fails. rw fails (all.0, first-hold test change xs (λ y found. keeps y (rw fails found)) all.1))

  changed-hold : (test : Entry → Bool) (change : Role → Role) → Keeps change → (xs : List Entry) → AllHold xs → AllHold (change_first test (with_role change) xs)
  changed-hold test change keeps xs all = first-hold test change xs (λ x found. keeps x.id x.role) all

  removed-hold : (test : Entry → Bool) (xs : List Entry) → AllHold xs → AllHold (remove_first test xs)
  removed-hold test [] all = tt
  removed-hold test (x ∷ xs) all = by_test (test x) (λ passes. rw passes all.1) (λ fails. rw fails (all.0, removed-hold test xs all.1))

  stepped-hold : (fate : Fate) (test : Entry → Bool) (change : Role → Role) → Keeps change → (xs : List Entry) → AllHold xs → AllHold (entries_after_step fate test change xs)
  stepped-hold fate test change keeps xs all = by_test (is_kept fate) (λ kept. rw kept (changed-hold test change keeps xs all)) (λ gone. rw gone (removed-hold test xs all))

  retained-hold : (test : Entry → Bool) (change : Role → Role) → Keeps change → (xs : List Entry) → AllHold xs → AllHold (retain_mut test (with_role change) xs)
  retained-hold test change keeps [] all = tt
  retained-hold test change keeps (x ∷ xs) all =
      by_test (test x) (λ stays. rw stays (keeps x.id x.role all.0, retained-hold test change keeps xs all.1)) (λ goes. rw goes (retained-hold test change keeps xs all.1))

  -- Tables.

  connected-hold : (h : SocketsView) (now : Moment) (isn : ℕ) (id : SocketId) (peer : Endpoint) (routed : Bool) → AllHold h.entries → AllHold (let w = after_connect h now isn id peer routed in w.entries)
  connected-hold h now isn id peer routed all = by_port (port_connected h id peer routed) refl
    where
      by_port : (r : Result ℕ Refusal) → port_connected h id peer routed ≡ r → AllHold (let w = after_connect h now isn id peer routed in w.entries)
      by_port (Err refusal) given = rw given all
      by_port (Ok port) given = rw given (changed-hold (is_socket id) _ (connect-keeps _ peer isn (later_moment h now)) h.entries all)

  left-hold : (h : SocketsView) (how : Leave) (id : SocketId) → AllHold h.entries → AllHold (let w = after_leaving h how id in w.entries)
  left-hold h how id all = retained-hold _ _ (forsaken-keeps h.kept id) (let w : SocketsView = after_socket_left h how id in w.entries) (by_role (role_of h id))
    where
      by_role : (o : Option Role) → AllHold (let w = of_socket h (λ role. record h { entries = entries_after_step (leaving_fate_of how h.kept role) (is_socket id) (role_after_leaving how h.kept) h.entries }) o in w.entries)
      by_role None = all
      by_role (Some role) = stepped-hold (leaving_fate_of how h.kept role) (is_socket id) (role_after_leaving how h.kept) (connection-keeps _) h.entries all

  heard-hold : (h : SocketsView) (now : Moment) (isn : ℕ) (source : Addr) (s : Segment) → AllHold h.entries → AllHold (let w = after_event h (Hears now isn source s) in w.entries)
  heard-hold h now isn source s all =
      by_arrival h now isn source s (λ a. AllHold (let w = after_arrival h a in w.entries)) (λ reply is. answered reply)
      (λ first taker. stepped-hold _ _ _ (connection-keeps _) h.entries all)
      (λ listener call full. all)
      (λ listener call room. all_joined (λ (e : Entry). Holds e.id e.role) h.entries _ all tt)
    where
      answered : (reply : Option Head) → AllHold (let w = after_arrival h (arrival_with_reply h reply) in w.entries)
      answered None = all
      answered (Some head) = all

  -- a connection's segment goes out
  pub segment-hold : (h : SocketsView) (goes : Addr → Bool) (now : Moment) (e : Entry) (due : Endpoint × Due) (v : View) (l : Option SocketId) → find (in_turn h (sends goes)) h.entries ≡ Some e → due_to goes e.role ≡ Some due → e.role ≡ Connected v l
      → AllHold h.entries → AllHold (let w = after_segment_sent h goes now in w.entries)
  segment-hold h goes now e due v l found its role all =
      subst (λ (w : SocketsView). AllHold w.entries) (sym (segment_sent-found h goes now e due found its))
      (by_fate (is_kept (emission_fate_of (role_after_emission (later_moment h now) due.1 e.role))))
    where
      change : Role → Role
      change = role_after_emission (later_moment h now) due.1

      keeps : (x : Entry) → find (in_turn h (sends goes)) h.entries ≡ Some x → Holds x.id x.role → Holds x.id (role_after_emission (later_moment h now) due.1 x.role)
      keeps x there holds =
          let both : Some e ≡ Some x = sym found ∙ there in
          let same : e ≡ x = cc in
          let its_role : x.role ≡ Connected v l = ap (λ (y : Entry). y.role) (sym same) ∙ role in
          subst (λ (r : Role). Holds x.id (role_after_emission (later_moment h now) due.1 r)) (sym its_role) tt

      by_fate : (kept : Bool) → AllHold (if kept then change_first (in_turn h (sends goes)) (with_role (role_after_emission (later_moment h now) due.1)) h.entries else remove_first (in_turn h (sends goes)) h.entries)
      by_fate true = first-hold (in_turn h (sends goes)) (role_after_emission (later_moment h now) due.1) h.entries keeps all
      by_fate false = removed-hold (in_turn h (sends goes)) h.entries all

  told-hold : (h : SocketsView) (local peer : Endpoint) (number : ℕ) → AllHold h.entries → AllHold (let w = after_unreachable h local peer number in w.entries)
  told-hold h local peer number all = by_entry (find (is_between local peer) h.entries) refl
    where
      by_entry : (o : Option Entry) → find (is_between local peer) h.entries ≡ o → AllHold (let w = after_unreachable h local peer number in w.entries)
      by_entry None found = subst (λ (w : SocketsView). AllHold w.entries) (sym (told-none h local peer number found)) all
      by_entry (Some first) found =
          subst (λ (w : SocketsView). AllHold w.entries) (sym (told-found h local peer number first found))
          (stepped-hold _ (is_between local peer) (role_after_unreachable number) (connection-keeps _) h.entries all)

  received-hold : (h : SocketsView) (source : Addr) (u : UserDatagram) → AllHold h.entries → AllHold (let w = after_reception h source u in w.entries)
  received-hold h source u all = by_reception (reception h u) refl
    where
      by_reception : (r : Reception) → reception h u ≡ r → AllHold (let w = after_reception h source u in w.entries)
      by_reception Queued is = subst (λ (w : SocketsView). AllHold w.entries) (sym (queued-change h source u is)) (changed-hold _ _ (reception-keeps _ u.payload) h.entries all)
      by_reception NoRoom is = subst (λ (w : SocketsView). AllHold w.entries) (sym (no_room-same h source u is)) all
      by_reception NoSocket is = subst (λ (w : SocketsView). AllHold w.entries) (sym (no_socket-same h source u is)) all

  -- Where a socket isn't bound nothing waits in it to go out.
  module _ (unbound : (id : SocketId) (z : Numbered) → D id None z → ⊥) where
    bound-hold : (h : SocketsView) (id : SocketId) (local : Endpoint) → local.port < 2 ^ 16 → AllHold h.entries → AllHold (let w = after_bind h id local in w.entries)
    bound-hold h id local within all = by_port (port_bound h id local) refl
      where
        there : ℕ → Endpoint
        there port = record { addr = local.addr; port = port }

        by_role : (port : ℕ) → port_bound h id local ≡ Ok port → (x : Entry) → find (is_socket id) h.entries ≡ Some x → (role : Role) → x.role ≡ role → Holds x.id role → Holds x.id (role_after_bind (there port) role)
        by_role port given x found (Datagrams (Some at) s) is holds = let refused : port_bound h id local ≡ Err EINVAL = rw (found, is) in cc
        by_role port given x found (Datagrams None s) is holds =
            let asked : port_bound h id local ≡ port_at h (is_free_datagram_port h.entries) local = rw (found, is) in
            (port-within h (is_free_datagram_port h.entries) local port within (sym asked ∙ given), each-more (D x.id None) (D x.id (Some (there port))) s (λ z waits. absurd (unbound x.id z waits)) holds.1)
        by_role port given x found (Connected c l) is holds = tt
        by_role port given x found (Listener at b) is holds = tt
        by_role port given x found (Idle buffers bound) is holds = tt

        by_port : (r : Result ℕ Refusal) → port_bound h id local ≡ r → AllHold (let w = after_bind h id local in w.entries)
        by_port (Err refusal) given = rw given all
        by_port (Ok port) given = rw given (first-hold (is_socket id) (role_after_bind (there port)) h.entries (λ x found. by_role port given x found x.role refl) all)

    pub other-holds : (h : SocketsView) (e : Event) → IsOther e → AllHold h.entries → AllHold (let w = after_event h e in w.entries)
    other-holds h (Makes buffers) other all = all_joined (λ (e : Entry). Holds e.id e.role) h.entries _ all tt
    other-holds h MakesDatagrams other all = all_joined (λ (e : Entry). Holds e.id e.role) h.entries _ all (tt, none-waits _)
    other-holds h (Binds id local) other all = bound-hold h id local other all
    other-holds h (Listens id backlog) other all = changed-hold _ _ (listen-keeps backlog) h.entries all
    other-holds h (Accepts id) other all = changed-hold _ _ accept-keeps h.entries all
    other-holds h (Connects now isn id peer routed) other all = connected-hold h now isn id peer routed all
    other-holds h (Sends id octets) other all = changed-hold _ _ (connection-keeps _) h.entries all
    other-holds h (Receives id len) other all = changed-hold _ _ (connection-keeps _) h.entries all
    other-holds h (Shuts id) other all = changed-hold _ _ (connection-keeps _) h.entries all
    other-holds h (SetsNoDelay id on) other all = changed-hold _ _ (connection-keeps _) h.entries all
    other-holds h (SetsKeepAlive id every) other all = changed-hold _ _ (connection-keeps _) h.entries all
    other-holds h (Leaves how id) other all = left-hold h how id all
    other-holds h (Ticks now) other all = retained-hold _ _ (connection-keeps _) h.entries all
    other-holds h (Hears now isn source s) other all = heard-hold h now isn source s all
    other-holds h (Emits goes now) other all = absurd other
    other-holds h (GivesUp lost now) other all = retained-hold _ _ (given_up-keeps lost _) h.entries all
    other-holds h (GivesWay meant) other all = removed-hold (gives_way meant) h.entries all
    other-holds h (Unreachable local peer number) other all = told-hold h local peer number all
    other-holds h (SendsTo id peer octets routed) other all = absurd other
    other-holds h (ReceivesFrom id len) other all = changed-hold _ _ read-keeps h.entries all
    other-holds h (HearsDatagram source u) other all = received-hold h source u all

-- The first entry that passes changes, and all hold more ..
pub first-holds : (V W : Entry → Type 0) (test : Entry → Bool) (change : Entry → Entry) (xs : List Entry) → ((e : Entry) → V e → W e) → ((x : Entry) → find test xs ≡ Some x → V x → W (change x)) → AllByRecursion V xs → AllByRecursion W (change_first test change xs)
first-holds V W test change [] more own all = tt
first-holds V W test change (x ∷ xs) more own all =
    by_test (test x)
    (λ passes. rw passes (own x (rw passes refl) all.0, all-weaker V W more xs all.1))
    (λ fails. rw fails (more x all.0, first-holds V W test change xs more (λ y found. own y (rw fails found)) all.1))

-- .. or all others do
pub found-holds : (V W : Entry → Type 0) (test : Entry → Bool) (change : Entry → Entry) (before last : ℕ) (xs : List Entry) (first : Entry) → AreAscending before last xs → find test xs ≡ Some first
    → ((e : Entry) → (e.id.0 ≡ first.id.0 → ⊥) → V e → W e) → (V first → W (change first)) → AllByRecursion V xs → AllByRecursion W (change_first test change xs)
found-holds V W test change before last [] first ids found others own all = tt
found-holds V W test change before last (x ∷ xs) first ids found others own all =
    by_test (test x)
    (λ passes.
    let same : first ≡ x = sym (found_first test x first xs passes found) in
    let so : V x → W (change x) = subst (λ (e : Entry). V e → W (change e)) same own in
    let far : x.id.0 ≡ first.id.0 = ap (λ (e : Entry). e.id.0) (sym same) in
    rw passes (so all.0, rest-holds x.id.0 last xs (omega (arith, far)) ids.1 all.1))
    (λ fails.
    let later : find test xs ≡ Some first = found_behind test x xs (Some first) fails found in
    let above : x.id.0 < first.id.0 = found_above test x.id.0 last xs first ids.1 later in
    rw fails (others x (λ same. absurd (omega (arith, same, above))) all.0, found-holds V W test change x.id.0 last xs first ids.1 later others own all.1))
  where
    rest-holds : (low top : ℕ) (ys : List Entry) → first.id.0 ≤ low → AreAscending low top ys → AllByRecursion V ys → AllByRecursion W ys
    rest-holds low top [] below ids all = tt
    rest-holds low top (y ∷ ys) below ids all = (others y (λ same. absurd (omega (arith, same, below, ids.0))) all.0, rest-holds y.id.0 top ys (omega (arith, below, ids.0)) ids.1 all.1)
