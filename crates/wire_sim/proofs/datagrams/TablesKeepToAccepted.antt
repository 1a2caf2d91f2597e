-- What two hosts accepted from their callers, and the table of one of them: each UDP socket in it keeps to that, whatever is done to its role.
use Rattle.std.proofs.Common.{◌≡◌, ℕ, zero, suc, ◌<◌, ◌^◌, ◌%◌, Bool, true, false, cond, List, [], ◌∷◌, ◌++◌, length, Some, None, refl, ◌∙◌, ap}
use Rattle.std.specs.List.{AllByRecursion}
use Rattle.clock.specs.declared.moment.Moment.{Moment}
use Rattle.ipv4.specs.declared.addr.Addr.{Addr}
use Rattle.ipv4.specs.declared.addr.Endpoint.{Endpoint}
use Rattle.tcp_state.specs.View.{View}
use Rattle.udp_socket.specs.SocketView.{SocketView, new_socket, after_read}
use Rattle.udp_socket.specs.Emission.{after_part, brought}
use Rattle.udp_socket.specs.Waits.{after_giving_up as given_up}
use Rattle.sockets.specs.declared.emission.Outgoing.{Outgoing}
use Rattle.sockets.specs.declared.entry.Entry.{Entry}
use Rattle.sockets.specs.declared.entry.SocketId.{SocketId}
use Rattle.sockets.specs.declared.role.Role.{Role}
use Rattle.sockets.specs.declared.role.Role.TheVariants.{Idle, Listener, Connected, Datagrams}
use Rattle.tcp_state.specs.declared.connection.Fate.{Fate}
use Rattle.sockets.specs.Entries.{on_connection, waits_at, is_kept, with_role, role_after_abort, role_after_listen, role_after_connect, role_after_accept, role_after_listener_close, place_of, with_first, role_after_emission, role_after_recvfrom, entries_after_step, entries_after_steps}
use Rattle.sockets.specs.Lists.{change_first, remove_first}
use Rattle.sockets.specs.Lost.{role_after_giving_up}
use Rattle.sockets.specs.SocketsView.{SocketsView}
use Rattle.datagram_law.specs.Accepted.{Accepted, AreInTurn}
use Rattle.datagram_law.specs.Sockets.{IsSocketOf}
use Rattle.datagram_law.proofs.Keeping.{emits, gives_up, reads, more_accepted}
use Rattle.wire_sim.proofs.lists.FoundAfterChange.{All-change_first, All-weaker}

-- a UDP socket keeps to what was accepted: where it is bound, by its end, and else nothing waits in it
abbrev pub IsEntryOf : List Accepted → List Accepted → Addr → Role → Type 0
IsEntryOf own other addr (Datagrams (Some local) s) = (local.port < 2 ^ 16) × IsSocketOf own other (record { addr = addr; port = local.port }) s
IsEntryOf own other addr (Datagrams None s) = s ≡ new_socket
IsEntryOf own other addr (Connected c l) = Unit {0}
IsEntryOf own other addr (Listener local backlog) = Unit {0}
IsEntryOf own other addr (Idle buffers bound) = Unit {0}

-- so does each in a table
abbrev pub AreEntriesOf : List Accepted → List Accepted → Addr → List Entry → Type 0
AreEntriesOf own other addr entries = AllByRecursion (λ (e : Entry). IsEntryOf own other addr e.role) entries

-- and the next identification follows those that were drawn
pub record IsTableOf (own other : List Accepted) (h : SocketsView) : Type 0 where
  pub numbered : h.identification ≡ length own % 65536
  pub in_turn : AreInTurn own
  pub sockets : AreEntriesOf own other h.addr h.entries

-- What keeps every entry to it.

abbrev pub Keeps : (Role → Role) → Type 0
Keeps g = (own other : List Accepted) (addr : Addr) (r : Role) → IsEntryOf own other addr r → IsEntryOf own other addr (g r)

pub keeps-connection : (change : View → View) → Keeps (on_connection change)
keeps-connection change own other addr (Connected c l) h = tt
keeps-connection change own other addr (Listener local backlog) h = tt
keeps-connection change own other addr (Idle buffers bound) h = tt
keeps-connection change own other addr (Datagrams (Some local) s) h = h
keeps-connection change own other addr (Datagrams None s) h = h

pub keeps-listening : (backlog : ℕ) → Keeps (role_after_listen backlog)
keeps-listening backlog own other addr (Connected c l) h = tt
keeps-listening backlog own other addr (Listener local b) h = tt
keeps-listening backlog own other addr (Idle buffers (Some local)) h = tt
keeps-listening backlog own other addr (Idle buffers None) h = tt
keeps-listening backlog own other addr (Datagrams (Some local) s) h = h
keeps-listening backlog own other addr (Datagrams None s) h = h

pub keeps-connecting : (local peer : Endpoint) (isn : ℕ) (now : Moment) → Keeps (role_after_connect local peer isn now)
keeps-connecting from peer isn now own other addr (Connected c l) h = tt
keeps-connecting from peer isn now own other addr (Listener local b) h = tt
keeps-connecting from peer isn now own other addr (Idle buffers bound) h = tt
keeps-connecting from peer isn now own other addr (Datagrams (Some local) s) h = h
keeps-connecting from peer isn now own other addr (Datagrams None s) h = h

pub keeps-accepting : Keeps role_after_accept
keeps-accepting own other addr (Connected c l) h = tt
keeps-accepting own other addr (Listener local b) h = tt
keeps-accepting own other addr (Idle buffers bound) h = tt
keeps-accepting own other addr (Datagrams (Some local) s) h = h
keeps-accepting own other addr (Datagrams None s) h = h

pub keeps-forsaking : (now : Moment) (id : SocketId) → Keeps (role_after_listener_close now id)
keeps-forsaking now id own other addr r h = by_waiting (waits_at id r)
  where
    by_waiting : (b : Bool) → IsEntryOf own other addr (cond b (role_after_abort now r) r)
    by_waiting false = h
    by_waiting true = keeps-connection _ own other addr r h

-- nothing waits in a new one, in any place
new-still : (place : ℕ) → after_part (brought place new_socket) ≡ new_socket
new-still zero = refl
new-still (suc place) = refl

pub keeps-emitting : (now : Moment) (what : Outgoing) → Keeps (role_after_emission now what)
keeps-emitting now what own other addr (Connected c l) h = tt
keeps-emitting now what own other addr (Listener local b) h = tt
keeps-emitting now what own other addr (Idle buffers bound) h = tt
keeps-emitting now what own other addr (Datagrams (Some local) s) h = (h.0, emits own other (record { addr = addr; port = local.port }) s (place_of what) h.1)
keeps-emitting now what own other addr (Datagrams None s) h = ap (λ (x : SocketView). after_part (with_first what x)) h ∙ new-still (place_of what)

pub keeps-giving_up : (lost : Addr → Bool) (now : Moment) → Keeps (role_after_giving_up lost now)
keeps-giving_up lost now own other addr (Connected c l) h = tt
keeps-giving_up lost now own other addr (Listener local b) h = tt
keeps-giving_up lost now own other addr (Idle buffers bound) h = tt
keeps-giving_up lost now own other addr (Datagrams (Some local) s) h = (h.0, gives_up own other (record { addr = addr; port = local.port }) s lost now h.1)
keeps-giving_up lost now own other addr (Datagrams None s) h = ap (λ s. given_up s lost now) h

pub keeps-reading : Keeps role_after_recvfrom
keeps-reading own other addr (Connected c l) h = tt
keeps-reading own other addr (Listener local b) h = tt
keeps-reading own other addr (Idle buffers bound) h = tt
keeps-reading own other addr (Datagrams (Some local) s) h = (h.0, reads own other (record { addr = addr; port = local.port }) s h.1)
keeps-reading own other addr (Datagrams None s) h = ap after_read h

-- more that was accepted takes nothing back
keeps-more : (own other more further : List Accepted) (addr : Addr) (r : Role) → IsEntryOf own other addr r → IsEntryOf (own ++ more) (other ++ further) addr r
keeps-more own other more further addr (Connected c l) h = tt
keeps-more own other more further addr (Listener local b) h = tt
keeps-more own other more further addr (Idle buffers bound) h = tt
keeps-more own other more further addr (Datagrams (Some local) s) h = (h.0, more_accepted own other more further (record { addr = addr; port = local.port }) s h.1)
keeps-more own other more further addr (Datagrams None s) h = h

pub are-more : (own other more further : List Accepted) (addr : Addr) (entries : List Entry) → AreEntriesOf own other addr entries → AreEntriesOf (own ++ more) (other ++ further) addr entries
are-more own other more further addr entries are =
    All-weaker (λ (e : Entry). IsEntryOf own other addr e.role) (λ (e : Entry). IsEntryOf (own ++ more) (other ++ further) addr e.role) (λ e h. keeps-more own other more further addr e.role h) entries are

-- Steps of entries.

pub are-changed : (own other : List Accepted) (addr : Addr) (g : Role → Role) → Keeps g → (test : Entry → Bool) (entries : List Entry) → AreEntriesOf own other addr entries
    → AreEntriesOf own other addr (change_first test (with_role g) entries)
are-changed own other addr g keeps test entries are =
    All-change_first (λ (e : Entry). IsEntryOf own other addr e.role) test (with_role g) (λ e h. keeps own other addr e.role h) entries are

pub are-removed : (own other : List Accepted) (addr : Addr) (test : Entry → Bool) (entries : List Entry) → AreEntriesOf own other addr entries → AreEntriesOf own other addr (remove_first test entries)
are-removed own other addr test = go
  where
    step : (e : Entry) (rest left : List Entry) → IsEntryOf own other addr e.role → AreEntriesOf own other addr rest → AreEntriesOf own other addr left → (b : Bool) → AreEntriesOf own other addr (cond b rest (e ∷ left))
    step e rest left h are more true = are
    step e rest left h are more false = (h, more)

    go : (entries : List Entry) → AreEntriesOf own other addr entries → AreEntriesOf own other addr (remove_first test entries)
    go [] are = tt
    go (e ∷ rest) are = step e rest (remove_first test rest) are.0 are.1 (go rest are.1) (test e)

pub are-settled : (own other : List Accepted) (addr : Addr) (fate : Fate) (g : Role → Role) → Keeps g → (test : Entry → Bool) (entries : List Entry) → AreEntriesOf own other addr entries
    → AreEntriesOf own other addr (entries_after_step fate test g entries)
are-settled own other addr fate g keeps test entries are = by_fate (is_kept fate)
  where
    by_fate : (b : Bool) → AreEntriesOf own other addr (cond b (change_first test (with_role g) entries) (remove_first test entries))
    by_fate true = are-changed own other addr g keeps test entries are
    by_fate false = are-removed own other addr test entries are

pub are-stepped : (own other : List Accepted) (addr : Addr) (fate : Role → Fate) (g : Role → Role) → Keeps g → (entries : List Entry) → AreEntriesOf own other addr entries
    → AreEntriesOf own other addr (entries_after_steps fate g entries)
are-stepped own other addr fate g keeps = go
  where
    step : (e : Entry) (left : List Entry) → IsEntryOf own other addr (g e.role) → AreEntriesOf own other addr left → (b : Bool) → AreEntriesOf own other addr (cond b (with_role g e ∷ left) left)
    step e left h more true = (h, more)
    step e left h more false = more

    go : (entries : List Entry) → AreEntriesOf own other addr entries → AreEntriesOf own other addr (entries_after_steps fate g entries)
    go [] are = tt
    go (e ∷ rest) are = step e (entries_after_steps fate g rest) (keeps own other addr e.role are.0) (go rest are.1) (is_kept (fate e.role))
