-- What the events of datagrams make of a role and of the table.
use Rattle.std.proofs.Common.{◌≡◌, ℕ, Bool, true, false, if◌then◌else◌, nat_lt, List, length, Option, Some, None, option_and_then, option_map, Ok, Err, get_or, set, refl, sym, ◌∙◌, ap, subst}
use Rattle.std.specs.List.{find, position, refill}
use Rattle.ipv4.specs.declared.addr.Addr.{Addr}
use Rattle.ipv4.specs.declared.addr.Endpoint.{Endpoint}
use Rattle.udp.specs.Datagram.{UserDatagram}
use Rattle.udp_socket.specs.declared.socket.TheConstants.{MOST_OCTETS}
use Rattle.udp_socket.specs.SocketView.{SocketView as Queues}
use Rattle.sockets.specs.declared.entry.SocketId.{SocketId}
use Rattle.sockets.specs.declared.entry.Entry.{Entry}
use Rattle.sockets.specs.declared.role.Role.{Role}
use Rattle.sockets.specs.declared.role.Role.TheVariants.{Datagrams}
use Rattle.sockets.specs.declared.refusal.Refusal.{Refusal}
use Rattle.sockets.specs.declared.refusal.Refusal.TheVariants.{EBADF, EMSGSIZE, EAGAIN, EADDRINUSE, EOPNOTSUPP}
use Rattle.sockets.specs.declared.datagrams.Reception.TheVariants.{Queued, NoRoom, NoSocket}
use Rattle.sockets.specs.Entries.{is_socket, has_room_to_send, has_room_to_receive, role_after_sendto, is_datagrams_at, role_after_reception, with_role}
use Rattle.sockets.specs.SocketsView.{SocketsView, role_of, with_socket}
use Rattle.sockets.specs.Calls.{reach_refusal, bound_of, last_port_after}
use Rattle.sockets.specs.Datagrams.{datagrams_bound, sending_end, end_sent_from, next_identification, after_sendto, reception, after_reception}
use Rattle.sockets.specs.Lists.{change_first}
use Rattle.sockets.proofs.Written.{entry_written, found_lent, entry_kept}

-- a datagram is refused ..
pub sendto-refused : (h : SocketsView) (id : SocketId) (peer : Endpoint) (octets : List ℕ) (routed : Bool) (refusal : Refusal) → end_sent_from h id peer octets routed ≡ Err refusal → after_sendto h id peer octets routed ≡ h
sendto-refused h id peer octets routed refusal given = rw given

-- .. or stands in the queue of its socket
pub sendto-given : (h : SocketsView) (id : SocketId) (peer : Endpoint) (octets : List ℕ) (routed : Bool) (local : Endpoint) → end_sent_from h id peer octets routed ≡ Ok local
    → after_sendto h id peer octets routed ≡ with_socket (record h { last_port = last_port_after h (option_and_then bound_of (role_of h id)) local.port; identification = next_identification h.identification }) id (role_after_sendto local h.kept peer h.identification octets)
sendto-given h id peer octets routed local given = rw given

-- where it sends from
pub record IsSentFrom (h : SocketsView) (id : SocketId) (local : Endpoint) : Type 0 where
  pub bound : Option Endpoint
  pub queues : Queues
  pub role : role_of h id ≡ Some (Datagrams bound queues)
  pub sends : sending_end h bound ≡ Some local

pub sent-from : (h : SocketsView) (id : SocketId) (peer : Endpoint) (octets : List ℕ) (routed : Bool) (local : Endpoint) → end_sent_from h id peer octets routed ≡ Ok local → IsSentFrom h id local
sent-from h id peer octets routed local given = by_role (role_of h id) refl
  where
    by_room : (bound : Option Endpoint) (q : Queues) (there : Endpoint) → role_of h id ≡ Some (Datagrams bound q) → nat_lt MOST_OCTETS (length octets) ≡ false → reach_refusal h peer routed ≡ None → sending_end h bound ≡ Some there → (b : Bool) → has_room_to_send (length octets) (Datagrams bound q) ≡ b → IsSentFrom h id local
    by_room bound q there is short reached sends false room = let refused : end_sent_from h id peer octets routed ≡ Err EAGAIN = rw (is, short, reached, sends, room) in cc
    by_room bound q there is short reached sends true room =
        let taken : end_sent_from h id peer octets routed ≡ Ok there = rw (is, short, reached, sends, room) in
        let same : there ≡ local = cc in
        record { bound = bound; queues = q; role = is; sends = subst (λ (e : Endpoint). sending_end h bound ≡ Some e) same sends }

    by_end : (bound : Option Endpoint) (q : Queues) → role_of h id ≡ Some (Datagrams bound q) → nat_lt MOST_OCTETS (length octets) ≡ false → reach_refusal h peer routed ≡ None → (o : Option Endpoint) → sending_end h bound ≡ o → IsSentFrom h id local
    by_end bound q is short reached None sends = let refused : end_sent_from h id peer octets routed ≡ Err EADDRINUSE = rw (is, short, reached, sends) in cc
    by_end bound q is short reached (Some there) sends = by_room bound q there is short reached sends (has_room_to_send (length octets) (Datagrams bound q)) refl

    by_reach : (bound : Option Endpoint) (q : Queues) → role_of h id ≡ Some (Datagrams bound q) → nat_lt MOST_OCTETS (length octets) ≡ false → (o : Option Refusal) → reach_refusal h peer routed ≡ o → IsSentFrom h id local
    by_reach bound q is short (Some refusal) reached = let refused : end_sent_from h id peer octets routed ≡ Err refusal = rw (is, short, reached) in cc
    by_reach bound q is short None reached = by_end bound q is short reached (sending_end h bound) refl

    by_len : (bound : Option Endpoint) (q : Queues) → role_of h id ≡ Some (Datagrams bound q) → (b : Bool) → nat_lt MOST_OCTETS (length octets) ≡ b → IsSentFrom h id local
    by_len bound q is true long = let refused : end_sent_from h id peer octets routed ≡ Err EMSGSIZE = rw (is, long) in cc
    by_len bound q is false short = by_reach bound q is short (reach_refusal h peer routed) refl

    by_role : (o : Option Role) → role_of h id ≡ o → IsSentFrom h id local
    by_role None is = let refused : end_sent_from h id peer octets routed ≡ Err EBADF = rw is in cc
    by_role (Some (Datagrams bound q)) is = by_len bound q is (nat_lt MOST_OCTETS (length octets)) refl
    by_role (Some _) is = let refused : end_sent_from h id peer octets routed ≡ Err EOPNOTSUPP = rw is in cc

-- a datagram that came stands in a queue, or nothing changes
pub queued-change : (h : SocketsView) (source : Addr) (d : UserDatagram) → reception h d ≡ Queued
    → after_reception h source d ≡ record h { entries = change_first (is_datagrams_at d.destination) (with_role (role_after_reception (record { addr = source; port = d.source }) d.payload)) h.entries }
queued-change h source d given = rw given

pub no_room-same : (h : SocketsView) (source : Addr) (d : UserDatagram) → reception h d ≡ NoRoom → after_reception h source d ≡ h
no_room-same h source d given = rw given

pub no_socket-same : (h : SocketsView) (source : Addr) (d : UserDatagram) → reception h d ≡ NoSocket → after_reception h source d ≡ h
no_socket-same h source d given = rw given

-- a datagram that came for the socket at this place, which has room for it or not, as the entry there is written
pub received : (v h : SocketsView) (source : Addr) (d : UserDatagram) (from : Endpoint) (octets : List ℕ) (zs : List Entry) (i : ℕ) (x y : Entry) (b : Bool) → v ≡ h → position (is_datagrams_at d.destination) h.entries ≡ Some i → zs ≡ v.entries → x ≡ get_or zs i x
    → from ≡ record { addr = source; port = d.source } → octets ≡ d.payload → b ≡ (let e : Entry = get_or zs i x in has_room_to_receive (length octets) e.role) → y ≡ (if b then with_role (role_after_reception from octets) (get_or zs i x) else get_or zs i x)
    → record v { entries = refill (length v.entries) v.entries (set zs i y) } ≡ after_reception h source d
received v h source d from octets zs i x y b same place lent at is_from is_payload room changed = by_room b room changed
  where
    test : Entry → Bool
    test = is_datagrams_at d.destination

    there : Endpoint
    there = record { addr = source; port = d.source }

    found : find test h.entries ≡ Some x
    found = found_lent v h test zs i x same place lent at

    room_there : (answer : Bool) → answer ≡ (let e : Entry = get_or zs i x in has_room_to_receive (length octets) e.role) → has_room_to_receive (length d.payload) x.role ≡ answer
    room_there answer has = sym (has ∙ ap (λ (e : Entry). has_room_to_receive (length octets) e.role) (sym at) ∙ ap (λ (xs : List ℕ). has_room_to_receive (length xs) x.role) is_payload)

    by_room : (answer : Bool) → answer ≡ (let e : Entry = get_or zs i x in has_room_to_receive (length octets) e.role) → y ≡ (if answer then with_role (role_after_reception from octets) (get_or zs i x) else get_or zs i x)
        → record v { entries = refill (length v.entries) v.entries (set zs i y) } ≡ after_reception h source d
    by_room true has is =
        let queued : reception h d ≡ Queued = rw (found, room_there true has) in
        entry_written v h test (with_role (role_after_reception from octets)) zs i x y same place lent at is
        ∙ ap (λ (e : Endpoint). let w : SocketsView = record h { entries = change_first test (with_role (role_after_reception e octets)) h.entries } in w) is_from
        ∙ ap (λ (xs : List ℕ). let w : SocketsView = record h { entries = change_first test (with_role (role_after_reception there xs)) h.entries } in w) is_payload
        ∙ sym (queued-change h source d queued)
    by_room false has is =
        let none : reception h d ≡ NoRoom = rw (found, room_there false has) in
        entry_kept v h zs i x y same lent at is ∙ sym (no_room-same h source d none)

-- where the tests of a send pass
pub end_given : (h : SocketsView) (id : SocketId) (peer : Endpoint) (octets : List ℕ) (routed : Bool) (x : Entry) (bound : Option Endpoint) (local : Endpoint) → find (is_socket id) h.entries ≡ Some x → datagrams_bound x.role ≡ Ok bound → nat_lt MOST_OCTETS (length octets) ≡ false
    → reach_refusal h peer routed ≡ None → sending_end h bound ≡ Some local → has_room_to_send (length octets) x.role ≡ true → end_sent_from h id peer octets routed ≡ Ok local
end_given h id peer octets routed x bound local found opens short reached sends room = rw (found, opens, short, reached, sends, room)

bound_same : (role : Role) (bound : Option Endpoint) → datagrams_bound role ≡ Ok bound → bound_of role ≡ bound
bound_same (Datagrams b queues) bound given = cc
bound_same _ bound given = cc

pub bound_found : (h : SocketsView) (id : SocketId) (x : Entry) (bound : Option Endpoint) → find (is_socket id) h.entries ≡ Some x → datagrams_bound x.role ≡ Ok bound → option_and_then bound_of (role_of h id) ≡ bound
bound_found h id x bound found given = ap (λ (o : Option Entry). option_and_then bound_of (option_map (λ (e : Entry). e.role) o)) found ∙ bound_same x.role bound given
