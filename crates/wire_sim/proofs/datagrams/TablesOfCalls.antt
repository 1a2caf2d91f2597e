-- A new table, and what the calls make of one that tell of no datagram.
use Rattle.sockets.specs.declared.sizes.Sizes.{Sizes}
use Rattle.std.proofs.Common.{◌≡◌, ℕ, ◌+◌, ◌<◌, ◌==◌, ◌&&◌, ◌^◌, not, Bool, true, false, cond, List, [], ◌++◌, Option, Some, None, Result, Ok, Err, refl, sym, ◌∙◌, subst, append-nil, arith}
use Rattle.std.specs.List.{find}
use Rattle.std.specs.Prelude.{option_and_then}
use Rattle.std.specs.Option.{ok_or}
use Rattle.ipv4.specs.declared.addr.Addr.{Addr}
use Rattle.ipv4.specs.declared.addr.Endpoint.{Endpoint}
use Rattle.tcp_halves.specs.declared.buffers.Manner.{Manner}
use Rattle.ipv4.specs.Addresses.{same_addr}
use Rattle.clock.specs.declared.moment.Moment.{Moment}
use Rattle.sockets.specs.declared.entry.Entry.{Entry}
use Rattle.sockets.specs.declared.entry.Kind.{Kind}
use Rattle.sockets.specs.declared.entry.Kind.TheVariants.{Tcp, Udp}
use Rattle.sockets.specs.declared.entry.SocketId.{SocketId}
use Rattle.sockets.specs.declared.refusal.Refusal.{Refusal}
use Rattle.sockets.specs.declared.refusal.Refusal.TheVariants.{EINVAL, EADDRINUSE, EADDRNOTAVAIL}
use Rattle.sockets.specs.declared.role.Leave.{Leave}
use Rattle.sockets.specs.declared.role.Role.{Role}
use Rattle.sockets.specs.declared.role.Role.TheVariants.{Idle, Listener, Connected, Datagrams}
use Rattle.sockets.specs.Calls.{of_socket, bound_of, last_port_after, IsMade, any_addr, free_port, port_at, port_bound, last_port_bound, after_bind, after_listen, is_next_at, after_accept, port_connected, after_connect, after_send, after_recv, after_shutdown, after_nodelay, after_keepalive, after_socket_left, after_leaving}
use Rattle.sockets.specs.Entries.{is_socket, new_socket as new_entry, new_datagram_socket, with_role, role_after_bind, role_after_listen, role_after_connect, role_after_accept, role_after_leaving, role_after_listener_close, listener_close_fate_of, leaving_fate_of, entries_after_step}
use Rattle.sockets.specs.Lists.{change_first}
use Rattle.sockets.specs.Ports.{first_port, is_free_datagram_port}
use Rattle.sockets.specs.GiveWay.{gives_way, after_giving_way}
use Rattle.sockets.specs.SocketsView.{SocketsView, new_sockets, later_moment, role_of, with_socket, room_of}
use Rattle.datagram_law.specs.Accepted.{Accepted, AreInTurn}
use Rattle.datagram_law.specs.Sockets.{IsSocketOf}
use Rattle.datagram_law.proofs.Keeping.{new}
use Rattle.wire_sim.proofs.lists.FoundAfterChange.{All-find, All-changed, All-added, change-none}
use Rattle.wire_sim.proofs.tables.CallsOnTable.{first_port-below}
use Rattle.wire_sim.proofs.datagrams.TablesKeepToAccepted.{IsEntryOf, AreEntriesOf, IsTableOf, Keeps, keeps-connection, keeps-listening, keeps-connecting, keeps-accepting, keeps-forsaking, are-more, are-changed, are-settled, are-stepped, are-removed}

-- nothing was accepted yet
none-in_turn : AreInTurn []
none-in_turn = record { numbered = λ n a e. cc; widths = λ k d within. absurd (omega (arith, within)) }

pub kept-fresh : (addr : Addr) (manner : Manner) (sizes : Sizes) → IsTableOf [] [] (new_sockets addr manner sizes)
kept-fresh addr manner sizes = record { numbered = refl; in_turn = none-in_turn; sockets = tt }

-- one of the two hosts accepts more
pub are-own : (own other more : List Accepted) (addr : Addr) (entries : List Entry) → AreEntriesOf own other addr entries → AreEntriesOf (own ++ more) other addr entries
are-own own other more addr entries are =
    subst (λ (xs : List Accepted). AreEntriesOf (own ++ more) xs addr entries) (append-nil other) (are-more own other more [] addr entries are)

are-further : (own other further : List Accepted) (addr : Addr) (entries : List Entry) → AreEntriesOf own other addr entries
    → AreEntriesOf own (other ++ further) addr entries
are-further own other further addr entries are =
    subst (λ (xs : List Accepted). AreEntriesOf xs (other ++ further) addr entries) (append-nil own) (are-more own other [] further addr entries are)

pub kept-more : (own other further : List Accepted) (h : SocketsView) → IsTableOf own other h → IsTableOf own (other ++ further) h
kept-more own other further h t = record { numbered = t.numbered; in_turn = t.in_turn; sockets = are-further own other further h.addr h.entries t.sockets }

-- A socket is made.

pub kept-made : (own other : List Accepted) (kind : Kind) (h next : SocketsView) → IsMade kind h next → IsTableOf own other h → IsTableOf own other next
kept-made own other Tcp h next made t = subst (IsTableOf own other) (sym made) record {
  numbered = t.numbered;
  in_turn = t.in_turn;
  sockets = All-added (λ (e : Entry). IsEntryOf own other h.addr e.role) h.entries (new_entry (record { 0 = h.last_id + 1 }) (room_of h.sizes.buffer h.manner)) t.sockets tt;
}
kept-made own other Udp h next made t = subst (IsTableOf own other) (sym made) record {
  numbered = t.numbered;
  in_turn = t.in_turn;
  sockets = All-added (λ (e : Entry). IsEntryOf own other h.addr e.role) h.entries (new_datagram_socket (record { 0 = h.last_id + 1 })) t.sockets refl;
}

-- A socket changes.

kept-changed : (own other : List Accepted) (h : SocketsView) (id : SocketId) (g : Role → Role) → Keeps g → IsTableOf own other h → IsTableOf own other (with_socket h id g)
kept-changed own other h id g keeps t = record { numbered = t.numbered; in_turn = t.in_turn; sockets = are-changed own other h.addr g keeps (is_socket id) h.entries t.sockets }

pub kept-listen : (own other : List Accepted) (h : SocketsView) (id : SocketId) (backlog : ℕ) → IsTableOf own other h → IsTableOf own other (after_listen h id backlog)
kept-listen own other h id backlog t = kept-changed own other h id (role_after_listen backlog) (keeps-listening backlog) t

pub kept-send : (own other : List Accepted) (h : SocketsView) (id : SocketId) (octets : List ℕ) → IsTableOf own other h → IsTableOf own other (after_send h id octets)
kept-send own other h id octets t = kept-changed own other h id _ (keeps-connection _) t

pub kept-recv : (own other : List Accepted) (h : SocketsView) (id : SocketId) (len : ℕ) → IsTableOf own other h → IsTableOf own other (after_recv h id len)
kept-recv own other h id len t = kept-changed own other h id _ (keeps-connection _) t

pub kept-shutdown : (own other : List Accepted) (h : SocketsView) (id : SocketId) → IsTableOf own other h → IsTableOf own other (after_shutdown h id)
kept-shutdown own other h id t = kept-changed own other h id _ (keeps-connection _) t

pub kept-nodelay : (own other : List Accepted) (h : SocketsView) (id : SocketId) (on : Bool) → IsTableOf own other h → IsTableOf own other (after_nodelay h id on)
kept-nodelay own other h id on t = kept-changed own other h id _ (keeps-connection _) t

pub kept-keepalive : (own other : List Accepted) (h : SocketsView) (id : SocketId) (every : Option ℕ) → IsTableOf own other h → IsTableOf own other (after_keepalive h id every)
kept-keepalive own other h id every t = kept-changed own other h id _ (keeps-connection _) t

pub kept-accept : (own other : List Accepted) (h : SocketsView) (id : SocketId) → IsTableOf own other h → IsTableOf own other (after_accept h id)
kept-accept own other h id t = record {
  numbered = t.numbered;
  in_turn = t.in_turn;
  sockets = are-changed own other h.addr role_after_accept keeps-accepting (is_next_at h id) h.entries t.sockets;
}

-- a port is given, or nothing changes
pub kept-connect : (own other : List Accepted) (h : SocketsView) (now : Moment) (isn : ℕ) (id : SocketId) (peer : Endpoint) (routed : Bool) → IsTableOf own other h
    → IsTableOf own other (after_connect h now isn id peer routed)
kept-connect own other h now isn id peer routed t = by_port (port_connected h id peer routed) refl
  where
    by_port : (o : Result ℕ Refusal) → port_connected h id peer routed ≡ o → IsTableOf own other (after_connect h now isn id peer routed)
    by_port (Err refusal) is =
        let same : after_connect h now isn id peer routed ≡ h = rw is in
        subst (IsTableOf own other) (sym same) t
    by_port (Ok port) is =
        let local : Endpoint = record { addr = h.addr; port = port } in
        let given : SocketsView = record h { last_port = last_port_after h (option_and_then bound_of (role_of h id)) port } in
        let same : after_connect h now isn id peer routed ≡ with_socket given id (role_after_connect local peer isn (later_moment h now)) = rw is in
        let there : IsTableOf own other given = record { numbered = t.numbered; in_turn = t.in_turn; sockets = t.sockets } in
        subst (IsTableOf own other) (sym same) (kept-changed own other given id (role_after_connect local peer isn (later_moment h now)) (keeps-connecting local peer isn (later_moment h now)) there)

-- the port that is asked for, or a dynamic one
port_at-below : (h : SocketsView) (is_free : ℕ → Bool) (local : Endpoint) (port : ℕ) → local.port < 2 ^ 16 → port_at h is_free local ≡ Ok port → port < 2 ^ 16
port_at-below h is_free local port width = by_addr (not (same_addr local.addr h.addr) && not (same_addr local.addr any_addr))
  where
    given : (o : Option ℕ) → ((p : ℕ) → o ≡ Some p → p < 2 ^ 16) → ok_or o EADDRINUSE ≡ Ok port → port < 2 ^ 16
    given None below e = cc
    given (Some p) below e = let same : p ≡ port = cc in subst (λ (k : ℕ). k < 2 ^ 16) same (below p refl)

    free : (none own : Bool) (p : ℕ) → cond none (first_port is_free h.last_port 0 16384) (cond own (Some local.port) None) ≡ Some p → p < 2 ^ 16
    free true own p e = first_port-below is_free h.last_port 0 16384 p e
    free false true p e = let same : local.port ≡ p = cc in subst (λ (k : ℕ). k < 2 ^ 16) same width
    free false false p e = cc

    by_addr : (other : Bool) → cond other (Err EADDRNOTAVAIL) (ok_or (free_port h is_free local.port) EADDRINUSE) ≡ Ok port → port < 2 ^ 16
    by_addr true e = cc
    by_addr false e = given (free_port h is_free local.port) (λ p is. free (local.port == 0) (is_free local.port) p is) e

-- a UDP socket that may be bound is new, and its port is one
bind-new : (own other : List Accepted) (h : SocketsView) (id : SocketId) (local : Endpoint) (port : ℕ) (e : Entry) → local.port < 2 ^ 16 → port_bound h id local ≡ Ok port → find (is_socket id) h.entries ≡ Some e
    → IsEntryOf own other h.addr e.role → IsEntryOf own other h.addr (role_after_bind (record { addr = local.addr; port = port }) e.role)
bind-new own other h id local port e width may at = by_role e.role refl
  where
    by_role : (r : Role) → e.role ≡ r → IsEntryOf own other h.addr r → IsEntryOf own other h.addr (role_after_bind (record { addr = local.addr; port = port }) r)
    by_role (Idle buffers bound) is here = tt
    by_role (Listener l b) is here = tt
    by_role (Connected c l) is here = tt
    by_role (Datagrams None s) is here =
        let end : Endpoint = record { addr = h.addr; port = port } in
        let given : port_bound h id local ≡ port_at h (is_free_datagram_port h.entries) local = rw (at, is) in
        (port_at-below h (is_free_datagram_port h.entries) local port width (sym given ∙ may), subst (IsSocketOf own other end) (sym here) (new own other end))
    by_role (Datagrams (Some bound) s) is here =
        let refused : port_bound h id local ≡ Err EINVAL = rw (at, is) in
        let bad : Err EINVAL ≡ Ok port = sym refused ∙ may in cc

-- a UDP socket is bound while nothing waits in it
pub kept-bind : (own other : List Accepted) (h : SocketsView) (id : SocketId) (local : Endpoint) → local.port < 2 ^ 16 → IsTableOf own other h → IsTableOf own other (after_bind h id local)
kept-bind own other h id local width t = by_port (port_bound h id local) refl
  where
    P : Entry → Type 0
    P e = IsEntryOf own other h.addr e.role

    by_entry : (port : ℕ) → port_bound h id local ≡ Ok port → (o : Option Entry) → find (is_socket id) h.entries ≡ o
        → AreEntriesOf own other h.addr (change_first (is_socket id) (with_role (role_after_bind (record { addr = local.addr; port = port }))) h.entries)
    by_entry port may None at = subst (AreEntriesOf own other h.addr) (sym (change-none (is_socket id) (with_role (role_after_bind (record { addr = local.addr; port = port }))) h.entries at)) t.sockets
    by_entry port may (Some e) at =
        All-changed P (is_socket id) (with_role (role_after_bind (record { addr = local.addr; port = port }))) h.entries e at
        (bind-new own other h id local port e width may at (All-find P (is_socket id) h.entries e t.sockets at)) t.sockets

    by_port : (r : Result ℕ Refusal) → port_bound h id local ≡ r → IsTableOf own other (after_bind h id local)
    by_port (Err refusal) is =
        let same : after_bind h id local ≡ h = rw is in
        subst (IsTableOf own other) (sym same) t
    by_port (Ok port) is =
        let given : SocketsView = record h { last_port = last_port_bound h local port } in
        let same : after_bind h id local ≡ with_socket given id (role_after_bind (record { addr = local.addr; port = port })) = rw is in
        let there : IsTableOf own other (with_socket given id (role_after_bind (record { addr = local.addr; port = port }))) =
        record { numbered = t.numbered; in_turn = t.in_turn; sockets = by_entry port is (find (is_socket id) h.entries) refl } in
        subst (IsTableOf own other) (sym same) there

-- A socket is left.

kept-socket_left : (own other : List Accepted) (h : SocketsView) (how : Leave) (id : SocketId) → IsTableOf own other h → IsTableOf own other (after_socket_left h how id)
kept-socket_left own other h how id t = by_role (role_of h id)
  where
    left : Role → SocketsView
    left role = record h { entries = entries_after_step (leaving_fate_of how h.kept role) (is_socket id) (role_after_leaving how h.kept) h.entries }

    by_role : (o : Option Role) → IsTableOf own other (of_socket h left o)
    by_role None = t
    by_role (Some role) = record {
      numbered = t.numbered;
      in_turn = t.in_turn;
      sockets = are-settled own other h.addr (leaving_fate_of how h.kept role) (role_after_leaving how h.kept) (keeps-connection _) (is_socket id) h.entries t.sockets;
    }

-- a connection gives way
pub kept-giving_way : (own other : List Accepted) (h : SocketsView) (meant : Entry → Bool) → IsTableOf own other h → IsTableOf own other (after_giving_way h meant)
kept-giving_way own other h meant t = record {
  numbered = t.numbered;
  in_turn = t.in_turn;
  sockets = are-removed own other h.addr (gives_way meant) h.entries t.sockets;
}

pub kept-leaving : (own other : List Accepted) (h : SocketsView) (how : Leave) (id : SocketId) → IsTableOf own other h → IsTableOf own other (after_leaving h how id)
kept-leaving own other h how id t =
    let alone : SocketsView = after_socket_left h how id in
    let there : IsTableOf own other alone = kept-socket_left own other h how id t in
    record {
      numbered = there.numbered;
      in_turn = there.in_turn;
      sockets =
          are-stepped own other alone.addr (listener_close_fate_of id) (role_after_listener_close h.kept id) (keeps-forsaking h.kept id) alone.entries there.sockets;
    }
