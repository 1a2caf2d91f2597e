-- What a call that was not refused tells of the host's table.
use Rattle.std.proofs.Common.{◌≡◌, ℕ, zero, suc, ◌+◌, ◌<◌, ◌^◌, ◌==◌, ◌&&◌, ◌||◌, ◌⊎◌, inl, inr, not, Bool, true, false, cond, if◌then◌else◌, List, [], ◌∷◌, length, take, Option, Some, None, is_some, option_map, Result, Ok, Err, arith, refl, sym, ◌∙◌, ap, subst}
use Rattle.std.specs.List.{find, list_any}
use Rattle.std.specs.Option.{option_or}
use Rattle.std.proofs.lemmas.Bool.{eqb-true}
use Rattle.ipv4.specs.declared.addr.Endpoint.{Endpoint}
use Rattle.ipv4.specs.Addresses.{pair_of, same_addr, is_unicast}
use Rattle.tcp_halves.specs.declared.buffers.Buffers.{Buffers}
use Rattle.tcp_state.specs.declared.calls.Received.{Received}
use Rattle.tcp_state.specs.declared.calls.Received.TheVariants.{Octets, EndOfStream}
use Rattle.tcp_state.specs.declared.calls.Refusal.{Refusal as ConnectionRefusal}
use Rattle.clock.specs.declared.moment.Moment.{Moment}
use Rattle.tcp_state.specs.declared.calls.Refusal.TheVariants as connection_variants
use Rattle.tcp_state.specs.Calls as connection_calls
use Rattle.tcp_state.specs.Calls.{unless_pending, send_count, recv_count, after_recv}
use Rattle.tcp_halves.specs.Stream.{send_room}
use Rattle.tcp_state.specs.View.{View, is_opening, is_write_closed, is_read_closed, opened_actively}
use Rattle.sockets.specs.declared.entry.SocketId.{SocketId}
use Rattle.sockets.specs.declared.entry.Entry.{Entry}
use Rattle.sockets.specs.declared.role.Role.{Role}
use Rattle.sockets.specs.declared.role.Role.TheVariants.{Idle, Listener, Connected, Datagrams}
use Rattle.sockets.specs.declared.refusal.Refusal.{Refusal}
use Rattle.sockets.specs.declared.refusal.Refusal.TheVariants.{EBADF, EINVAL, EADDRINUSE, EADDRNOTAVAIL, EISCONN, ENOTCONN, EALREADY, ENETUNREACH}
use Rattle.wire_sim.specs.declared.event.Answer.{Answer}
use Rattle.wire_sim.specs.declared.event.Answer.TheVariants.{Refused}
use Rattle.sockets.specs.Ports.{port_after, first_port, first_port-step, first_port-zero, is_free_port}
use Rattle.sockets.specs.Entries.{is_pending, has_socket, is_socket, is_bound_at, is_between, role_after_connect, role_after_recv, role_after_shutdown, with_role}
use Rattle.sockets.specs.SocketsView.{SocketsView, with_socket, later_moment}
use Rattle.sockets.specs.Lists.{change_first}
use Rattle.sockets.specs.Calls.{unless_refused, of_connection, role_send_answer, role_recv_answer, send_answer, recv_answer, is_pair_held, port_for, reach_refusal, had_connection, open_answer, connect_refusal, last_port_after, after_connect, refusal_of, role_shutdown_refusal, shutdown_refusal, pair_connected}
use Rattle.wire_sim.specs.Steps.{Answers, readable_on}
use Rattle.sockets.specs.Pairs.{socket_pair}
use Rattle.wire_sim.proofs.tables.PairOfPorts.{same_addr-other}
use Rattle.wire_sim.proofs.lists.FoundAfterChange.{find-passes}
use Rattle.wire_sim.proofs.tables.TableById.{entry_with}
use Rattle.sockets.proofs.Connected.{after_connect-accepted}

-- Tests.

both_first : (b c : Bool) → (b && c) ≡ true → b ≡ true
both_first true c e = refl
both_first false c e = cc

both_second : (b c : Bool) → (b && c) ≡ true → c ≡ true
both_second true c e = e
both_second false c e = cc

pub not_true : (b : Bool) → not b ≡ true → b ≡ false
not_true true e = cc
not_true false e = refl

-- where no element passes, none is found
pub find-not_any : {X : Type 0} (t : X → Bool) (xs : List X) → list_any t xs ≡ false → find t xs ≡ None
find-not_any {X} t = go
  where
    step : (x : X) (a : Bool) (o : Option X) → (a ≡ false → o ≡ None) → (b : Bool) → (b || a) ≡ false → cond b (Some x) o ≡ None
    step x a o more true e = cc
    step x a o more false e = more e

    go : (xs : List X) → list_any t xs ≡ false → find t xs ≡ None
    go [] e = refl
    go (x ∷ xs) e = step x (list_any t xs) (find t xs) (go xs) (t x) e

-- The entry of a socket.

-- an id that a test finds is that id
pub socket-id : (id : SocketId) (e : Entry) → is_socket id e ≡ true → e.id ≡ id
socket-id id e is = ap (λ n. let i : SocketId = record { 0 = n } in i) (eqb-true e.id.0 id.0 (both_first (e.id.0 == id.0) (has_socket e.role) is))

-- a connection that a socket names was not closed by its caller
pub socket-kept : (xs : List Entry) (id : SocketId) (c : View) (l : Option SocketId) → find (is_socket id) xs ≡ Some (record { id = id; role = Connected c l }) → c.released ≡ false
socket-kept xs id c l found =
    neither (is_pending (Connected c l)) c.released (not_true (is_pending (Connected c l) || c.released) (both_second (id.0 == id.0) (has_socket (Connected c l)) (find-passes (is_socket id) xs (record { id = id; role = Connected c l }) found)))
  where
    neither : (a b : Bool) → (a || b) ≡ false → b ≡ false
    neither true b e = cc
    neither false b e = e

-- the entry that is found for a socket, by its role
pub found_socket : (xs : List Entry) (id : SocketId) (e : Entry) (r : Role) → find (is_socket id) xs ≡ Some e → e.role ≡ r → find (is_socket id) xs ≡ Some (record { id = id; role = r })
found_socket xs id e r found is =
    found ∙ (ap Some (entry_with e r is) ∙ ap (λ i. let x : Entry = record { id = i; role = r } in Some x) (socket-id id e (find-passes (is_socket id) xs e found)))

-- The answer of a call.

-- a value is told and the host becomes the next one, or a refusal is told and the host stays
pub outcome : {T : Type 0} (r : Result T Refusal) (told : T → Answer) (next old : SocketsView) (answer : Answer) (new : SocketsView) → Answers r told next old answer new
    → ((v : T) × (r ≡ Ok v) × (answer ≡ told v) × (new ≡ next)) ⊎ ((e : Refusal) × (r ≡ Err e) × (answer ≡ Refused e) × (new ≡ old))
outcome (Ok v) told next old answer new is = inl (v, refl, is.0, is.1)
outcome (Err e) told next old answer new is = inr (e, refl, is.0, is.1)

-- where a call is answered, nothing refuses it
pub not_refused : (o : Option Refusal) (v : Unit {0}) → unless_refused o tt ≡ Ok v → o ≡ None
not_refused None v e = refl
not_refused (Some refusal) v e = cc

-- Send.

-- The socket is a connection that is open, and this many of the octets are taken.
pub record SendsOn (h : SocketsView) (id : SocketId) (octets : List ℕ) (count : ℕ) : Type 0 where
  pub c : View
  pub l : Option SocketId
  pub found : find (is_socket id) h.entries ≡ Some (record { id = id; role = Connected c l })
  pub untold : is_some c.pending_error ≡ false
  pub opened : is_opening c.state ≡ false
  pub unclosed : is_write_closed c.state ≡ false
  pub takes : count ≡ send_count c octets

-- a send that is answered with a count is one on an open connection
pub sends-on : (h : SocketsView) (id : SocketId) (octets : List ℕ) (count : ℕ) → send_answer h id octets ≡ Ok count → SendsOn h id octets count
sends-on h id octets count answered = by_entry (find (is_socket id) h.entries) refl
  where
    by_tests : (c : View) (l : Option SocketId) → find (is_socket id) h.entries ≡ Some (record { id = id; role = Connected c l }) → (error : Option ConnectionRefusal) (b closed full : Bool) → c.pending_error ≡ error → is_opening c.state ≡ b → is_write_closed c.state ≡ closed
        → of_connection (unless_pending error (if b then Err connection_variants.EAGAIN else if closed then Err connection_variants.EPIPE else if full then Err connection_variants.EAGAIN else Ok (send_count c octets))) ≡ Ok count → SendsOn h id octets count
    by_tests c l at (Some error) opening closed full told is was e = cc
    by_tests c l at None true closed full told is was e = cc
    by_tests c l at None false true full told is was e = cc
    by_tests c l at None false false true told is was e = cc
    by_tests c l at None false false false told is was e = record { c = c; l = l; found = at; untold = ap is_some told; opened = is; unclosed = was; takes = cc }

    by_role : (e : Entry) → find (is_socket id) h.entries ≡ Some e → (r : Role) → e.role ≡ r → role_send_answer r octets ≡ Ok count → SendsOn h id octets count
    by_role e at (Idle buffers bound) is a = cc
    by_role e at (Datagrams bound socket) is a = cc
    by_role e at (Listener bound backlog) is a = cc
    by_role e at (Connected c l) is a = by_tests c l (found_socket h.entries id e (Connected c l) at is) c.pending_error (is_opening c.state) (is_write_closed c.state) ((send_room c.sending == 0) && not (length octets == 0)) refl refl refl a

    by_entry : (o : Option Entry) → find (is_socket id) h.entries ≡ o → SendsOn h id octets count
    by_entry None at = let bad : Err EBADF ≡ Ok count = sym (rw at) ∙ answered in cc
    by_entry (Some e) at =
        let told : send_answer h id octets ≡ role_send_answer e.role octets = rw at in
        by_role e at e.role refl (sym told ∙ answered)

-- Receive.

-- The socket is a connection that answers so, and the buffer has room.
pub record ReadsOn (h : SocketsView) (id : SocketId) (len : ℕ) (got : Received) : Type 0 where
  pub c : View
  pub l : Option SocketId
  pub found : find (is_socket id) h.entries ≡ Some (record { id = id; role = Connected c l })
  pub some : (len == 0) ≡ false
  pub told : connection_calls.recv_answer c len ≡ Ok got

-- octets are answered of an open connection that has some, and then as many as the buffer holds
pub octets_told : (c : View) (len count : ℕ) → connection_calls.recv_answer c len ≡ Ok (Octets count) → (is_some c.pending_error ≡ false) × (is_opening c.state ≡ false) × (count ≡ recv_count c len)
octets_told c len count = by_tests c.pending_error (is_opening c.state) (length c.receiving.readable == 0) (is_read_closed c.state) refl refl
  where
    again : Result Received ConnectionRefusal
    again = Err connection_variants.EAGAIN

    ended : Result Received ConnectionRefusal
    ended = Ok EndOfStream

    by_tests : (error : Option ConnectionRefusal) (opening none seen : Bool) → c.pending_error ≡ error → is_opening c.state ≡ opening
        → unless_pending error (if opening then again else if not none then Ok (Octets (recv_count c len)) else if seen then ended else again) ≡ Ok (Octets count)
        → (is_some c.pending_error ≡ false) × (is_opening c.state ≡ false) × (count ≡ recv_count c len)
    by_tests (Some error) opening none seen told is e = cc
    by_tests None true none seen told is e = let bad : again ≡ Ok (Octets count) = e in cc
    by_tests None false false seen told is e = let same : recv_count c len ≡ count = cc in (ap is_some told, is, sym same)
    by_tests None false true true told is e = let bad : ended ≡ Ok (Octets count) = e in cc
    by_tests None false true false told is e = let bad : again ≡ Ok (Octets count) = e in cc

-- where the end is told nothing is readable, so that nothing is read
pub end_told : (c : View) (len : ℕ) → connection_calls.recv_answer c len ≡ Ok EndOfStream → after_recv c len ≡ c
end_told c len = by_tests c.pending_error (is_opening c.state) (length c.receiving.readable == 0) (is_read_closed c.state) refl refl refl
  where
    again : Result Received ConnectionRefusal
    again = Err connection_variants.EAGAIN

    ended : Result Received ConnectionRefusal
    ended = Ok EndOfStream

    by_tests : (error : Option ConnectionRefusal) (opening none seen : Bool) → c.pending_error ≡ error → is_opening c.state ≡ opening → (length c.receiving.readable == 0) ≡ none
        → unless_pending error (if opening then again else if not none then Ok (Octets (recv_count c len)) else if seen then ended else again) ≡ Ok EndOfStream → after_recv c len ≡ c
    by_tests (Some error) opening none seen told is empty e = cc
    by_tests None true none seen told is empty e = let bad : again ≡ Ok EndOfStream = e in cc
    by_tests None false false seen told is empty e = let bad : Ok (Octets (recv_count c len)) ≡ ended = e in cc
    by_tests None false true seen told is empty e = rw (told, is, empty)

-- a receive that is answered is one on a connection
pub reads-on : (h : SocketsView) (id : SocketId) (len : ℕ) (got : Received) → recv_answer h id len ≡ Ok got → ReadsOn h id len got
reads-on h id len got answered = by_entry (find (is_socket id) h.entries) refl
  where
    by_tests : (c : View) (l : Option SocketId) → find (is_socket id) h.entries ≡ Some (record { id = id; role = Connected c l }) → (none : Bool) (r : Result Received ConnectionRefusal)
        → (len == 0) ≡ none → connection_calls.recv_answer c len ≡ r → cond none (Err EINVAL) (of_connection r) ≡ Ok got
        → ReadsOn h id len got
    by_tests c l at true r room is e = cc
    by_tests c l at false (Ok x) room is e = let same : x ≡ got = cc in record { c = c; l = l; found = at; some = room; told = is ∙ ap Ok same }
    by_tests c l at false (Err x) room is e = cc

    of_idle : (none : Bool) → cond none (Err EINVAL) (Err ENOTCONN) ≡ Ok got → ⊥
    of_idle true e = cc
    of_idle false e = cc

    by_role : (e : Entry) → find (is_socket id) h.entries ≡ Some e → (r : Role) → e.role ≡ r → role_recv_answer r len ≡ Ok got → ReadsOn h id len got
    by_role e at (Idle buffers bound) is a = absurd (of_idle (len == 0) a)
    by_role e at (Datagrams bound socket) is a = cc
    by_role e at (Listener bound backlog) is a = cc
    by_role e at (Connected c l) is a = by_tests c l (found_socket h.entries id e (Connected c l) at is) (len == 0) (connection_calls.recv_answer c len) refl refl a

    by_entry : (o : Option Entry) → find (is_socket id) h.entries ≡ o → ReadsOn h id len got
    by_entry None at = let bad : Err EBADF ≡ Ok got = sym (rw at) ∙ answered in cc
    by_entry (Some e) at =
        let told : recv_answer h id len ≡ role_recv_answer e.role len = rw at in
        by_role e at e.role refl (sym told ∙ answered)

-- a receive into a buffer with room is one of the connection
pub received-connected : (c : View) (l : Option SocketId) (len : ℕ) → (len == 0) ≡ false → role_after_recv len (Connected c l) ≡ Connected (after_recv c len) l
received-connected c l len room = ap (λ b. Connected (cond b c (after_recv c len)) l) room

-- what is readable on a connected socket is what its connection has
pub readable_on-connected : (h : SocketsView) (id : SocketId) (count : ℕ) (c : View) (l : Option SocketId) → find (is_socket id) h.entries ≡ Some (record { id = id; role = Connected c l })
    → readable_on h id count ≡ take count c.receiving.readable
readable_on-connected h id count c l found = rw found

-- Connect.

-- a port that is first to pass does pass
pub first_port-passes : (test : ℕ → Bool) (last steps n port : ℕ) → first_port test last steps n ≡ Some port → test port ≡ true
first_port-passes test last steps zero port e = let bad : None ≡ Some port = sym (first_port-zero test last steps) ∙ e in cc
first_port-passes test last steps (suc n) port e = step (test (port_after last steps)) refl (first_port-passes test last (steps + 1) n port) (sym (first_port-step test last steps n) ∙ e)
  where
    step : (b : Bool) → test (port_after last steps) ≡ b → (first_port test last (steps + 1) n ≡ Some port → test port ≡ true)
        → cond b (Some (port_after last steps)) (first_port test last (steps + 1) n) ≡ Some port → test port ≡ true
    step true is more e = let same : port_after last steps ≡ port = cc in ap test (sym same) ∙ is
    step false is more e = more e

-- nor is it above the last port there is
port_after-below : (last steps : ℕ) → port_after last steps < 2 ^ 16
port_after-below last steps = omega arith

pub first_port-below : (test : ℕ → Bool) (last steps n port : ℕ) → first_port test last steps n ≡ Some port → port < 2 ^ 16
first_port-below test last steps zero port e = let bad : None ≡ Some port = sym (first_port-zero test last steps) ∙ e in cc
first_port-below test last steps (suc n) port e =
    step (test (port_after last steps)) (first_port-below test last (steps + 1) n port) (sym (first_port-step test last steps n) ∙ e)
  where
    step : (b : Bool) → (first_port test last (steps + 1) n ≡ Some port → port < 2 ^ 16) → cond b (Some (port_after last steps)) (first_port test last (steps + 1) n) ≡ Some port → port < 2 ^ 16
    step true more e = let same : port_after last steps ≡ port = cc in subst (λ (k : ℕ). k < 2 ^ 16) same (port_after-below last steps)
    step false more e = more e

-- The socket is idle, the peer's address is not our own, and no connection goes to it from the port that is given.
pub record ConnectsOn (h : SocketsView) (id : SocketId) (peer : Endpoint) (routed : Bool) : Type 0 where
  pub b : Buffers
  pub bound : Option Endpoint
  pub port : ℕ
  pub found : find (is_socket id) h.entries ≡ Some (record { id = id; role = Idle b bound })
  pub apart : same_addr h.addr peer.addr ≡ false
  pub free : find (is_between (record { addr = h.addr; port = port }) peer) h.entries ≡ None
  pub foreseen : pair_connected h id peer routed ≡ Some (pair_of (record { addr = h.addr; port = port }) peer)
  pub becomes : (now : Moment) (isn : ℕ) → after_connect h now isn id peer routed ≡ with_socket (record h { last_port = last_port_after h bound port }) id (role_after_connect (record { addr = h.addr; port = port }) peer isn (later_moment h now))

-- no connection goes to the peer from the port that is given
pub port_for-free : (h : SocketsView) (bound : Option Endpoint) (peer : Endpoint) (port : ℕ) → port_for h bound peer ≡ Some port
    → find (is_between (record { addr = h.addr; port = port }) peer) h.entries ≡ None
port_for-free h None peer port given =
    let test = is_between (record { addr = h.addr; port = port }) peer in
    let passes = first_port-passes (is_free_port h.entries h.addr peer) h.last_port 0 16384 port given in
    find-not_any test h.entries (not_true (list_any test h.entries) (both_second (not (list_any (is_bound_at port) h.entries)) (not (list_any test h.entries)) passes))
port_for-free h (Some bound) peer port given = step (is_pair_held h bound.port peer) refl given
  where
    step : (held : Bool) → is_pair_held h bound.port peer ≡ held → cond held None (Some bound.port) ≡ Some port → find (is_between (record { addr = h.addr; port = port }) peer) h.entries ≡ None
    step true is e = cc
    step false is e =
        let same : bound.port ≡ port = cc in
        ap (λ p. find (is_between (record { addr = h.addr; port = p }) peer) h.entries) (sym same) ∙ find-not_any (is_between (record { addr = h.addr; port = bound.port }) peer) h.entries is

-- a peer that may be reached is another host
pub reached-apart : (h : SocketsView) (peer : Endpoint) (routed : Bool) → reach_refusal h peer routed ≡ None → same_addr h.addr peer.addr ≡ false
reached-apart h peer routed = step (peer.port == 0) (not (is_unicast peer.addr)) (same_addr peer.addr h.addr) routed refl
  where
    step : (none many own near : Bool) → same_addr peer.addr h.addr ≡ own
        → cond (none || many || own) (Some EADDRNOTAVAIL) (cond near None (Some ENETUNREACH)) ≡ None → same_addr h.addr peer.addr ≡ false
    step true many own near is e = cc
    step false true own near is e = cc
    step false false true near is e = cc
    step false false false near is e = same_addr-other peer.addr h.addr is

-- a role that may open a connection is an idle socket
pub opens_idle : (r : Role) (bound : Option Endpoint) → open_answer r ≡ Ok bound → (b : Buffers) × (r ≡ Idle b bound)
opens_idle (Idle buffers at) bound e = let same : at ≡ bound = cc in (buffers, ap (Idle buffers) same)
opens_idle (Listener local backlog) bound e = cc
opens_idle (Datagrams at socket) bound e = cc
opens_idle (Connected c l) bound e = absurd (by_error c.pending_error e)
  where
    step : (opening : Bool) → cond opening (Err EALREADY) (Err EISCONN) ≡ Ok bound → ⊥
    step true e = cc
    step false e = cc

    by_error : (error : Option ConnectionRefusal) → had_connection c.state error ≡ Ok bound → ⊥
    by_error (Some x) e = cc
    by_error None e = step (is_opening c.state) e

-- a connect that is not refused is one of an idle socket, to another host
pub connects-on : (h : SocketsView) (id : SocketId) (peer : Endpoint) (routed : Bool) → connect_refusal h id peer routed ≡ None → ConnectsOn h id peer routed
connects-on h id peer routed none = by_entry (find (is_socket id) h.entries) refl
  where
    by_port : (e : Entry) (bound : Option Endpoint) → find (is_socket id) h.entries ≡ Some e → open_answer e.role ≡ Ok bound → reach_refusal h peer routed ≡ None
        → (o : Option ℕ) → port_for h bound peer ≡ o → ConnectsOn h id peer routed
    by_port e bound at may near None given =
        let held : connect_refusal h id peer routed ≡ Some EADDRINUSE = rw (at, may, near, given) in
        cc
    by_port e bound at may near (Some port) given =
        let idle = opens_idle e.role bound may in
        record {
          b = idle.0;
          bound = bound;
          port = port;
          found = found_socket h.entries id e (Idle idle.0 bound) at idle.1;
          apart = reached-apart h peer routed near;
          free = port_for-free h bound peer port given;
          foreseen = rw (at, may, near, given);
          becomes = λ now isn. after_connect-accepted h now isn id peer routed e bound port at may near given;
        }

    by_reach : (e : Entry) (bound : Option Endpoint) → find (is_socket id) h.entries ≡ Some e → open_answer e.role ≡ Ok bound → (o : Option Refusal) → reach_refusal h peer routed ≡ o
        → ConnectsOn h id peer routed
    by_reach e bound at may (Some refusal) far =
        let refused : connect_refusal h id peer routed ≡ Some refusal = rw (at, may, far) in
        cc
    by_reach e bound at may None near = by_port e bound at may near (port_for h bound peer) refl

    by_open : (e : Entry) → find (is_socket id) h.entries ≡ Some e → (o : Result (Option Endpoint) Refusal) → open_answer e.role ≡ o → ConnectsOn h id peer routed
    by_open e at (Err refusal) may =
        let refused : connect_refusal h id peer routed ≡ Some refusal = rw (at, may) in
        cc
    by_open e at (Ok bound) may = by_reach e bound at may (reach_refusal h peer routed) refl

    by_entry : (o : Option Entry) → find (is_socket id) h.entries ≡ o → ConnectsOn h id peer routed
    by_entry None at =
        let refused : connect_refusal h id peer routed ≡ Some EBADF = rw at in
        cc
    by_entry (Some e) at = by_open e at (open_answer e.role) refl

-- The socket's pair afterwards.

-- the pair of a connected socket is that of its connection
pub socket_pair-connected : (h : SocketsView) (id : SocketId) (c : View) (l : Option SocketId) → find (is_socket id) h.entries ≡ Some (record { id = id; role = Connected c l })
    → socket_pair h id ≡ Some (pair_of c.local c.peer)
socket_pair-connected h id c l found = rw found

-- what was found is found changed where it passes still
pub found-itself : {X : Type 0} (t : X → Bool) (f : X → X) (xs : List X) (x : X) → find t xs ≡ Some x → t (f x) ≡ true → find t (change_first t f xs) ≡ Some (f x)
found-itself {X} t f xs x = go xs
  where
    head : (y : X) (o : Option X) → y ≡ x → t (f x) ≡ true → cond (t (f y)) (Some (f y)) o ≡ Some (f x)
    head y o same is = ap (λ b. cond b (Some (f y)) o) (ap (λ z. t (f z)) same ∙ is) ∙ ap (λ z. Some (f z)) same

    step : (y : X) (ys : List X) → (find t ys ≡ Some x → find t (change_first t f ys) ≡ Some (f x)) → (b : Bool) → t y ≡ b → cond b (Some y) (find t ys) ≡ Some x → t (f x) ≡ true
        → find t (cond b (f y ∷ ys) (y ∷ change_first t f ys)) ≡ Some (f x)
    step y ys more true is e passes = let same : y ≡ x = cc in head y (find t ys) same passes
    step y ys more false is e passes = ap (λ b. cond b (Some y) (find t (change_first t f ys))) is ∙ more e

    go : (ys : List X) → find t ys ≡ Some x → t (f x) ≡ true → find t (change_first t f ys) ≡ Some (f x)
    go [] e passes = cc
    go (y ∷ ys) e passes = step y ys (λ e. go ys e passes) (t y) refl e passes

-- the socket that a connect was for is a connection in SYN-SENT
pub found-connecting : (xs : List Entry) (id : SocketId) (b : Buffers) (bound : Option Endpoint) (local peer : Endpoint) (isn : ℕ) (now : Moment)
    → find (is_socket id) xs ≡ Some (record { id = id; role = Idle b bound })
    → find (is_socket id) (change_first (is_socket id) (with_role (role_after_connect local peer isn now)) xs) ≡ Some (record { id = id; role = Connected (opened_actively b local peer isn now) None })
found-connecting xs id b bound local peer isn now found = found-itself (is_socket id) (with_role (role_after_connect local peer isn now)) xs x found (find-passes (is_socket id) xs x found)
  where
    x : Entry
    x = record { id = id; role = Idle b bound }

-- Shutdown.

-- The socket is a connection past its opening that tells no error, and its side is closed.
pub record ShutsOn (h : SocketsView) (id : SocketId) : Type 0 where
  pub c : View
  pub l : Option SocketId
  pub found : find (is_socket id) h.entries ≡ Some (record { id = id; role = Connected c l })
  pub opened : is_opening c.state ≡ false
  pub shuts : (now : Moment) → role_after_shutdown now (Connected c l) ≡ Connected (connection_calls.after_shutdown c now) l

pub shuts-on : (h : SocketsView) (id : SocketId) → shutdown_refusal h id ≡ None → ShutsOn h id
shuts-on h id none = by_entry (find (is_socket id) h.entries) refl
  where
    by_tests : (c : View) (l : Option SocketId) → find (is_socket id) h.entries ≡ Some (record { id = id; role = Connected c l }) → (error : Option ConnectionRefusal) (opening : Bool) → c.pending_error ≡ error → is_opening c.state ≡ opening
        → option_map refusal_of (option_or error (if opening then Some connection_variants.ENOTCONN else None)) ≡ None → ShutsOn h id
    by_tests c l at (Some error) opening told is e = cc
    by_tests c l at None true told is e = cc
    by_tests c l at None false told is e = record { c = c; l = l; found = at; opened = is; shuts = λ now. rw (told, is) }

    by_role : (e : Entry) → find (is_socket id) h.entries ≡ Some e → (r : Role) → e.role ≡ r → role_shutdown_refusal r ≡ None → ShutsOn h id
    by_role e at (Idle buffers bound) is a = cc
    by_role e at (Datagrams bound socket) is a = cc
    by_role e at (Listener bound backlog) is a = cc
    by_role e at (Connected c l) is a = by_tests c l (found_socket h.entries id e (Connected c l) at is) c.pending_error (is_opening c.state) refl refl a

    by_entry : (o : Option Entry) → find (is_socket id) h.entries ≡ o → ShutsOn h id
    by_entry None at = let refused : shutdown_refusal h id ≡ Some EBADF = rw at in cc
    by_entry (Some e) at =
        let told : shutdown_refusal h id ≡ role_shutdown_refusal e.role = rw at in
        by_role e at e.role refl (sym told ∙ none)
