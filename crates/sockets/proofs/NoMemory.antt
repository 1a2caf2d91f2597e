-- No call but `socket` is refused memory: no case of their answers names it.
use Rattle.std.proofs.Common.{◌≡◌, ◌∙◌, ℕ, ◌==◌, ◌&&◌, ◌||◌, Bool, true, false, not, nat_lt, if◌then◌else◌, List, length, Option, Some, None, Result, Ok, Err, refl, ap}
use Rattle.std.specs.Prelude.{find, option_map}
use Rattle.std.specs.Option.{ok_or}
use Rattle.std.specs.Result.{result_err}
use Rattle.ipv4.specs.Addresses.{same_addr, is_unicast}
use Rattle.ipv4.specs.declared.addr.Endpoint.{Endpoint}
use Rattle.tcp_state.specs.declared.calls.Refusal.{Refusal as ConnectionRefusal}
use Rattle.tcp_state.specs.declared.calls.Refusal.TheVariants as connection_variants
use Rattle.tcp_state.specs.declared.state.State.{State}
use Rattle.tcp_state.specs.Asking.{len_answer, room_answer}
use Rattle.tcp_state.specs.Calls as connection_calls
use Rattle.tcp_state.specs.View.{is_opening}
use Rattle.udp_socket.specs.declared.socket.TheConstants.{MOST_OCTETS}
use Rattle.udp_socket.specs.SocketView.{read_answer}
use Rattle.sockets.specs.declared.calls.TheConstants.{MOST_BACKLOG}
use Rattle.sockets.specs.declared.entry.Entry.{Entry}
use Rattle.sockets.specs.declared.entry.SocketId.{SocketId}
use Rattle.sockets.specs.declared.refusal.Refusal.{Refusal}
use Rattle.sockets.specs.declared.refusal.Refusal.TheVariants.{EBADF, EINVAL, EADDRINUSE, EADDRNOTAVAIL, EALREADY, EISCONN, ENOTCONN, EAGAIN, ENETUNREACH, EDESTADDRREQ, ENOMEM}
use Rattle.sockets.specs.declared.role.Role.{Role}
use Rattle.sockets.specs.declared.role.Role.TheVariants.{Idle, Listener, Connected, Datagrams}
use Rattle.sockets.specs.Calls.{of_socket, answer_at, any_addr, free_port, port_at, port_bound, bind_refusal, listen_refusal, own_end, sockname_answer, peername_answer, is_next_at, accept_answer, refusal_of, of_connection, role_send_answer, role_recv_answer, send_answer, recv_answer, role_shutdown_refusal, role_nodelay_refusal, shutdown_refusal, nodelay_refusal, keepalive_refusal, may_ask_after, close_refusal, state_answer, port_for, reach_refusal, had_connection, open_answer, port_connected, connect_refusal}
use Rattle.sockets.specs.Datagrams.{datagrams_bound, sending_end, end_sent_from, sendto_answer, role_recvfrom_answer, recvfrom_answer}
use Rattle.sockets.specs.Entries.{has_room_to_send, peer_of, shown_state}
use Rattle.sockets.specs.Info.{role_info, info_answer}
use Rattle.sockets.specs.Ready.{ready_of, readiness, role_recv_len, recv_len, role_send_room, send_room}
use Rattle.sockets.specs.Ports.{is_unused_port, is_free_datagram_port}
use Rattle.sockets.specs.SocketsView.{SocketsView, role_of}

-- an answer that doesn't tell want of memory
abbrev Tells : {T : Type 0} → Result T Refusal → Type 0
Tells r = r ≡ Err ENOMEM → ⊥

-- a refusal that isn't for want of memory
abbrev TellsOf : Option Refusal → Type 0
TellsOf o = o ≡ Some ENOMEM → ⊥

-- one of two answers, by a test
of_test : {T : Type 0} (b : Bool) (x y : Result T Refusal) → Tells x → Tells y → Tells (if b then x else y)
of_test true x y first second e = first e
of_test false x y first second e = second e

refused_by_test : (b : Bool) (x y : Option Refusal) → TellsOf x → TellsOf y → TellsOf (if b then x else y)
refused_by_test true x y first second e = first e
refused_by_test false x y first second e = second e

-- a value, or another refusal
of_option : {T : Type 0} (o : Option T) (refusal : Refusal) → (refusal ≡ ENOMEM → ⊥) → Tells (ok_or o refusal)
of_option None refusal other e = let is : refusal ≡ ENOMEM = cc in other is
of_option (Some value) refusal other e = cc

-- what the socket that an id names answers, and what it is refused
of_role : {T : Type 0} (o : Option Role) (answer : Role → Result T Refusal) → ((role : Role) → Tells (answer role)) → Tells (of_socket (Err EBADF) answer o)
of_role None answer each e = cc
of_role (Some role) answer each e = each role e

refused_by_role : (o : Option Role) (refusal : Role → Option Refusal) → ((role : Role) → TellsOf (refusal role)) → TellsOf (of_socket (Some EBADF) refusal o)
refused_by_role None refusal each e = cc
refused_by_role (Some role) refusal each e = each role e

-- a refusal alone
of_refusal : {T : Type 0} (r : Result T Refusal) → Tells r → TellsOf (result_err r)
of_refusal (Ok value) tells e = cc
of_refusal (Err refusal) tells e = let is : refusal ≡ ENOMEM = cc in tells (ap (λ (x : Refusal). Err x) is)

-- what a connection refuses
of_error : (error : ConnectionRefusal) → refusal_of error ≡ ENOMEM → ⊥
of_error connection_variants.ENOTCONN e = cc
of_error connection_variants.EAGAIN e = cc
of_error connection_variants.ECONNREFUSED e = cc
of_error connection_variants.ECONNRESET e = cc
of_error connection_variants.EPIPE e = cc
of_error connection_variants.ETIMEDOUT e = cc

of_answer : {T : Type 0} (r : Result T ConnectionRefusal) → Tells (of_connection r)
of_answer (Ok value) e = cc
of_answer (Err error) e = let is : refusal_of error ≡ ENOMEM = cc in of_error error is

of_shutdown : (o : Option ConnectionRefusal) → TellsOf (option_map refusal_of o)
of_shutdown None e = cc
of_shutdown (Some error) e = let is : refusal_of error ≡ ENOMEM = cc in of_error error is

-- The calls, by what the socket is.

port : (h : SocketsView) (is_free : ℕ → Bool) (local : Endpoint) → Tells (port_at h is_free local)
port h is_free local = of_test (not (same_addr local.addr h.addr) && not (same_addr local.addr any_addr)) (Err EADDRNOTAVAIL) _ (λ e. cc) (of_option (free_port h is_free local.port) EADDRINUSE (λ e. cc))

bound_at : (h : SocketsView) (id : SocketId) (local : Endpoint) (o : Option Role) → role_of h id ≡ o → Tells (port_bound h id local)
bound_at h id local None is = rw is (λ e. cc)
bound_at h id local (Some (Idle buffers None)) is = rw is (port h (is_unused_port h.entries) local)
bound_at h id local (Some (Idle buffers (Some bound))) is = rw is (λ e. cc)
bound_at h id local (Some (Datagrams None socket)) is = rw is (port h (is_free_datagram_port h.entries) local)
bound_at h id local (Some (Datagrams (Some bound) socket)) is = rw is (λ e. cc)
bound_at h id local (Some (Listener bound backlog)) is = rw is (λ e. cc)
bound_at h id local (Some (Connected c listener)) is = rw is (λ e. cc)

pub of_bind : (h : SocketsView) (id : SocketId) (local : Endpoint) → TellsOf (bind_refusal h id local)
of_bind h id local = of_refusal (port_bound h id local) (bound_at h id local (role_of h id) refl)

of_backlog : (backlog : ℕ) (refusal : Option Refusal) → TellsOf refusal → TellsOf (if (backlog == 0) || nat_lt MOST_BACKLOG backlog then Some EINVAL else refusal)
of_backlog backlog refusal tells = refused_by_test ((backlog == 0) || nat_lt MOST_BACKLOG backlog) (Some EINVAL) refusal (λ e. cc) tells

listen_at : (h : SocketsView) (id : SocketId) (backlog : ℕ) (o : Option Role) → role_of h id ≡ o → TellsOf (listen_refusal h id backlog)
listen_at h id backlog None is = rw is (λ e. cc)
listen_at h id backlog (Some (Idle buffers None)) is = rw is (of_backlog backlog (Some EDESTADDRREQ) (λ e. cc))
listen_at h id backlog (Some (Idle buffers (Some bound))) is = rw is (of_backlog backlog None (λ e. cc))
listen_at h id backlog (Some (Listener bound b)) is = rw is (of_backlog backlog (Some EINVAL) (λ e. cc))
listen_at h id backlog (Some (Connected c listener)) is = rw is (of_backlog backlog (Some EINVAL) (λ e. cc))
listen_at h id backlog (Some (Datagrams bound socket)) is = rw is (λ e. cc)

pub of_listen : (h : SocketsView) (id : SocketId) (backlog : ℕ) → TellsOf (listen_refusal h id backlog)
of_listen h id backlog = listen_at h id backlog (role_of h id) refl

accept_entry : (h : SocketsView) (id : SocketId) (local : Endpoint) (backlog : ℕ) (entry : Entry) (peer : Option Endpoint) → role_of h id ≡ Some (Listener local backlog) → find (is_next_at h id) h.entries ≡ Some entry → peer_of entry.role ≡ peer
    → Tells (accept_answer h id)
accept_entry h id local backlog entry None named found is = rw (named, found, is) (λ e. cc)
accept_entry h id local backlog entry (Some peer) named found is = rw (named, found, is) (λ e. cc)

accept_at : (h : SocketsView) (id : SocketId) (o : Option Role) (next : Option Entry) → role_of h id ≡ o → find (is_next_at h id) h.entries ≡ next → Tells (accept_answer h id)
accept_at h id None next named found = rw named (λ e. cc)
accept_at h id (Some (Listener local backlog)) None named found = rw (named, found) (λ e. cc)
accept_at h id (Some (Listener local backlog)) (Some entry) named found = accept_entry h id local backlog entry (peer_of entry.role) named found refl
accept_at h id (Some (Idle buffers bound)) next named found = rw named (λ e. cc)
accept_at h id (Some (Connected c listener)) next named found = rw named (λ e. cc)
accept_at h id (Some (Datagrams bound socket)) next named found = rw named (λ e. cc)

pub of_accept : (h : SocketsView) (id : SocketId) → Tells (accept_answer h id)
of_accept h id = accept_at h id (role_of h id) (find (is_next_at h id) h.entries) refl refl

-- a peer is refused by its address, or for want of a route
reach : (h : SocketsView) (peer : Endpoint) (routed : Bool) → TellsOf (reach_refusal h peer routed)
reach h peer routed = refused_by_test ((peer.port == 0) || not (is_unicast peer.addr) || same_addr peer.addr h.addr) (Some EADDRNOTAVAIL) (if routed then None else Some ENETUNREACH) (λ e. cc)
    (refused_by_test routed None (Some ENETUNREACH) (λ e. cc) (λ e. cc))

had : (state : State) (error : Option ConnectionRefusal) → Tells (had_connection state error)
had state (Some error) e = let is : refusal_of error ≡ ENOMEM = cc in of_error error is
had state None e = of_test (is_opening state) (Err EALREADY) (Err EISCONN) (λ x. cc) (λ x. cc) e

opens : (role : Role) → Tells (open_answer role)
opens (Idle buffers bound) e = cc
opens (Listener local backlog) e = cc
opens (Connected c listener) e = had c.state c.pending_error e
opens (Datagrams bound socket) e = cc

connect_of : (h : SocketsView) (id : SocketId) (peer : Endpoint) (routed : Bool) (role : Role) (start : Result (Option Endpoint) Refusal) (reached : Option Refusal) → role_of h id ≡ Some role → open_answer role ≡ start → reach_refusal h peer routed ≡ reached
    → Tells (port_connected h id peer routed)
connect_of h id peer routed role (Err refusal) reached named starts reaches = rw (named, starts) (λ e. let same : refusal ≡ ENOMEM = cc in opens role (starts ∙ ap (λ (x : Refusal). Err x) same))
connect_of h id peer routed role (Ok bound) (Some refusal) named starts reaches = rw (named, starts, reaches) (λ e. let same : refusal ≡ ENOMEM = cc in reach h peer routed (reaches ∙ ap (λ (x : Refusal). Some x) same))
connect_of h id peer routed role (Ok bound) None named starts reaches = rw (named, starts, reaches) (of_option (port_for h bound peer) EADDRINUSE (λ e. cc))

connect_at : (h : SocketsView) (id : SocketId) (peer : Endpoint) (routed : Bool) (o : Option Role) → role_of h id ≡ o → Tells (port_connected h id peer routed)
connect_at h id peer routed None named = rw named (λ e. cc)
connect_at h id peer routed (Some role) named = connect_of h id peer routed role (open_answer role) (reach_refusal h peer routed) named refl refl

pub of_connect : (h : SocketsView) (id : SocketId) (peer : Endpoint) (routed : Bool) → TellsOf (connect_refusal h id peer routed)
of_connect h id peer routed = of_refusal (port_connected h id peer routed) (connect_at h id peer routed (role_of h id) refl)

-- an answer of what the socket is alone
named_answer : {T : Type 0} (h : SocketsView) (id : SocketId) (answer : Role → Result T Refusal) → ((role : Role) → Tells (answer role)) → Tells (answer_at h id answer)
named_answer h id answer each = of_role (role_of h id) answer each

role_send : (octets : List ℕ) (role : Role) → Tells (role_send_answer role octets)
role_send octets (Idle buffers bound) e = cc
role_send octets (Listener local backlog) e = cc
role_send octets (Connected c listener) e = of_answer (connection_calls.send_answer c octets) e
role_send octets (Datagrams bound socket) e = cc

pub of_send : (h : SocketsView) (id : SocketId) (octets : List ℕ) → Tells (send_answer h id octets)
of_send h id octets = named_answer h id (λ role. role_send_answer role octets) (role_send octets)

role_recv : (len : ℕ) (role : Role) → Tells (role_recv_answer role len)
role_recv len (Idle buffers bound) e = of_test (len == 0) (Err EINVAL) (Err ENOTCONN) (λ x. cc) (λ x. cc) e
role_recv len (Listener local backlog) e = cc
role_recv len (Connected c listener) e = of_test (len == 0) (Err EINVAL) (of_connection (connection_calls.recv_answer c len)) (λ x. cc) (of_answer (connection_calls.recv_answer c len)) e
role_recv len (Datagrams bound socket) e = cc

pub of_recv : (h : SocketsView) (id : SocketId) (len : ℕ) → Tells (recv_answer h id len)
of_recv h id len = named_answer h id (λ role. role_recv_answer role len) (role_recv len)

role_shutdown : (role : Role) → TellsOf (role_shutdown_refusal role)
role_shutdown (Idle buffers bound) e = cc
role_shutdown (Listener local backlog) e = cc
role_shutdown (Connected c listener) e = of_shutdown (connection_calls.shutdown_refusal c) e
role_shutdown (Datagrams bound socket) e = cc

pub of_shutdown_call : (h : SocketsView) (id : SocketId) → TellsOf (shutdown_refusal h id)
of_shutdown_call h id = refused_by_role (role_of h id) role_shutdown_refusal role_shutdown

role_nodelay : (role : Role) → TellsOf (role_nodelay_refusal role)
role_nodelay (Idle buffers bound) e = cc
role_nodelay (Listener local backlog) e = cc
role_nodelay (Connected c listener) e = cc
role_nodelay (Datagrams bound socket) e = cc

pub of_nodelay : (h : SocketsView) (id : SocketId) → TellsOf (nodelay_refusal h id)
of_nodelay h id = refused_by_role (role_of h id) role_nodelay_refusal role_nodelay

role_keepalive : (may : Bool) (role : Role) → TellsOf (if may then role_nodelay_refusal role else Some EINVAL)
role_keepalive true role e = role_nodelay role e
role_keepalive false role e = cc

pub of_keepalive : (h : SocketsView) (id : SocketId) (every : Option ℕ) → TellsOf (keepalive_refusal h id every)
of_keepalive h id every = refused_by_role (role_of h id) _ (role_keepalive (may_ask_after every))

pub of_close : (h : SocketsView) (id : SocketId) → TellsOf (close_refusal h id)
of_close h id = refused_by_role (role_of h id) (λ role. None) (λ role e. cc)

pub of_state : (h : SocketsView) (id : SocketId) → Tells (state_answer h id)
of_state h id = named_answer h id (λ role. Ok (shown_state role)) (λ role e. cc)

pub of_sockname : (h : SocketsView) (id : SocketId) → Tells (sockname_answer h id)
of_sockname h id = named_answer h id (λ role. Ok (own_end role)) (λ role e. cc)

pub of_peername : (h : SocketsView) (id : SocketId) → Tells (peername_answer h id)
of_peername h id = named_answer h id (λ role. ok_or (peer_of role) ENOTCONN) (λ role. of_option (peer_of role) ENOTCONN (λ e. cc))

role_tells : (role : Role) → Tells (role_info role)
role_tells (Connected c listener) e = cc
role_tells (Idle buffers bound) e = cc
role_tells (Listener local backlog) e = cc
role_tells (Datagrams bound socket) e = cc

pub of_info : (h : SocketsView) (id : SocketId) → Tells (info_answer h id)
of_info h id = named_answer h id role_info role_tells

pub of_readiness : (h : SocketsView) (id : SocketId) → Tells (readiness h id)
of_readiness h id = named_answer h id (λ role. Ok (ready_of h id role)) (λ role e. cc)

role_len : (role : Role) → Tells (role_recv_len role)
role_len (Idle buffers bound) e = cc
role_len (Listener local backlog) e = cc
role_len (Connected c listener) e = of_answer (len_answer c) e
role_len (Datagrams bound socket) e = cc

pub of_recv_len : (h : SocketsView) (id : SocketId) → Tells (recv_len h id)
of_recv_len h id = named_answer h id role_recv_len role_len

role_room : (role : Role) → Tells (role_send_room role)
role_room (Idle buffers bound) e = cc
role_room (Listener local backlog) e = cc
role_room (Connected c listener) e = of_answer (room_answer c) e
role_room (Datagrams bound socket) e = cc

pub of_send_room : (h : SocketsView) (id : SocketId) → Tells (send_room h id)
of_send_room h id = named_answer h id role_send_room role_room

role_recvfrom : (len : ℕ) (role : Role) → Tells (role_recvfrom_answer role len)
role_recvfrom len (Datagrams bound socket) e = of_test (len == 0) (Err EINVAL) (ok_or (read_answer socket.inbox len) EAGAIN) (λ x. cc) (of_option (read_answer socket.inbox len) EAGAIN (λ x. cc)) e
role_recvfrom len (Idle buffers bound) e = cc
role_recvfrom len (Listener local backlog) e = cc
role_recvfrom len (Connected c listener) e = cc

pub of_recvfrom : (h : SocketsView) (id : SocketId) (len : ℕ) → Tells (recvfrom_answer h id len)
of_recvfrom h id len = named_answer h id (λ role. role_recvfrom_answer role len) (role_recvfrom len)

datagrams_at : (role : Role) → Tells (datagrams_bound role)
datagrams_at (Datagrams bound socket) e = cc
datagrams_at (Idle buffers bound) e = cc
datagrams_at (Listener local backlog) e = cc
datagrams_at (Connected c listener) e = cc

-- the room for a datagram, once it has an end to go from
roomy : (len : ℕ) (role : Role) (local : Endpoint) → Tells (if has_room_to_send len role then Ok local else Err EAGAIN)
roomy len role local = of_test (has_room_to_send len role) (Ok local) (Err EAGAIN) (λ e. cc) (λ e. cc)

sendto_from : (h : SocketsView) (id : SocketId) (peer : Endpoint) (octets : List ℕ) (routed : Bool) (role : Role) (bound from : Option Endpoint) (reached : Option Refusal) → role_of h id ≡ Some role → datagrams_bound role ≡ Ok bound
    → nat_lt MOST_OCTETS (length octets) ≡ false → reach_refusal h peer routed ≡ reached → sending_end h bound ≡ from → Tells (end_sent_from h id peer octets routed)
sendto_from h id peer octets routed role bound from (Some refusal) named is short reaches sends = rw (named, is, short, reaches) (λ e. let same : refusal ≡ ENOMEM = cc in reach h peer routed (reaches ∙ ap (λ (x : Refusal). Some x) same))
sendto_from h id peer octets routed role bound None None named is short reaches sends = rw (named, is, short, reaches, sends) (λ e. cc)
sendto_from h id peer octets routed role bound (Some local) None named is short reaches sends = rw (named, is, short, reaches, sends) (roomy (length octets) role local)

sendto_of : (h : SocketsView) (id : SocketId) (peer : Endpoint) (octets : List ℕ) (routed : Bool) (role : Role) (start : Result (Option Endpoint) Refusal) (long : Bool) → role_of h id ≡ Some role → datagrams_bound role ≡ start → nat_lt MOST_OCTETS (length octets) ≡ long
    → Tells (end_sent_from h id peer octets routed)
sendto_of h id peer octets routed role (Err refusal) long named is size = rw (named, is) (λ e. let same : refusal ≡ ENOMEM = cc in datagrams_at role (is ∙ ap (λ (x : Refusal). Err x) same))
sendto_of h id peer octets routed role (Ok bound) true named is size = rw (named, is, size) (λ e. cc)
sendto_of h id peer octets routed role (Ok bound) false named is size = sendto_from h id peer octets routed role bound (sending_end h bound) (reach_refusal h peer routed) named is size refl refl

sendto_at : (h : SocketsView) (id : SocketId) (peer : Endpoint) (octets : List ℕ) (routed : Bool) (o : Option Role) → role_of h id ≡ o → Tells (end_sent_from h id peer octets routed)
sendto_at h id peer octets routed None named = rw named (λ e. cc)
sendto_at h id peer octets routed (Some role) named = sendto_of h id peer octets routed role (datagrams_bound role) (nat_lt MOST_OCTETS (length octets)) named refl refl

sent_of : (h : SocketsView) (id : SocketId) (peer : Endpoint) (octets : List ℕ) (routed : Bool) (r : Result Endpoint Refusal) → end_sent_from h id peer octets routed ≡ r → Tells r → Tells (sendto_answer h id peer octets routed)
sent_of h id peer octets routed (Ok local) is tells = rw is (λ e. cc)
sent_of h id peer octets routed (Err refusal) is tells = rw is (λ e. let same : refusal ≡ ENOMEM = cc in tells (ap (λ (x : Refusal). Err x) same))

pub of_sendto : (h : SocketsView) (id : SocketId) (peer : Endpoint) (octets : List ℕ) (routed : Bool) → Tells (sendto_answer h id peer octets routed)
of_sendto h id peer octets routed = sent_of h id peer octets routed (end_sent_from h id peer octets routed) refl (sendto_at h id peer octets routed (role_of h id) refl)
