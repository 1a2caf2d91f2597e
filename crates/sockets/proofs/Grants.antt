-- What a socket's call comes to where nothing stands against it.
use Rattle.std.proofs.Common.{◌≡◌, ◌≢◌, ◌↔◌, inl, inr, ◌⊎◌, ℕ, zero, suc, ◌==◌, ◌&&◌, ◌||◌, ◌≤◌, ◌<◌, nat_lt, not, min, Bool, true, false, if◌then◌else◌, List, length, Option, Some, None, is_some, option_map, Result, Ok, Err, refl, sym, ◌∙◌, ap, subst, arith}
use Rattle.std.specs.List.{find}
use Rattle.std.specs.Option.{ok_or}
use Rattle.std.specs.Result.{result_err}
use Rattle.std.proofs.lemmas.Bool.{eqb-true, and_from}
use Rattle.std.proofs.lemmas.Bool.Decides.{leb_tells}
use Rattle.ipv4.specs.declared.addr.Endpoint.{Endpoint}
use Rattle.ipv4.specs.Addresses.{is_unicast, same_addr}
use Rattle.tcp_halves.specs.declared.buffers.Buffers.{Buffers}
use Rattle.tcp_halves.specs.declared.buffers.Manner.{Manner}
use Rattle.tcp_halves.proofs.Choices.{and_left, and_right}
use Rattle.tcp_state.specs.Calls.{after_set_nodelay}
use Rattle.tcp_state.specs.View.{View, is_syn_received, is_time_wait}
use Rattle.tcp_state.specs.declared.state.State.TheVariants.{TimeWait}
use Rattle.tcp_state.proofs.ToldOfIt.{received, waits}
use Rattle.clock.specs.declared.moment.Moment.{Moment}
use Rattle.udp_socket.specs.declared.socket.TheConstants.{MOST_OCTETS}
use Rattle.udp_socket.specs.SocketView.{SocketView}
use Rattle.sockets.specs.declared.entry.Entry.{Entry}
use Rattle.sockets.specs.declared.entry.SocketId.{SocketId}
use Rattle.sockets.specs.declared.refusal.Refusal.{Refusal}
use Rattle.sockets.specs.declared.refusal.Refusal.TheVariants.{EAGAIN, EADDRINUSE, EADDRNOTAVAIL, EBADF, EDESTADDRREQ, EINVAL, EMSGSIZE, ENETUNREACH, EOPNOTSUPP}
use Rattle.sockets.specs.declared.role.Role.{Role}
use Rattle.sockets.specs.declared.role.Role.TheVariants.{Idle, Listener, Connected, Datagrams}
use Rattle.sockets.specs.declared.calls.TheConstants.{MOST_BACKLOG}
use Rattle.sockets.specs.Calls.{of_socket, open_answer, own_end, reach_refusal, is_pair_held, port_for, port_connected, connect_refusal, port_at, free_port, any_addr, port_bound, bind_refusal, listen_refusal, after_bind, last_port_bound, sockname_answer, after_nodelay}
use Rattle.sockets.specs.Datagrams.{sendto_answer, sending_end}
use Rattle.sockets.specs.Entries.{has_room_to_send, has_socket, is_socket, is_pending, is_half_open, with_role, role_after_bind, role_after_nodelay}
use Rattle.sockets.specs.GiveWay.{may_give_way, left_since}
use Rattle.sockets.specs.Granted.{HasPort, MayConnect, MayBeAt, MayBind, MayListen, MaySendTo, MayBeGiven}
use Rattle.sockets.specs.Ids.{AreAscending}
use Rattle.sockets.specs.Lists.{change_first}
use Rattle.sockets.specs.Order.{IsOrdered}
use Rattle.sockets.specs.Ports.{IsDynamic, first_port, is_free_port, is_unused_port, is_free_datagram_port}
use Rattle.sockets.specs.SocketsView.{SocketsView, role_of, with_socket, room_of}
use Rattle.sockets.proofs.Bound.{bind-given, port-allowed}
use Rattle.sockets.proofs.ByIds.{changed_found}
use Rattle.sockets.proofs.Connected.{IsConnecting, connecting, had_opens_none, some_from_ok}
use Rattle.sockets.proofs.FirstPorts.{given_passes, given_dynamic, none_dynamic}
use Rattle.sockets.proofs.FirstReady.{same_id}
use Rattle.sockets.proofs.Followed.{by_test}
use Rattle.sockets.proofs.Opened.{found_passes}
use Rattle.sockets.proofs.Telling.{role_found}

-- `connect`.

record Reaches (h : SocketsView) (peer : Endpoint) (routed : Bool) : Type 0 where
  port : peer.port ≢ 0
  single : is_unicast peer.addr ≡ true
  another : same_addr peer.addr h.addr ≡ false
  way : routed ≡ true

reaches : (h : SocketsView) (peer : Endpoint) (routed : Bool) → reach_refusal h peer routed ≡ None → Reaches h peer routed
reaches h peer routed = by_tests (peer.port == 0) (is_unicast peer.addr) (same_addr peer.addr h.addr) routed refl refl refl refl
  where
    zero_told : peer.port ≡ 0 → (peer.port == 0) ≡ true
    zero_told none = ap (λ n. n == 0) none

    by_tests : (a b c d : Bool) → (peer.port == 0) ≡ a → is_unicast peer.addr ≡ b → same_addr peer.addr h.addr ≡ c → routed ≡ d → (if a || not b || c then Some EADDRNOTAVAIL else if d then None else Some ENETUNREACH) ≡ None → Reaches h peer routed
    by_tests true b c d at single same way none = cc
    by_tests false false c d at single same way none = cc
    by_tests false true true d at single same way none = cc
    by_tests false true false false at single same way none = cc
    by_tests false true false true at single same way none = record { port = λ zero. let bad : false ≡ true = sym at ∙ zero_told zero in cc; single = single; another = same; way = way }

reached : (h : SocketsView) (peer : Endpoint) (routed : Bool) → Reaches h peer routed → reach_refusal h peer routed ≡ None
reached h peer routed r =
    let some : (peer.port == 0) ≡ false = by_test (peer.port == 0) (λ zero. absurd (r.port (eqb-true peer.port 0 zero))) (λ no. no) in
    rw (some, r.single, r.another, r.way) refl

has_port : (h : SocketsView) (bound : Option Endpoint) (peer : Endpoint) (port : ℕ) → port_for h bound peer ≡ Some port → HasPort h bound peer
has_port h (Some local) peer port given = by_test (is_pair_held h local.port peer) (λ held. let none : port_for h (Some local) peer ≡ None = rw held refl in let bad : None ≡ Some port = sym none ∙ given in cc) (λ free. free)
has_port h None peer port given = (port, given_dynamic (is_free_port h.entries h.addr peer) h.last_port 0 16384 port given, given_passes (is_free_port h.entries h.addr peer) h.last_port 0 16384 port given)

finds_port : (h : SocketsView) (bound : Option Endpoint) (peer : Endpoint) → IsDynamic h.last_port → HasPort h bound peer → (port : ℕ) × (port_for h bound peer ≡ Some port)
finds_port h (Some local) peer dynamic free = (local.port, rw free refl)
finds_port h None peer dynamic (port, is_dynamic, free) = by_first (first_port (is_free_port h.entries h.addr peer) h.last_port 0 16384) refl
  where
    by_first : (o : Option ℕ) → first_port (is_free_port h.entries h.addr peer) h.last_port 0 16384 ≡ o → (p : ℕ) × (port_for h None peer ≡ Some p)
    by_first (Some p) is = (p, is)
    by_first None is = let bad : true ≡ false = sym free ∙ none_dynamic (is_free_port h.entries h.addr peer) h.last_port dynamic is port is_dynamic in cc

pub connect_granted : (h : SocketsView) (id : SocketId) (peer : Endpoint) (routed : Bool) → IsOrdered h → (connect_refusal h id peer routed ≡ None) ↔ MayConnect h id peer routed
connect_granted h id peer routed ordered = (to, from)
  where
    of_role : (role : Role) (bound : Option Endpoint) → role_of h id ≡ Some role → open_answer role ≡ Ok bound → Reaches h peer routed → HasPort h bound peer → MayConnect h id peer routed
    of_role (Idle buffers local) bound is opens r free =
        let same : local ≡ bound = cc in
        record { buffers = buffers; bound = local; idle = is; port = r.port; single = r.single; another = r.another; way = r.way; free = subst (λ b. HasPort h b peer) (sym same) free }
    of_role (Listener local backlog) bound is opens r free = cc
    of_role (Connected c listener) bound is opens r free = absurd (had_opens_none c.state c.pending_error bound opens)
    of_role (Datagrams local socket) bound is opens r free = cc

    to : connect_refusal h id peer routed ≡ None → MayConnect h id peer routed
    to none =
        let given = port-allowed (port_connected h id peer routed) none in
        let c = connecting h id peer routed given.0 given.1 in
        of_role c.role c.bound c.is c.opens (reaches h peer routed c.reached) (has_port h c.bound peer given.0 c.given)

    from : MayConnect h id peer routed → connect_refusal h id peer routed ≡ None
    from m =
        let reach = reached h peer routed (record { port = m.port; single = m.single; another = m.another; way = m.way }) in
        let port = finds_port h m.bound peer ordered.last_port m.free in
        rw (m.idle, reach, port.1) refl

-- `bind`.

at_addr : (own any : Bool) → (not own && not any) ≡ false → (own ≡ true) ⊎ (any ≡ true)
at_addr true any e = inl refl
at_addr false true e = inr refl
at_addr false false e = cc

not_apart : (own any : Bool) → (own ≡ true) ⊎ (any ≡ true) → (not own && not any) ≡ false
not_apart true any e = refl
not_apart false true e = refl
not_apart false false (inl e) = cc
not_apart false false (inr e) = cc

may_be_at : (h : SocketsView) (is_free : ℕ → Bool) (local : Endpoint) (port : ℕ) → port_at h is_free local ≡ Ok port → MayBeAt h is_free local
may_be_at h is_free local port given =
    by_test (not (same_addr local.addr h.addr) && not (same_addr local.addr any_addr))
    (λ apart. let refused : port_at h is_free local ≡ Err EADDRNOTAVAIL = rw apart in cc)
    (λ ours.
    let told : ok_or (free_port h is_free local.port) EADDRINUSE ≡ port_at h is_free local = rw ours in
    let free : free_port h is_free local.port ≡ Some port = some_from_ok (free_port h is_free local.port) EADDRINUSE port (sym (told ∙ given)) in
    record {
      addr = at_addr (same_addr local.addr h.addr) (same_addr local.addr any_addr) ours;
      free = by_test (local.port == 0)
          (λ zero.
          let first : first_port is_free h.last_port 0 16384 ≡ free_port h is_free local.port = rw zero in
          inr (eqb-true local.port 0 zero, (port, given_dynamic is_free h.last_port 0 16384 port (first ∙ free), given_passes is_free h.last_port 0 16384 port (first ∙ free))))
          (λ one.
          let tested : (if is_free local.port then Some local.port else None) ≡ free_port h is_free local.port = rw one in
          by_test (is_free local.port)
          (λ passes. inl (λ none. let bad : false ≡ true = sym one ∙ ap (λ n. n == 0) none in cc, passes))
          (λ fails. let none : None ≡ Some port = sym (ap (λ b. if b then Some local.port else None) fails) ∙ (tested ∙ free) in cc));
    })

is_at : (h : SocketsView) (is_free : ℕ → Bool) (local : Endpoint) → IsDynamic h.last_port → MayBeAt h is_free local → (port : ℕ) × (port_at h is_free local ≡ Ok port)
is_at h is_free local dynamic m =
    let ours = not_apart (same_addr local.addr h.addr) (same_addr local.addr any_addr) m.addr in
    elim m.free [
      | inl one ↦
          let some : (local.port == 0) ≡ false = by_test (local.port == 0) (λ zero. absurd (one.0 (eqb-true local.port 0 zero))) (λ no. no) in
          (local.port, rw (ours, some, one.1) refl)
      | inr chosen ↦
          let none : (local.port == 0) ≡ true = ap (λ n. n == 0) chosen.0 in
          let found = by_first (first_port is_free h.last_port 0 16384) refl chosen.1 in
          taken none ours found.0 found.1
    ]
  where
    taken : (local.port == 0) ≡ true → (not (same_addr local.addr h.addr) && not (same_addr local.addr any_addr)) ≡ false → (p : ℕ) → first_port is_free h.last_port 0 16384 ≡ Some p → (port : ℕ) × (port_at h is_free local ≡ Ok port)
    taken none ours p first = (p, rw (ours, none, first) refl)

    by_first : (o : Option ℕ) → first_port is_free h.last_port 0 16384 ≡ o → (port : ℕ) × IsDynamic port × (is_free port ≡ true) → (p : ℕ) × (first_port is_free h.last_port 0 16384 ≡ Some p)
    by_first (Some p) is free = (p, is)
    by_first None is (port, is_dynamic, free) = let bad : true ≡ false = sym free ∙ none_dynamic is_free h.last_port dynamic is port is_dynamic in cc

pub bind_granted : (h : SocketsView) (id : SocketId) (local : Endpoint) → IsOrdered h → (bind_refusal h id local ≡ None) ↔ MayBind h id local
bind_granted h id local ordered = (λ none. to (port-allowed (port_bound h id local) none) (role_of h id) refl, from)
  where
    to : (port : ℕ) × (port_bound h id local ≡ Ok port) → (o : Option Role) → role_of h id ≡ o → MayBind h id local
    to given None is = let refused : port_bound h id local ≡ Err EBADF = rw is in let bad : Err EBADF ≡ Ok given.0 = sym refused ∙ given.1 in cc
    to given (Some (Idle buffers None)) is =
        let at : port_bound h id local ≡ port_at h (is_unused_port h.entries) local = rw is in
        inl (buffers, is, may_be_at h (is_unused_port h.entries) local given.0 (sym at ∙ given.1))
    to given (Some (Idle buffers (Some other))) is = let refused : port_bound h id local ≡ Err EINVAL = rw is in let bad : Err EINVAL ≡ Ok given.0 = sym refused ∙ given.1 in cc
    to given (Some (Datagrams None socket)) is =
        let at : port_bound h id local ≡ port_at h (is_free_datagram_port h.entries) local = rw is in
        inr (socket, is, may_be_at h (is_free_datagram_port h.entries) local given.0 (sym at ∙ given.1))
    to given (Some (Datagrams (Some other) socket)) is = let refused : port_bound h id local ≡ Err EINVAL = rw is in let bad : Err EINVAL ≡ Ok given.0 = sym refused ∙ given.1 in cc
    to given (Some (Listener other backlog)) is = let refused : port_bound h id local ≡ Err EINVAL = rw is in let bad : Err EINVAL ≡ Ok given.0 = sym refused ∙ given.1 in cc
    to given (Some (Connected c listener)) is = let refused : port_bound h id local ≡ Err EINVAL = rw is in let bad : Err EINVAL ≡ Ok given.0 = sym refused ∙ given.1 in cc

    from : MayBind h id local → bind_refusal h id local ≡ None
    from (inl (buffers, is, m)) = let port = is_at h (is_unused_port h.entries) local ordered.last_port m in rw (is, port.1) refl
    from (inr (socket, is, m)) = let port = is_at h (is_free_datagram_port h.entries) local ordered.last_port m in rw (is, port.1) refl

-- `listen`.

backlog_told : (backlog : ℕ) → ((backlog == 0) || nat_lt MOST_BACKLOG backlog) ≡ false → (1 ≤ backlog) × (backlog ≤ 8)
backlog_told backlog e =
    by_test (backlog == 0)
    (λ zero. let bad : true ≡ false = sym (ap (λ b. b || nat_lt MOST_BACKLOG backlog) zero) ∙ e in cc)
    (λ some.
    let few : nat_lt MOST_BACKLOG backlog ≡ false = sym (ap (λ b. b || nat_lt MOST_BACKLOG backlog) some) ∙ e in
    let most : backlog < 9 = elim (leb_tells 9 backlog) [ inl over ↦ let bad : true ≡ false = sym over.0 ∙ few in cc | inr under ↦ under.1 ] in
    let one : backlog ≢ 0 = λ none. let bad : false ≡ true = sym some ∙ ap (λ n. n == 0) none in cc in
    (positive backlog one, below most))
  where
    positive : (n : ℕ) → n ≢ 0 → 1 ≤ n
    positive zero some = absurd (some refl)
    positive (suc n) some = omega arith

    below : {n : ℕ} → n < 9 → n ≤ 8
    below less = omega (arith, less)

backlog_taken : (backlog : ℕ) → 1 ≤ backlog → backlog ≤ 8 → ((backlog == 0) || nat_lt MOST_BACKLOG backlog) ≡ false
backlog_taken backlog some few =
    let one : (backlog == 0) ≡ false = by_test (backlog == 0) (λ none. absurd (let zero = eqb-true backlog 0 none in omega (arith, zero, some))) (λ no. no) in
    let most : nat_lt MOST_BACKLOG backlog ≡ false = elim (leb_tells 9 backlog) [ inl over ↦ absurd (let more = over.1 in omega (arith, more, few)) | inr under ↦ under.0 ] in
    rw (one, most) refl

pub listen_granted : (h : SocketsView) (id : SocketId) (backlog : ℕ) → (listen_refusal h id backlog ≡ None) ↔ MayListen h id backlog
listen_granted h id backlog = (to (role_of h id) refl, from)
  where
    tells : (refusal : Option Refusal) → (if (backlog == 0) || nat_lt MOST_BACKLOG backlog then Some EINVAL else refusal) ≡ None → (refusal ≡ None) × ((backlog == 0) || nat_lt MOST_BACKLOG backlog) ≡ false
    tells refusal none = by_test ((backlog == 0) || nat_lt MOST_BACKLOG backlog)
        (λ bad. let some : Some EINVAL ≡ None = sym (ap (λ b. if b then Some EINVAL else refusal) bad) ∙ none in cc)
        (λ fine. (sym (ap (λ b. if b then Some EINVAL else refusal) fine) ∙ none, fine))

    to : (o : Option Role) → role_of h id ≡ o → listen_refusal h id backlog ≡ None → MayListen h id backlog
    to None is none = let refused : listen_refusal h id backlog ≡ Some EBADF = rw is in cc
    to (Some (Idle buffers (Some bound))) is none =
        let at : listen_refusal h id backlog ≡ (if (backlog == 0) || nat_lt MOST_BACKLOG backlog then Some EINVAL else None) = rw is in
        let t = backlog_told backlog (tells None (sym at ∙ none)).1 in
        record { buffers = buffers; bound = bound; idle = is; some = t.0; few = t.1 }
    to (Some (Idle buffers None)) is none =
        let at : listen_refusal h id backlog ≡ (if (backlog == 0) || nat_lt MOST_BACKLOG backlog then Some EINVAL else Some EDESTADDRREQ) = rw is in
        let bad = (tells (Some EDESTADDRREQ) (sym at ∙ none)).0 in cc
    to (Some (Listener bound b)) is none =
        let at : listen_refusal h id backlog ≡ (if (backlog == 0) || nat_lt MOST_BACKLOG backlog then Some EINVAL else Some EINVAL) = rw is in
        let bad = (tells (Some EINVAL) (sym at ∙ none)).0 in cc
    to (Some (Connected c listener)) is none =
        let at : listen_refusal h id backlog ≡ (if (backlog == 0) || nat_lt MOST_BACKLOG backlog then Some EINVAL else Some EINVAL) = rw is in
        let bad = (tells (Some EINVAL) (sym at ∙ none)).0 in cc
    to (Some (Datagrams bound socket)) is none = let refused : listen_refusal h id backlog ≡ Some EOPNOTSUPP = rw is in cc

    from : MayListen h id backlog → listen_refusal h id backlog ≡ None
    from m = rw (m.idle, backlog_taken backlog m.some m.few) refl

-- what a change of a socket's role leaves under its id
changed_role : (h : SocketsView) (id : SocketId) (change : Role → Role) (role : Role) → AreAscending 0 h.last_id h.entries → role_of h id ≡ Some role → has_socket (change role) ≡ true → role_of (with_socket h id change) id ≡ Some (change role)
changed_role h id change role ids is stays =
    let x = role_found h id role is in
    let e : Entry = x.0 in
    let named : (e.id.0 == id.0) ≡ true = and_left (e.id.0 == id.0) (has_socket e.role) (found_passes (is_socket id) h.entries e x.1) in
    let at : e.id ≡ id = same_id e.id id (eqb-true e.id.0 id.0 named) in
    let socket : has_socket (change e.role) ≡ true = ap (λ r. has_socket (change r)) x.2 ∙ stays in
    let names : is_socket e.id (with_role change e) ≡ true = and_from (e.id.0 == e.id.0) (has_socket (change e.role)) (ap (λ (i : SocketId). e.id.0 == i.0) at ∙ named) socket in
    let found : find (is_socket e.id) (change_first (is_socket id) (with_role change) h.entries) ≡ Some (with_role change e) = changed_found (is_socket id) (with_role change) 0 h.last_id h.entries e ids x.1 names in
    ap (λ (i : SocketId). option_map (λ (y : Entry). y.role) (find (is_socket i) (change_first (is_socket id) (with_role change) h.entries))) (sym at)
    ∙ (ap (option_map (λ (y : Entry). y.role)) found ∙ ap (λ r. Some (change r)) x.2)

-- the port asked for, or one in place of port 0
asked : (h : SocketsView) (is_free : ℕ → Bool) (local : Endpoint) (port : ℕ) → port_at h is_free local ≡ Ok port → local.port ≢ 0 → port ≡ local.port
asked h is_free local port given some =
    by_test (not (same_addr local.addr h.addr) && not (same_addr local.addr any_addr))
    (λ apart. let refused : port_at h is_free local ≡ Err EADDRNOTAVAIL = rw apart in cc)
    (λ ours.
    let told : ok_or (free_port h is_free local.port) EADDRINUSE ≡ port_at h is_free local = rw ours in
    let free : free_port h is_free local.port ≡ Some port = some_from_ok (free_port h is_free local.port) EADDRINUSE port (sym (told ∙ given)) in
    by_test (local.port == 0)
    (λ zero. absurd (some (eqb-true local.port 0 zero)))
    (λ one.
    let tested : (if is_free local.port then Some local.port else None) ≡ free_port h is_free local.port = rw one in
    by_test (is_free local.port)
    (λ passes. let same : Some local.port ≡ Some port = sym (ap (λ b. if b then Some local.port else None) passes) ∙ (tested ∙ free) in cc)
    (λ fails. let none : None ≡ Some port = sym (ap (λ b. if b then Some local.port else None) fails) ∙ (tested ∙ free) in cc)))

pub bind_kept : (h : SocketsView) (id : SocketId) (local : Endpoint) → IsOrdered h → bind_refusal h id local ≡ None
    → (port : ℕ) × (sockname_answer (after_bind h id local) id ≡ Ok (record { addr = local.addr; port = port })) × (local.port ≢ 0 → port ≡ local.port)
bind_kept h id local ordered taken = by_role (role_of h id) refl
  where
    given : (port : ℕ) × (port_bound h id local ≡ Ok port)
    given = port-allowed (port_bound h id local) taken

    bound : Endpoint
    bound = record { addr = local.addr; port = given.0 }

    change : Role → Role
    change = role_after_bind bound

    h' : SocketsView
    h' = record h { last_port = last_port_bound h local given.0 }

    named : (role : Role) → role_of h id ≡ Some role → has_socket (change role) ≡ true → own_end (change role) ≡ bound → sockname_answer (after_bind h id local) id ≡ Ok bound
    named role is socket own =
        ap (λ (t : SocketsView). sockname_answer t id) (bind-given h id local given.0 given.1)
        ∙ (ap (of_socket (Err EBADF) (λ r. Ok (own_end r))) (changed_role h' id change role ordered.ids is socket)
        ∙ ap Ok own)

    by_role : (o : Option Role) → role_of h id ≡ o → (port : ℕ) × (sockname_answer (after_bind h id local) id ≡ Ok (record { addr = local.addr; port = port })) × (local.port ≢ 0 → port ≡ local.port)
    by_role None is = let refused : port_bound h id local ≡ Err EBADF = rw is in let bad : Err EBADF ≡ Ok given.0 = sym refused ∙ given.1 in cc
    by_role (Some (Idle buffers None)) is =
        let at : port_bound h id local ≡ port_at h (is_unused_port h.entries) local = rw is in
        (given.0, named (Idle buffers None) is refl refl, asked h (is_unused_port h.entries) local given.0 (sym at ∙ given.1))
    by_role (Some (Idle buffers (Some other))) is = let refused : port_bound h id local ≡ Err EINVAL = rw is in let bad : Err EINVAL ≡ Ok given.0 = sym refused ∙ given.1 in cc
    by_role (Some (Datagrams None socket)) is =
        let at : port_bound h id local ≡ port_at h (is_free_datagram_port h.entries) local = rw is in
        (given.0, named (Datagrams None socket) is refl refl, asked h (is_free_datagram_port h.entries) local given.0 (sym at ∙ given.1))
    by_role (Some (Datagrams (Some other) socket)) is = let refused : port_bound h id local ≡ Err EINVAL = rw is in let bad : Err EINVAL ≡ Ok given.0 = sym refused ∙ given.1 in cc
    by_role (Some (Listener other backlog)) is = let refused : port_bound h id local ≡ Err EINVAL = rw is in let bad : Err EINVAL ≡ Ok given.0 = sym refused ∙ given.1 in cc
    by_role (Some (Connected c listener)) is = let refused : port_bound h id local ≡ Err EINVAL = rw is in let bad : Err EINVAL ≡ Ok given.0 = sym refused ∙ given.1 in cc

-- `sendto`.

few_octets : (n : ℕ) → nat_lt MOST_OCTETS n ≡ false → n ≤ 65507
few_octets n few = elim (leb_tells 65508 n) [ inl over ↦ let bad : true ≡ false = sym over.0 ∙ few in cc | inr under ↦ (let less = under.1 in omega (arith, less)) ]

few_told : (n : ℕ) → n ≤ 65507 → nat_lt MOST_OCTETS n ≡ false
few_told n few = elim (leb_tells 65508 n) [ inl over ↦ absurd (let more = over.1 in omega (arith, more, few)) | inr under ↦ under.0 ]

pub datagram_granted : (h : SocketsView) (id : SocketId) (peer : Endpoint) (octets : List ℕ) (routed : Bool) → IsOrdered h → (sendto_answer h id peer octets routed ≡ Ok (length octets)) ↔ MaySendTo h id peer octets routed
datagram_granted h id peer octets routed ordered = (by_role (role_of h id) refl, back)
  where
    sends_from : (bound : Option Endpoint) (local : Endpoint) → sending_end h bound ≡ Some local → (is_some bound ≡ true) ⊎ ((port : ℕ) × IsDynamic port × (is_free_datagram_port h.entries port ≡ true))
    sends_from (Some b) local at = inl refl
    sends_from None local at = inr (by_first (first_port (is_free_datagram_port h.entries) h.last_port 0 16384) refl at)
      where
        by_first : (o : Option ℕ) → first_port (is_free_datagram_port h.entries) h.last_port 0 16384 ≡ o → option_map (λ (port : ℕ). let e : Endpoint = record { addr = h.addr; port = port } in e) o ≡ Some local
            → (port : ℕ) × IsDynamic port × (is_free_datagram_port h.entries port ≡ true)
        by_first None is at = cc
        by_first (Some port) is at = (port, given_dynamic (is_free_datagram_port h.entries) h.last_port 0 16384 port is, given_passes (is_free_datagram_port h.entries) h.last_port 0 16384 port is)

    found_end : (bound : Option Endpoint) → (is_some bound ≡ true) ⊎ ((port : ℕ) × IsDynamic port × (is_free_datagram_port h.entries port ≡ true)) → (local : Endpoint) × (sending_end h bound ≡ Some local)
    found_end (Some b) from = (b, refl)
    found_end None (inl bad) = cc
    found_end None (inr free) = by_first (first_port (is_free_datagram_port h.entries) h.last_port 0 16384) refl
      where
        by_first : (o : Option ℕ) → first_port (is_free_datagram_port h.entries) h.last_port 0 16384 ≡ o → (local : Endpoint) × (sending_end h None ≡ Some local)
        by_first (Some port) is = (record { addr = h.addr; port = port }, ap (option_map (λ (p : ℕ). let e : Endpoint = record { addr = h.addr; port = p } in e)) is)
        by_first None is = let bad : true ≡ false = sym free.2 ∙ none_dynamic (is_free_datagram_port h.entries) h.last_port ordered.last_port is free.0 free.1 in cc

    by_room : (bound : Option Endpoint) (socket : SocketView) (local : Endpoint) → role_of h id ≡ Some (Datagrams bound socket) → nat_lt MOST_OCTETS (length octets) ≡ false → reach_refusal h peer routed ≡ None → sending_end h bound ≡ Some local
        → (b : Bool) → has_room_to_send (length octets) (Datagrams bound socket) ≡ b → sendto_answer h id peer octets routed ≡ Ok (length octets) → MaySendTo h id peer octets routed
    by_room bound socket local is few reach at true room told =
        let r = reaches h peer routed reach in
        record { bound = bound; socket = socket; is = is; few = few_octets (length octets) few; port = r.port; single = r.single; another = r.another; way = r.way; from = sends_from bound local at; room = room }
    by_room bound socket local is few reach at false room told = let refused : sendto_answer h id peer octets routed ≡ Err EAGAIN = rw (is, few, reach, at, room) in let bad : Err EAGAIN ≡ Ok (length octets) = sym refused ∙ told in cc

    by_end : (bound : Option Endpoint) (socket : SocketView) → role_of h id ≡ Some (Datagrams bound socket) → nat_lt MOST_OCTETS (length octets) ≡ false → reach_refusal h peer routed ≡ None → (o : Option Endpoint) → sending_end h bound ≡ o
        → sendto_answer h id peer octets routed ≡ Ok (length octets) → MaySendTo h id peer octets routed
    by_end bound socket is few reach (Some local) at told = by_room bound socket local is few reach at (has_room_to_send (length octets) (Datagrams bound socket)) refl told
    by_end bound socket is few reach None at told = let refused : sendto_answer h id peer octets routed ≡ Err EADDRINUSE = rw (is, few, reach, at) in let bad : Err EADDRINUSE ≡ Ok (length octets) = sym refused ∙ told in cc

    by_reach : (bound : Option Endpoint) (socket : SocketView) → role_of h id ≡ Some (Datagrams bound socket) → nat_lt MOST_OCTETS (length octets) ≡ false → (o : Option Refusal) → reach_refusal h peer routed ≡ o
        → sendto_answer h id peer octets routed ≡ Ok (length octets) → MaySendTo h id peer octets routed
    by_reach bound socket is few None reach told = by_end bound socket is few reach (sending_end h bound) refl told
    by_reach bound socket is few (Some refusal) reach told = let refused : sendto_answer h id peer octets routed ≡ Err refusal = rw (is, few, reach) in let bad : Err refusal ≡ Ok (length octets) = sym refused ∙ told in cc

    by_length : (bound : Option Endpoint) (socket : SocketView) → role_of h id ≡ Some (Datagrams bound socket) → (b : Bool) → nat_lt MOST_OCTETS (length octets) ≡ b → sendto_answer h id peer octets routed ≡ Ok (length octets) → MaySendTo h id peer octets routed
    by_length bound socket is false few told = by_reach bound socket is few (reach_refusal h peer routed) refl told
    by_length bound socket is true many told = let refused : sendto_answer h id peer octets routed ≡ Err EMSGSIZE = rw (is, many) in let bad : Err EMSGSIZE ≡ Ok (length octets) = sym refused ∙ told in cc

    by_role : (o : Option Role) → role_of h id ≡ o → sendto_answer h id peer octets routed ≡ Ok (length octets) → MaySendTo h id peer octets routed
    by_role None is told = let refused : sendto_answer h id peer octets routed ≡ Err EBADF = rw is in let bad : Err EBADF ≡ Ok (length octets) = sym refused ∙ told in cc
    by_role (Some (Datagrams bound socket)) is told = by_length bound socket is (nat_lt MOST_OCTETS (length octets)) refl told
    by_role (Some (Idle buffers bound)) is told = let refused : sendto_answer h id peer octets routed ≡ Err EOPNOTSUPP = rw is in let bad : Err EOPNOTSUPP ≡ Ok (length octets) = sym refused ∙ told in cc
    by_role (Some (Listener local backlog)) is told = let refused : sendto_answer h id peer octets routed ≡ Err EOPNOTSUPP = rw is in let bad : Err EOPNOTSUPP ≡ Ok (length octets) = sym refused ∙ told in cc
    by_role (Some (Connected c listener)) is told = let refused : sendto_answer h id peer octets routed ≡ Err EOPNOTSUPP = rw is in let bad : Err EOPNOTSUPP ≡ Ok (length octets) = sym refused ∙ told in cc

    back : MaySendTo h id peer octets routed → sendto_answer h id peer octets routed ≡ Ok (length octets)
    back m =
        let reach = reached h peer routed (record { port = m.port; single = m.single; another = m.another; way = m.way }) in
        let few = few_told (length octets) m.few in
        let local = found_end m.bound m.from in
        rw (m.is, few, reach, local.1, m.room) refl

-- TCP_NODELAY.

pub no_delay_set : (h : SocketsView) (id : SocketId) (on : Bool) (c : View) (listener : Option SocketId) → IsOrdered h → role_of h id ≡ Some (Connected c listener)
    → (d : View) × (role_of (after_nodelay h id on) id ≡ Some (Connected d listener)) × (d.nodelay ≡ on)
no_delay_set h id on c listener ordered is =
    let x = role_found h id (Connected c listener) is in
    let e : Entry = x.0 in
    let socket : has_socket (Connected c listener) ≡ true = ap has_socket (sym x.2) ∙ and_right (e.id.0 == id.0) (has_socket e.role) (found_passes (is_socket id) h.entries e x.1) in
    (after_set_nodelay c on h.kept, changed_role h id (role_after_nodelay on h.kept) (Connected c listener) ordered.ids is (still listener socket), refl)
  where
    still : (l : Option SocketId) → has_socket (Connected c l) ≡ true → has_socket (Connected (after_set_nodelay c on h.kept) l) ≡ true
    still None socket = socket
    still (Some l) socket = socket

-- Buffers.

pub scaled_room : (buffer : ℕ) (manner : Manner) → manner.scales ≡ true → (room_of buffer manner).capacity ≡ buffer
scaled_room buffer manner scales = rw scales refl

pub plain_room : (buffer : ℕ) (manner : Manner) → manner.scales ≡ false → buffer ≤ 65535 → (room_of buffer manner).capacity ≡ buffer
plain_room buffer manner plain few = rw plain (omega (arith, few))

-- What gives way.

pub given_way : (x : Entry) → may_give_way x ≡ true → MayBeGiven x.role
given_way x may = by_role x.role refl may
  where
    left : (c : View) → is_some (if is_time_wait c.state && c.released then Some c.since else None) ≡ true → (c.state ≡ TimeWait) × (c.released ≡ true)
    left c some =
        by_test (is_time_wait c.state && c.released)
        (λ both. (waits c.state (and_left (is_time_wait c.state) c.released both), and_right (is_time_wait c.state) c.released both))
        (λ no. let bad : false ≡ true = sym (ap (λ b. is_some (if b then Some c.since else None)) no) ∙ some in cc)

    by_role : (r : Role) → x.role ≡ r → ((is_pending r && is_half_open r) || is_some (left_since r)) ≡ true → MayBeGiven x.role
    by_role (Connected c None) is some = record { c = c; listener = None; is = is; stands = inr (left c some) }
    by_role (Connected c (Some listener)) is some =
        let half : (c.passive && is_syn_received c.state) ≡ true = opens (c.passive && is_syn_received c.state) some in
        record { c = c; listener = Some listener; is = is; stands = inl (received c.state (and_right c.passive (is_syn_received c.state) half), and_left c.passive (is_syn_received c.state) half) }
      where
        opens : (b : Bool) → (b || false) ≡ true → b ≡ true
        opens true e = refl
        opens false e = cc
    by_role (Listener local backlog) is some = cc
    by_role (Idle buffers bound) is some = cc
    by_role (Datagrams bound socket) is some = cc
