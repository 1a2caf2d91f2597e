-- Why the table stays in order.
use Rattle.std.proofs.Common.{◌≡◌, ℕ, ◌+◌, ◌≤◌, ◌==◌, ◌&&◌, Bool, true, false, List, [], ◌∷◌, ◌++◌, count_by, Option, Some, None, Result, Ok, Err, option_map, option_and_then, refl, sym, ◌∙◌, ap, subst, arith}
use Rattle.std.proofs.lemmas.Grind.{common_steps}
use Rattle.std.specs.List.{find, list_any}
use Rattle.std.proofs.lemmas.Bool.{eqb-true, and_parts, or_parts}
use Rattle.clock.specs.declared.moment.Moment.{Moment}
use Rattle.ipv4.specs.declared.addr.Addr.{Addr}
use Rattle.tcp_halves.specs.declared.buffers.Manner.{Manner}
use Rattle.ipv4.specs.declared.addr.Endpoint.{Endpoint}
use Rattle.udp_socket.specs.SocketView.{SocketView as Queues, with_sent}
use Rattle.tcp_segment.specs.Segment.{Segment}
use Rattle.tcp_state.specs.Arrival.{opened_passively}
use Rattle.tcp_state.proofs.Causes.{not_true}
use Rattle.sockets.specs.declared.sizes.Sizes.{Sizes}
use Rattle.sockets.specs.declared.refusal.Refusal.{Refusal}
use Rattle.sockets.specs.declared.refusal.Refusal.TheVariants.{EBADF, EINVAL}
use Rattle.sockets.specs.declared.entry.SocketId.{SocketId}
use Rattle.sockets.specs.declared.entry.Entry.{Entry}
use Rattle.ipv4.specs.Addresses.{same_addr, same_end}
use Rattle.sockets.specs.declared.role.Role.{Role}
use Rattle.sockets.specs.declared.role.Role.TheVariants.{Idle, Listener, Datagrams}
use Rattle.sockets.specs.Entries.{is_socket, is_between, sends, has_port, uses_port, role_after_bind, role_after_connect, new_socket, new_datagram_socket, new_waiting, on_datagrams, is_datagrams_at, with_role}
use Rattle.sockets.specs.SocketsView.{SocketsView, new_sockets, later_moment, role_of}
use Rattle.sockets.specs.Calls.{reach_refusal, port_for, last_port_after, is_pair_held, bound_of, port_at, port_bound, last_port_bound, bind_refusal, after_bind, port_connected, connect_refusal, after_connect}
use Rattle.sockets.specs.Datagrams.{sending_end, end_sent_from, after_sendto}
use Rattle.sockets.specs.Arrival.{room_for, local_end, peer_end, after_opening}
use Rattle.sockets.specs.Lists.{change_first}
use Rattle.sockets.specs.Ports.{IsDynamic, first_port, is_free_port, is_unused_port, is_free_datagram_port}
use Rattle.sockets.specs.Causes.{Event, Binds, Connects, SendsTo, after_event}
use Rattle.sockets.specs.Order.{has_for_itself, is_alone_at, LiesAt, IsOrdered, IsAllowed}
use Rattle.sockets.proofs.Ascending.{ascends_joined}
use Rattle.sockets.proofs.Bound.{port-allowed, port-given, bind-given}
use Rattle.sockets.proofs.Connected.{after_connect-given, connecting}
use Rattle.sockets.proofs.Queues.{sendto-refused, sendto-given, sent-from}
use Rattle.sockets.proofs.Ends.{same_end-true}
use Rattle.sockets.proofs.FirstPorts.{given_passes, given_dynamic}
use Rattle.sockets.proofs.Followed.{IsNothing, by_test, some_same, first_changed, follows_map, all_joined}
use Rattle.sockets.proofs.Steps.{IsStepOf, stays, moves, ends, binds, listens, opens, accepted, requeues, binds_datagrams, closed, given_up, gave_way, takes_end, IsJoining, made, made_datagrams, called, IsFollowed, IsStepped, followed, joined, stepped}
use Rattle.sockets.proofs.KeptEnds.{keeps-nothing, keeps-event}
use Rattle.sockets.proofs.Ordering.{IsBound, Keeps, keeps_role, keeps_connection, keeps_queues, nowhere, no_port, ordered_by, ordered_still, count_changed, count_joined, count_unfound, count_none}

pub fresh_ordered : (addr : Addr) (manner : Manner) (sizes : Sizes) → IsOrdered (new_sockets addr manner sizes)
fresh_ordered addr manner sizes = record { ids = omega arith; ends = λ local peer. omega arith; ports = λ port. omega arith; datagram_ports = λ port. omega arith; own = tt; last_port = record { from_first = omega arith; to_last = omega arith } }

-- What an event makes of an entry that takes no end and no port.

step_keeps : (h : SocketsView) (e : Event) (own : Addr) → takes_end e ≡ false → (x : Entry) (o : Option Entry) → IsStepOf h e x o → Keeps nowhere no_port no_port own x o
step_keeps h e own free x _ stays = (refl, keeps_role x.role own)
step_keeps h e own free _ _ (moves ev id c l meets kept) = (refl, keeps_connection c _ l l (keeps-event c ev) own)
step_keeps h e own free _ _ (ends ev id c l meets removed) = tt
step_keeps h _ own free _ _ (binds named asked id buffers bound local socket) = cc
step_keeps h _ own free _ _ (listens named backlog id buffers local socket) = (refl, record { ends = λ l p e live. cc; port = λ port e has. has; datagrams = λ port e has. cc; own = λ lies. tt })
step_keeps h _ own free _ _ (opens now isn named peer routed id buffers bound local socket) = cc
step_keeps h _ own free _ _ (accepted named id c l next) = (refl, keeps_connection c c l None (keeps-nothing c) own)
step_keeps h e own free _ _ (requeues id bound before after) = (refl, keeps_queues bound before after own)
step_keeps h e own free _ _ (binds_datagrams id bound local before after takes) = let bad : true ≡ false = sym takes ∙ free in cc
step_keeps h _ own free _ _ (closed how named id role socket alone) = tt
step_keeps h _ own free _ _ (given_up lost now x gone) = tt
step_keeps h _ own free _ _ (gave_way meant x next) = tt

followed_ordered : (h : SocketsView) (e : Event) (w : SocketsView) → takes_end e ≡ false → IsFollowed h e w → IsOrdered h → IsOrdered w
followed_ordered h e w free f o =
    ordered_still h w f.addr f.last_id (f.last_port free)
    (follows_map (IsStepOf h e) (Keeps nowhere no_port no_port h.addr) IsNothing IsNothing (λ x. LiesAt h.addr x.role) (λ ys none. none) (λ x o lies step. step_keeps h e h.addr free x o step) h.entries w.entries o.own f.entries) o

-- Joining the table.

joined_ordered : (h : SocketsView) (x : Entry) → x.id.0 ≡ h.last_id + 1 → ((local peer : Endpoint) → is_between local peer x ≡ true → count_by (is_between local peer) h.entries ≡ 0)
    → ((port : ℕ) → is_alone_at port x ≡ false) → ((port : ℕ) → is_datagrams_at port x ≡ false) → LiesAt h.addr x.role → IsOrdered h → IsOrdered (record h { last_id = h.last_id + 1; entries = h.entries ++ x ∷ [] })
joined_ordered h x id free alone unbound lies o = record {
  ids = ascends_joined 0 h.last_id h.entries x id o.ids;
  ends = λ local peer. rw (count_joined (is_between local peer) h.entries x) (by_test (is_between local peer x)
      (λ between. let none : count_by (is_between local peer) h.entries ≡ 0 = free local peer between in rw between (omega arith))
      (λ other. let before : count_by (is_between local peer) h.entries ≤ 1 = o.ends local peer in rw other (omega arith)));
  ports = λ port. let before : count_by (is_alone_at port) h.entries ≤ 1 = o.ports port in rw (count_joined (is_alone_at port) h.entries x, alone port) (omega arith);
  datagram_ports = λ port. let before : count_by (is_datagrams_at port) h.entries ≤ 1 = o.datagram_ports port in rw (count_joined (is_datagrams_at port) h.entries x, unbound port) (omega arith);
  own = all_joined (λ (e : Entry). LiesAt h.addr e.role) h.entries x o.own lies;
  last_port = o.last_port;
}

-- Binding.

-- no port that is not taken is had by anyone
untaken : (port : ℕ) (xs : List Entry) → list_any (has_port port) xs ≡ false → list_any (is_alone_at port) xs ≡ false
untaken port [] none = refl
untaken port (x ∷ xs) none = let parts = or_parts (has_port port x) (list_any (has_port port) xs) none in rw (alone x.role parts.0) (untaken port xs parts.1)
  where
    alone : (r : Role) → uses_port port r ≡ false → has_for_itself port r ≡ false
    alone (Idle buffers (Some l)) other = other
    alone (Listener l b) other = other
    alone _ other = refl

itself : (at_ends : Endpoint → Endpoint → Bool) (at_port at_datagrams : ℕ → Bool) (h : SocketsView) (x : Entry) → Keeps at_ends at_port at_datagrams h.addr x (Some x)
itself at_ends at_port at_datagrams h x = (refl, record { ends = λ l p e live. live; port = λ port e has. has; datagrams = λ port e has. has; own = λ lies. lies })

-- one entry at a port that none had
one_at : (test : ℕ → Entry → Bool) (id : SocketId) (change : Role → Role) (entries : List Entry) (given : ℕ) → count_by (test given) entries ≡ 0 → (port : ℕ) → (given == port) ≡ true → count_by (test port) (change_first (is_socket id) (with_role change) entries) ≤ 1
one_at test id change entries given none port is =
    let more : count_by (test given) (change_first (is_socket id) (with_role change) entries) ≤ count_by (test given) entries + 1 = count_changed (is_socket id) (test given) (with_role change) entries in
    subst (λ (n : ℕ). count_by (test n) (change_first (is_socket id) (with_role change) entries) ≤ 1) (eqb-true given port is) (omega arith)

-- where the role of the socket is bound so, and the ports were free
bound_ordered : (h : SocketsView) (id : SocketId) (change : Role → Role) (last identification : ℕ) (at_stream at_datagrams : ℕ → Bool) (role : Role) → (IsDynamic h.last_port → IsDynamic last) → role_of h id ≡ Some role → IsBound nowhere at_stream at_datagrams h.addr role (change role)
    → ((port : ℕ) → at_stream port ≡ true → count_by (is_alone_at port) (change_first (is_socket id) (with_role change) h.entries) ≤ 1)
    → ((port : ℕ) → at_datagrams port ≡ true → count_by (is_datagrams_at port) (change_first (is_socket id) (with_role change) h.entries) ≤ 1)
    → IsOrdered h → IsOrdered (record h { last_port = last; identification = identification; entries = change_first (is_socket id) (with_role change) h.entries })
bound_ordered h id change last identification at_stream at_datagrams role dynamic is bound streams datagrams o =
    let w : SocketsView = record h { last_port = last; identification = identification; entries = change_first (is_socket id) (with_role change) h.entries } in
    ordered_by nowhere at_stream at_datagrams h w refl refl dynamic
    (first_changed (Keeps nowhere at_stream at_datagrams h.addr) IsNothing refl (is_socket id) (with_role change) h.entries (itself nowhere at_stream at_datagrams h)
    (λ x passes found.
    let same : role ≡ x.role = some_same (role_of h id) role x.role is (ap (λ (y : Option Entry). option_map (λ (e : Entry). e.role) y) found) in
    (refl, subst (λ (r : Role). IsBound nowhere at_stream at_datagrams h.addr r (change r)) same bound)))
    (λ l p e. cc) streams datagrams o

-- a UDP socket that is bound at a port
binds_at : (own : Addr) (local : Endpoint) (before after : Queues) → IsBound nowhere no_port (λ (port : ℕ). local.port == port) own (Datagrams None before) (Datagrams (Some local) after)
binds_at own local before after = record { ends = λ l p e live. cc; port = λ port e has. cc; datagrams = λ port other has. let bad : true ≡ false = sym has ∙ other in cc; own = λ lies. tt }

bind_ordered : (h : SocketsView) (id : SocketId) (local : Endpoint) → bind_refusal h id local ≡ None → IsOrdered h → IsOrdered (after_event h (Binds id local))
bind_ordered h id local allowed o = by_port (port-allowed (port_bound h id local) allowed)
  where
    at : ℕ → Endpoint
    at port = record { addr = local.addr; port = port }

    by_role : (given : ℕ) → port_bound h id local ≡ Ok given → (r : Option Role) → role_of h id ≡ r
        → IsOrdered (record h { last_port = last_port_bound h local given; entries = change_first (is_socket id) (with_role (role_after_bind (at given))) h.entries })
    by_role given gives None is = let refused : port_bound h id local ≡ Err EBADF = rw is in cc
    by_role given gives (Some (Idle buffers None)) is =
        let asked : port_bound h id local ≡ port_at h (is_unused_port h.entries) local = rw is in
        let found = port-given h (is_unused_port h.entries) local given (sym asked ∙ gives) in
        bound_ordered h id (role_after_bind (at given)) (last_port_bound h local given) h.identification (λ (port : ℕ). given == port) no_port (Idle buffers None) found.dynamic is
        (record { ends = λ l p e live. cc; port = λ port other has. let bad : true ≡ false = sym has ∙ other in cc; datagrams = λ port e has. cc; own = λ lies. tt })
        (one_at is_alone_at id (role_after_bind (at given)) h.entries given (count_none (is_alone_at given) h.entries (untaken given h.entries (not_true _ found.free))))
        (λ port e. cc) o
    by_role given gives (Some (Datagrams None queues)) is =
        let asked : port_bound h id local ≡ port_at h (is_free_datagram_port h.entries) local = rw is in
        let found = port-given h (is_free_datagram_port h.entries) local given (sym asked ∙ gives) in
        bound_ordered h id (role_after_bind (at given)) (last_port_bound h local given) h.identification no_port (λ (port : ℕ). given == port) (Datagrams None queues) found.dynamic is (binds_at h.addr (at given) queues queues)
        (λ port e. cc)
        (one_at is_datagrams_at id (role_after_bind (at given)) h.entries given (count_none (is_datagrams_at given) h.entries (not_true _ found.free))) o
    by_role given gives (Some _) is = let refused : port_bound h id local ≡ Err EINVAL = rw is in cc

    by_port : ((given : ℕ) × (port_bound h id local ≡ Ok given)) → IsOrdered (after_bind h id local)
    by_port x = subst IsOrdered (sym (bind-given h id local x.0 x.1)) (by_role x.0 x.1 (role_of h id) refl)

-- Connecting.

-- the peer is at another address
peer_apart : (h : SocketsView) (peer : Endpoint) (routed : Bool) → reach_refusal h peer routed ≡ None → same_addr peer.addr h.addr ≡ false
peer_apart h peer routed reached = grind (arith, common_steps)

-- a port that is given holds no connection to the peer
port_free : (h : SocketsView) (bound : Option Endpoint) (peer : Endpoint) (port : ℕ) → port_for h bound peer ≡ Some port → is_pair_held h port peer ≡ false
port_free h (Some b) peer port given = by_test (is_pair_held h b.port peer)
    (λ held. let none : port_for h (Some b) peer ≡ None = rw held in cc)
    (λ free. let some : port_for h (Some b) peer ≡ Some b.port = rw free in let same : b.port ≡ port = cc in subst (λ (n : ℕ). is_pair_held h n peer ≡ false) same free)
port_free h None peer port given = not_true _ (and_parts _ _ (given_passes (is_free_port h.entries h.addr peer) h.last_port 0 16384 port given)).1

-- the port given last stays dynamic
counted_dynamic : (h : SocketsView) (bound : Option Endpoint) (peer : Endpoint) (port : ℕ) → IsDynamic h.last_port → port_for h bound peer ≡ Some port → IsDynamic (last_port_after h bound port)
counted_dynamic h (Some b) peer port dynamic given = dynamic
counted_dynamic h None peer port dynamic given = given_dynamic (is_free_port h.entries h.addr peer) h.last_port 0 16384 port given

-- between the two ends alone a connection comes to lie
connecting_role : (h : SocketsView) (local peer : Endpoint) (isn : ℕ) (now : Moment) → local.addr ≡ h.addr → same_addr peer.addr h.addr ≡ false → (r : Role) → IsBound (λ (l p : Endpoint). same_end local l && same_end peer p) no_port no_port h.addr r (role_after_connect local peer isn now r)
connecting_role h local peer isn now own other (Idle buffers bound) = record { ends = λ l p apart live. let bad : true ≡ false = sym live ∙ apart in cc; port = λ port e has. cc; datagrams = λ port e has. cc; own = λ lies. (own, other) }
connecting_role h local peer isn now own other _ = record { ends = λ l p e live. live; port = λ port e has. has; datagrams = λ port e has. has; own = λ lies. lies }

opened_ordered : (h : SocketsView) (now : Moment) (id : SocketId) (peer : Endpoint) (isn port last : ℕ) → IsDynamic last → same_addr peer.addr h.addr ≡ false → is_pair_held h port peer ≡ false → IsOrdered h
    → IsOrdered (record h { last_port = last; entries = change_first (is_socket id) (with_role (role_after_connect (record { addr = h.addr; port = port }) peer isn (later_moment h now))) h.entries })
opened_ordered h now id peer isn port last dynamic reached free o =
    let w : SocketsView = record h { last_port = last; entries = changed } in
    ordered_by at_ends no_port no_port h w refl refl (λ (d : IsDynamic h.last_port). dynamic)
    (first_changed (Keeps at_ends no_port no_port h.addr) IsNothing refl (is_socket id) (with_role (role_after_connect local peer isn (later_moment h now))) h.entries (itself at_ends no_port no_port h) (λ x passes found. (refl, connecting_role h local peer isn (later_moment h now) refl reached x.role)))
    at_them
    (λ n e. cc) (λ n e. cc) o
  where
    local : Endpoint
    local = record { addr = h.addr; port = port }

    at_ends : Endpoint → Endpoint → Bool
    at_ends l p = same_end local l && same_end peer p

    changed : List Entry
    changed = change_first (is_socket id) (with_role (role_after_connect local peer isn (later_moment h now))) h.entries

    one : count_by (is_between local peer) changed ≤ 1
    one =
        let none : count_by (is_between local peer) h.entries ≡ 0 = count_none (is_between local peer) h.entries free in
        let more : count_by (is_between local peer) changed ≤ count_by (is_between local peer) h.entries + 1 = count_changed (is_socket id) (is_between local peer) (with_role (role_after_connect local peer isn (later_moment h now))) h.entries in
        omega arith

    at_them : (l p : Endpoint) → at_ends l p ≡ true → count_by (is_between l p) changed ≤ 1
    at_them l p is =
        let parts = and_parts (same_end local l) (same_end peer p) is in
        subst (λ (x : Endpoint). count_by (is_between x p) changed ≤ 1) (same_end-true local l parts.0)
        (subst (λ (x : Endpoint). count_by (is_between local x) changed ≤ 1) (same_end-true peer p parts.1) one)

connect_ordered : (h : SocketsView) (now : Moment) (isn : ℕ) (id : SocketId) (peer : Endpoint) (routed : Bool) → connect_refusal h id peer routed ≡ None → IsOrdered h → IsOrdered (after_connect h now isn id peer routed)
connect_ordered h now isn id peer routed allowed o =
    let p = port-allowed (port_connected h id peer routed) allowed in
    let c = connecting h id peer routed p.0 p.1 in
    subst IsOrdered (sym (after_connect-given h now isn id peer routed c.role c.bound p.0 c.is c.opens c.reached c.given))
    (opened_ordered h now id peer isn p.0 (last_port_after h c.bound p.0) (counted_dynamic h c.bound peer p.0 o.last_port c.given) (peer_apart h peer routed c.reached) (port_free h c.bound peer p.0 c.given) o)

-- What else joins the table.

opening_ordered : (h : SocketsView) (now : Moment) (isn : ℕ) (listener : Entry) (source : Addr) (s : Segment) → find (is_between (local_end h s) (peer_end source s)) h.entries ≡ None → same_addr source h.addr ≡ false → IsOrdered h → IsOrdered (after_opening h now isn listener source s)
opening_ordered h now isn listener source s none apart o =
    joined_ordered h (new_waiting (record { 0 = h.last_id + 1 }) listener.id (opened_passively (room_for h s) (local_end h s) (peer_end source s) isn s now)) refl free (λ port. refl) (λ port. refl) (refl, apart) o
  where
    free : (l p : Endpoint) → (same_end (local_end h s) l && same_end (peer_end source s) p) ≡ true → count_by (is_between l p) h.entries ≡ 0
    free l p is =
        let parts = and_parts (same_end (local_end h s) l) (same_end (peer_end source s) p) is in
        subst (λ (x : Endpoint). count_by (is_between x p) h.entries ≡ 0) (same_end-true (local_end h s) l parts.0)
        (subst (λ (x : Endpoint). count_by (is_between (local_end h s) x) h.entries ≡ 0) (same_end-true (peer_end source s) p parts.1) (count_unfound (is_between (local_end h s) (peer_end source s)) h.entries none))

joining_ordered : (h : SocketsView) (e : Event) (x : Entry) → IsJoining h e x → IsAllowed h e → IsOrdered h → IsOrdered (record h { last_id = h.last_id + 1; entries = h.entries ++ x ∷ [] })
joining_ordered h _ _ (made buffers) allowed o = joined_ordered h (new_socket (record { 0 = h.last_id + 1 }) buffers) refl (λ l p live. cc) (λ port. refl) (λ port. refl) tt o
joining_ordered h _ _ made_datagrams allowed o = joined_ordered h (new_datagram_socket (record { 0 = h.last_id + 1 })) refl (λ l p live. cc) (λ port. refl) (λ port. refl) tt o
joining_ordered h _ _ (called now isn source s listener call) allowed o = opening_ordered h (later_moment h now) isn listener source s call.none allowed o

-- Datagrams.

-- a port that a UDP socket is given belongs to no other
sending_ordered : (h : SocketsView) (id : SocketId) (bound : Option Endpoint) (queues : Queues) (local : Endpoint) (change : Queues → Queues) (last next : ℕ) → role_of h id ≡ Some (Datagrams bound queues) → sending_end h bound ≡ Some local → (IsDynamic h.last_port → IsDynamic last) → IsOrdered h
    → IsOrdered (record h { last_port = last; identification = next; entries = change_first (is_socket id) (with_role (on_datagrams (λ b. Some local) change)) h.entries })
sending_ordered h id (Some there) queues local change last next is given dynamic o =
    let same : there ≡ local = cc in
    bound_ordered h id (on_datagrams (λ b. Some local) change) last next no_port no_port (Datagrams (Some there) queues) dynamic is
    (subst (λ (e : Endpoint). IsBound nowhere no_port no_port h.addr (Datagrams (Some there) queues) (Datagrams (Some e) (change queues))) same (keeps_queues (Some there) queues (change queues) h.addr))
    (λ port e. cc) (λ port e. cc) o
sending_ordered h id None queues local change last next is given dynamic o =
    bound_ordered h id (on_datagrams (λ b. Some local) change) last next no_port (λ (port : ℕ). local.port == port) (Datagrams None queues) dynamic is (binds_at h.addr local queues (change queues))
    (λ port e. cc)
    (one_at is_datagrams_at id (on_datagrams (λ b. Some local) change) h.entries local.port (count_none (is_datagrams_at local.port) h.entries (free (first_port (is_free_datagram_port h.entries) h.last_port 0 16384) refl given))) o
  where
    free : (p : Option ℕ) → first_port (is_free_datagram_port h.entries) h.last_port 0 16384 ≡ p → option_map (λ (port : ℕ). let e : Endpoint = record { addr = h.addr; port = port } in e) p ≡ Some local → list_any (is_datagrams_at local.port) h.entries ≡ false
    free None found sends = cc
    free (Some port) found sends =
        let same : ◌≡◌ {A = Option ℕ} (Some port) (Some local.port) = ap (λ (x : Option Endpoint). option_map (λ (e : Endpoint). e.port) x) sends in
        let at_it : port ≡ local.port = cc in
        subst (λ (n : ℕ). list_any (is_datagrams_at n) h.entries ≡ false) at_it (not_true _ (given_passes (is_free_datagram_port h.entries) h.last_port 0 16384 port found))

-- the port given last stays dynamic
sent_dynamic : (h : SocketsView) (bound : Option Endpoint) (local : Endpoint) → sending_end h bound ≡ Some local → IsDynamic h.last_port → IsDynamic (last_port_after h bound local.port)
sent_dynamic h (Some b) local given dynamic = dynamic
sent_dynamic h None local given dynamic = by_port (first_port (is_free_datagram_port h.entries) h.last_port 0 16384) refl given
  where
    by_port : (p : Option ℕ) → first_port (is_free_datagram_port h.entries) h.last_port 0 16384 ≡ p → option_map (λ (port : ℕ). let e : Endpoint = record { addr = h.addr; port = port } in e) p ≡ Some local → IsDynamic local.port
    by_port None found sends = cc
    by_port (Some port) found sends =
        let same : ◌≡◌ {A = Option ℕ} (Some port) (Some local.port) = ap (λ (x : Option Endpoint). option_map (λ (e : Endpoint). e.port) x) sends in
        let at_it : port ≡ local.port = cc in
        subst IsDynamic at_it (given_dynamic (is_free_datagram_port h.entries) h.last_port 0 16384 port found)

sendto_ordered : (h : SocketsView) (id : SocketId) (peer : Endpoint) (octets : List ℕ) (routed : Bool) → IsOrdered h → IsOrdered (after_sendto h id peer octets routed)
sendto_ordered h id peer octets routed o = by_end (end_sent_from h id peer octets routed) refl
  where
    by_end : (r : Result Endpoint Refusal) → end_sent_from h id peer octets routed ≡ r → IsOrdered (after_sendto h id peer octets routed)
    by_end (Err refusal) given = subst IsOrdered (sym (sendto-refused h id peer octets routed refusal given)) o
    by_end (Ok local) given =
        let from = sent-from h id peer octets routed local given in
        let bound_there : option_and_then bound_of (role_of h id) ≡ from.bound = ap (λ (r : Option Role). option_and_then bound_of r) from.role in
        subst IsOrdered (sym (sendto-given h id peer octets routed local given))
        (sending_ordered h id from.bound from.queues local (λ queues. with_sent queues h.kept peer h.identification octets) _ _ from.role from.sends
        (λ (d : IsDynamic h.last_port). subst (λ (b : Option Endpoint). IsDynamic (last_port_after h b local.port)) (sym bound_there) (sent_dynamic h from.bound local from.sends d)) o)

-- The table.

by_step : (h : SocketsView) (e : Event) (w : SocketsView) → takes_end e ≡ false → IsStepped h e w → IsAllowed h e → IsOrdered h → IsOrdered w
by_step h e w free (followed f) allowed o = followed_ordered h e w free f o
by_step h e _ free (joined {x = x} j) allowed o = joining_ordered h e x j allowed o

pub stays_ordered : (h : SocketsView) (e : Event) → IsAllowed h e → IsOrdered h → IsOrdered (after_event h e)
stays_ordered h (Binds id local) allowed o = bind_ordered h id local allowed o
stays_ordered h (Connects now isn id peer routed) allowed o = connect_ordered h now isn id peer routed allowed o
stays_ordered h (SendsTo id peer octets routed) allowed o = sendto_ordered h id peer octets routed o
stays_ordered h e allowed o = by_step h e (after_event h e) refl (stepped h e) allowed o
