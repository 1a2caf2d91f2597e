-- Why what arrives leaves all sockets but the one that it is for as ready as they were.
use Rattle.std.proofs.Common.{◌≡◌, ℕ, ◌+◌, ◌<◌, ◌≤◌, ◌==◌, ◌&&◌, ◌||◌, not, Bool, true, false, cond, List, [], ◌∷◌, ◌++◌, length, Option, Some, None, option_map, Ok, Err, refl, sym, ◌∙◌, ap, arith}
use Rattle.std.specs.List.{find, list_any}
use Rattle.std.proofs.Math.Path.{fun_ext}
use Rattle.std.proofs.lemmas.Bool.{and_parts, eqb-true}
use Rattle.clock.specs.declared.moment.Moment.{Moment}
use Rattle.ipv4.specs.declared.addr.Addr.{Addr}
use Rattle.ipv4.specs.declared.addr.Endpoint.{Endpoint}
use Rattle.tcp_segment.specs.Segment.{Segment}
use Rattle.tcp_segment.specs.declared.head.Head.{Head}
use Rattle.tcp_halves.proofs.Choices.{either, and_false}
use Rattle.tcp_state.proofs.Segments.{by_ack, by_fin, by_hearing, by_clock}
use Rattle.tcp_state.specs.Arrival.{is_receiving, after_ack, after_window, after_text, after_segment_at}
use Rattle.tcp_state.specs.Unreachable.{after_unreachable as connection_after, is_unreachable}
use Rattle.tcp_state.specs.View.{View, after_reset}
use Rattle.tcp_state.specs.declared.calls.Refusal.TheVariants.{ECONNREFUSED}
use Rattle.udp.specs.Datagram.{UserDatagram}
use Rattle.tcp_state.specs.declared.connection.Fate.{Fate}
use Rattle.sockets.specs.declared.entry.SocketId.{SocketId}
use Rattle.sockets.specs.declared.entry.Entry.{Entry}
use Rattle.sockets.specs.declared.refusal.Refusal.TheVariants.{EBADF}
use Rattle.sockets.specs.declared.role.Role.{Role}
use Rattle.sockets.specs.declared.role.Role.TheVariants.{Idle, Listener, Connected, Datagrams}
use Rattle.sockets.specs.Arrival.{offered_with, arrival, arrival_with_reply, local_end, peer_end, after_opening}
use Rattle.sockets.specs.Calls.{of_socket, next_offered}
use Rattle.sockets.specs.Causes.{after_arrival}
use Rattle.sockets.specs.Datagrams.{after_reception, sending_end}
use Rattle.sockets.specs.Unreachable.{after_unreachable}
use Rattle.sockets.specs.Entries.{entries_after_step, fate_of, has_room_to_receive, has_socket, is_between, is_datagrams_at, is_kept, is_live_between, is_offered_by, is_socket, is_waiting_as, is_waiting_id, on_connection, role_after_reception, role_after_unreachable, unreachable_fate_of, uses_datagram_port, waits_at, with_role}
use Rattle.sockets.specs.Ids.{AreAscending}
use Rattle.sockets.specs.Lists.{change_first, remove_first}
use Rattle.sockets.specs.Order.{IsOrdered}
use Rattle.sockets.specs.Ports.{first_port, is_free_datagram_port}
use Rattle.sockets.specs.Ready.{ready_of, readiness, socket_at_port, socket_between, socket_named, socket_of_segment}
use Rattle.sockets.specs.SocketsView.{SocketsView, later_moment, role_of}
use Rattle.sockets.proofs.Arrivals.{by_arrival}
use Rattle.sockets.proofs.ByIds.{found_above, found_behind, found_first}
use Rattle.sockets.proofs.FirstReady.{same_id}
use Rattle.sockets.proofs.Followed.{by_test}
use Rattle.sockets.proofs.OfferCounts.{by_option}
use Rattle.sockets.proofs.Opened.{found_passes}
use Rattle.sockets.proofs.Steps.{entry}

-- Lists in which one element that passes none of two tests changes, is taken out or is added.

find_changed : (test q : Entry → Bool) (change : Entry → Entry) (xs : List Entry) (e : Entry) → find test xs ≡ Some e → q e ≡ false → q (change e) ≡ false → find q (change_first test change xs) ≡ find q xs
find_changed test q change [] e found before after = refl
find_changed test q change (x ∷ xs) e found before after =
    by_test (test x)
    (λ here.
    let same : x ≡ e = found_first test x e xs here found in
    let old : q x ≡ false = ap q same ∙ before in
    let new : q (change x) ≡ false = ap (λ (y : Entry). q (change y)) same ∙ after in
    rw here (rw (new, old) refl))
    (λ there. rw there (ap (λ (o : Option Entry). cond (q x) (Some x) o) (find_changed test q change xs e (found_behind test x xs (Some e) there found) before after)))

pub find_removed : (test q : Entry → Bool) (xs : List Entry) (e : Entry) → find test xs ≡ Some e → q e ≡ false → find q (remove_first test xs) ≡ find q xs
find_removed test q [] e found before = refl
find_removed test q (x ∷ xs) e found before =
    by_test (test x)
    (λ here. let old : q x ≡ false = ap q (found_first test x e xs here found) ∙ before in rw here (rw old refl))
    (λ there. rw there (ap (λ (o : Option Entry). cond (q x) (Some x) o) (find_removed test q xs e (found_behind test x xs (Some e) there found) before)))

any_changed : (test q : Entry → Bool) (change : Entry → Entry) (xs : List Entry) (e : Entry) → find test xs ≡ Some e → q (change e) ≡ q e → list_any q (change_first test change xs) ≡ list_any q xs
any_changed test q change [] e found alike = refl
any_changed test q change (x ∷ xs) e found alike =
    by_test (test x)
    (λ here.
    let same : x ≡ e = found_first test x e xs here found in
    let its : q (change x) ≡ q x = ap (λ (y : Entry). q (change y)) same ∙ alike ∙ ap q (sym same) in
    rw here (ap (λ (b : Bool). b || list_any q xs) its))
    (λ there. rw there (ap (λ (b : Bool). q x || b) (any_changed test q change xs e (found_behind test x xs (Some e) there found) alike)))

any_removed : (test q : Entry → Bool) (xs : List Entry) (e : Entry) → find test xs ≡ Some e → q e ≡ false → list_any q (remove_first test xs) ≡ list_any q xs
any_removed test q [] e found before = refl
any_removed test q (x ∷ xs) e found before =
    by_test (test x)
    (λ here. let old : q x ≡ false = ap q (found_first test x e xs here found) ∙ before in rw here (rw old refl))
    (λ there. rw there (ap (λ (b : Bool). q x || b) (any_removed test q xs e (found_behind test x xs (Some e) there found) before)))

find_joined : {X : Type 0} (q : X → Bool) (xs : List X) (y : X) → q y ≡ false → find q (xs ++ y ∷ []) ≡ find q xs
find_joined q [] y fails = rw fails refl
find_joined q (x ∷ xs) y fails = ap (λ o. cond (q x) (Some x) o) (find_joined q xs y fails)

any_joined : (q : Entry → Bool) (xs : List Entry) (y : Entry) → q y ≡ false → list_any q (xs ++ y ∷ []) ≡ list_any q xs
any_joined q [] y fails = rw fails refl
any_joined q (x ∷ xs) y fails = ap (λ (b : Bool). q x || b) (any_joined q xs y fails)

-- no other entry has the id of one
none_above : (w : Role → Bool) (n before last : ℕ) (xs : List Entry) → n ≤ before → AreAscending before last xs → list_any (λ (x : Entry). (x.id.0 == n) && w x.role) xs ≡ false
none_above w n before last [] below ids = refl
none_above w n before last (x ∷ xs) below ids =
    let other : (x.id.0 == n) ≡ false = by_test (x.id.0 == n) (λ yes. absurd (omega (arith, eqb-true x.id.0 n yes, below, ids.0))) (λ no. no) in
    rw other (none_above w n x.id.0 last xs (omega (arith, below, ids.0)) ids.1)

none_of_id : (w : Role → Bool) (test : Entry → Bool) (before last : ℕ) (xs : List Entry) (e : Entry) → AreAscending before last xs → find test xs ≡ Some e → w e.role ≡ false → list_any (λ (x : Entry). (x.id.0 == e.id.0) && w x.role) xs ≡ false
none_of_id w test before last [] e ids found fails = refl
none_of_id w test before last (x ∷ xs) e ids found fails =
    by_test (test x)
    (λ here.
    let same : x ≡ e = found_first test x e xs here found in
    let its : w x.role ≡ false = ap (λ (y : Entry). w y.role) same ∙ fails in
    let at : e.id.0 ≡ x.id.0 = ap (λ (y : Entry). y.id.0) (sym same) in
    rw (its, and_false (x.id.0 == e.id.0)) (none_above w e.id.0 x.id.0 last xs (omega (arith, at)) ids.1))
    (λ there.
    let later : find test xs ≡ Some e = found_behind test x xs (Some e) there found in
    let above : x.id.0 < e.id.0 = found_above test x.id.0 last xs e ids.1 later in
    let other : (x.id.0 == e.id.0) ≡ false = by_test (x.id.0 == e.id.0) (λ yes. absurd (omega (arith, eqb-true x.id.0 e.id.0 yes, above))) (λ no. no) in
    rw other (none_of_id w test x.id.0 last xs e ids.1 later fails))

-- a table that is alike for one id
record IsAlike (h w : SocketsView) (id : SocketId) : Type 0 where
  role : role_of w id ≡ role_of h id
  offered : next_offered w id ≡ next_offered h id
  addr : w.addr ≡ h.addr
  last : w.last_port ≡ h.last_port
  ports : is_free_datagram_port w.entries ≡ is_free_datagram_port h.entries

-- where a socket that is not bound would send from
abbrev end_at : Addr → (ℕ → Bool) → ℕ → Option Endpoint
end_at addr test last = option_map (λ port. record { addr = addr; port = port }) (first_port test last 0 16384)

sending_alike : (h w : SocketsView) (id : SocketId) → IsAlike h w id → (bound : Option Endpoint) → sending_end w bound ≡ sending_end h bound
sending_alike h w id alike (Some bound) = refl
sending_alike h w id alike None =
    ap (λ (test : ℕ → Bool). end_at w.addr test w.last_port) alike.ports
    ∙ ap (λ (last : ℕ). end_at w.addr (is_free_datagram_port h.entries) last) alike.last
    ∙ ap (λ (addr : Addr). end_at addr (is_free_datagram_port h.entries) h.last_port) alike.addr

ready_alike : (h w : SocketsView) (id : SocketId) → IsAlike h w id → (role : Role) → ready_of w id role ≡ ready_of h id role
ready_alike h w id alike (Listener local backlog) = rw alike.offered refl
ready_alike h w id alike (Datagrams bound socket) = rw (sending_alike h w id alike bound) refl
ready_alike h w id alike (Idle buffers bound) = refl
ready_alike h w id alike (Connected c listener) = refl

alike_ready : (h w : SocketsView) (id : SocketId) → IsAlike h w id → readiness w id ≡ readiness h id
alike_ready h w id alike =
    ap (λ (o : Option Role). of_socket (Err EBADF) (λ role. Ok (ready_of w id role)) o) alike.role ∙ by_role (role_of h id)
  where
    by_role : (o : Option Role) → of_socket (Err EBADF) (λ role. Ok (ready_of w id role)) o ≡ of_socket (Err EBADF) (λ role. Ok (ready_of h id role)) o
    by_role None = refl
    by_role (Some role) = rw (ready_alike h w id alike role) refl

-- A step of the connection between two ends.

module _ (h : SocketsView) (local peer : Endpoint) (f : View → View) (keeps : (c : View) → c.released ≡ true → (f c).released ≡ true) (id : SocketId) where
  -- it is for another socket, before and after
  record IsApart (x : Entry) : Type 0 where
    named : is_socket id x ≡ false
    named_after : is_socket id (with_role (on_connection f) x) ≡ false
    waits : waits_at id x.role ≡ false
    waits_after : waits_at id (on_connection f x.role) ≡ false
    ports : (port : ℕ) → is_datagrams_at port x ≡ false
    ports_after : (port : ℕ) → is_datagrams_at port (with_role (on_connection f) x) ≡ false

  unnamed : (i : SocketId) (c d : View) → (c.released ≡ true → d.released ≡ true) → (socket_named (entry i (Connected c None)) ≡ Some id → ⊥) → is_socket id (entry i (Connected d None)) ≡ false
  unnamed i c d stays other =
      by_test (is_socket id (entry i (Connected d None)))
      (λ yes.
      let parts = and_parts (i.0 == id.0) (has_socket (Connected d None)) yes in
      let same : i ≡ id = same_id i id (eqb-true i.0 id.0 parts.0) in
      by_test c.released
      (λ left. let gone : d.released ≡ true = stays left in let bad : false ≡ true = (rw gone at parts.1) in cc)
      (λ held. absurd (other (rw held (ap (λ (j : SocketId). Some j) same)))))
      (λ no. no)

  apart : (i : SocketId) (r : Role) → is_live_between local peer r ≡ true → (socket_named (entry i r) ≡ Some id → ⊥) → IsApart (entry i r)
  apart i (Connected c None) live other = record {
    named = unnamed i c c (λ left. left) other;
    named_after = unnamed i c (f c) (keeps c) other;
    waits = refl;
    waits_after = refl;
    ports = λ port. refl;
    ports_after = λ port. refl;
  }
  apart i (Connected c (Some l)) live other =
      let elsewhere : (l.0 == id.0) ≡ false = by_test (l.0 == id.0) (λ yes. absurd (other (ap (λ (j : SocketId). Some j) (same_id l id (eqb-true l.0 id.0 yes))))) (λ no. no) in
      record {
        named = and_false (i.0 == id.0);
        named_after = and_false (i.0 == id.0);
        waits = elsewhere;
        waits_after = elsewhere;
        ports = λ port. refl;
        ports_after = λ port. refl;
      }
  apart i (Idle buffers bound) live other = cc
  apart i (Listener at backlog) live other = cc
  apart i (Datagrams bound socket) live other = cc

  module _ (fate : Fate) (offers_it : Bool) (e : Entry) (ordered : IsOrdered h) (found : find (is_between local peer) h.entries ≡ Some e) (other : socket_named e ≡ Some id → ⊥) where
    left : List Entry
    left = entries_after_step fate (is_between local peer) (on_connection f) h.entries

    its : IsApart e
    its = apart e.id e.role (found_passes (is_between local peer) h.entries e found) other

    finds : (q : Entry → Bool) → q e ≡ false → q (with_role (on_connection f) e) ≡ false → find q (entries_after_step fate (is_between local peer) (on_connection f) h.entries) ≡ find q h.entries
    finds q before after =
        by_test (is_kept fate)
        (λ kept. rw kept (find_changed (is_between local peer) q (with_role (on_connection f)) h.entries e found before after))
        (λ gone. rw gone (find_removed (is_between local peer) q h.entries e found before))

    anys : (q : Entry → Bool) → q e ≡ false → q (with_role (on_connection f) e) ≡ false → list_any q (entries_after_step fate (is_between local peer) (on_connection f) h.entries) ≡ list_any q h.entries
    anys q before after =
        by_test (is_kept fate)
        (λ kept. rw kept (any_changed (is_between local peer) q (with_role (on_connection f)) h.entries e found (after ∙ sym before)))
        (λ gone. rw gone (any_removed (is_between local peer) q h.entries e found before))

    waiting_alike : is_waiting_id (entries_after_step fate (is_between local peer) (on_connection f) h.entries) id ≡ is_waiting_id h.entries id
    waiting_alike = fun_ext (λ x. anys (is_waiting_as id x) (ap (λ (b : Bool). (e.id.0 == x.0) && b) its.waits ∙ and_false (e.id.0 == x.0)) (ap (λ (b : Bool). (e.id.0 == x.0) && b) its.waits_after ∙ and_false (e.id.0 == x.0)))

    offered_alike : find (is_waiting_id h.entries id) (offered_with h.sizes.entries offers_it e.id h.offered) ≡ find (is_waiting_id h.entries id) h.offered
    offered_alike =
        by_test (offers_it && not (length h.offered == h.sizes.entries))
        (λ joins. rw joins (find_joined (is_waiting_id h.entries id) h.offered e.id (none_of_id (waits_at id) (is_between local peer) 0 h.last_id h.entries e ordered.ids found its.waits)))
        (λ full. rw full refl)

    pub step_leaves : readiness (record h { entries = entries_after_step fate (is_between local peer) (on_connection f) h.entries; offered = offered_with h.sizes.entries offers_it e.id h.offered }) id ≡ readiness h id
    step_leaves = alike_ready h (record h { entries = entries_after_step fate (is_between local peer) (on_connection f) h.entries; offered = offered_with h.sizes.entries offers_it e.id h.offered }) id (record {
      role = ap (λ (o : Option Entry). option_map (λ (x : Entry). x.role) o) (finds (is_socket id) its.named its.named_after);
      offered = ap (λ (t : SocketId → Bool). find t (offered_with h.sizes.entries offers_it e.id h.offered)) waiting_alike ∙ offered_alike;
      addr = refl;
      last = refl;
      ports = fun_ext (λ port. ap (λ (b : Bool). not b) (anys (is_datagrams_at port) (its.ports port) (its.ports_after port)));
    })

-- A segment.

-- a connection that its caller left stays so
left_stays : (now : Moment) (s : Segment) (c : View) → c.released ≡ true → (after_segment_at c s now).released ≡ true
left_stays now s c left =
    by_clock (λ (v : View). v.released ≡ true) c s now left (λ lives. by_hearing (λ (v : View). v.released ≡ true) c s refl (record {
      dropped = left;
      drawn = left;
      reset = λ acts. left;
      crossed = λ waits. left;
      opened = λ waits right. left;
      acknowledged = λ taken. acked;
      read = λ on. by_fin (λ (v : View). v.released ≡ true) text s (λ counts. read) read read;
    }))
  where
    told : View
    told = after_window (after_ack c s.acknowledgement) s

    text : View
    text = after_text told s

    acked : (after_ack c s.acknowledgement).released ≡ true
    acked = by_ack (λ (v : View). v.released ≡ true) c s.acknowledgement (record { old = left; beyond = left; opens = λ received new. left; octets = λ new. left; fin = λ new fin. left })

    read : text.released ≡ true
    read = either View (λ (v : View). v.released ≡ true) ((length s.octets == 0) || not (is_receiving told.state)) told _ (λ none. acked) (λ some. acked)

-- one that is opened waits at its listener
opening_leaves : (h : SocketsView) (now : Moment) (isn : ℕ) (source : Addr) (s : Segment) (id : SocketId) (listener : Entry) → (listener.id ≡ id → ⊥) → readiness (after_opening h now isn listener source s) id ≡ readiness h id
opening_leaves h now isn source s id listener other =
    let elsewhere : (listener.id.0 == id.0) ≡ false = by_test (listener.id.0 == id.0) (λ yes. absurd (other (same_id listener.id id (eqb-true listener.id.0 id.0 yes)))) (λ no. no) in
    alike_ready h (after_opening h now isn listener source s) id (record {
      role = ap (λ (o : Option Entry). option_map (λ (x : Entry). x.role) o) (find_joined (is_socket id) h.entries _ (and_false (h.last_id + 1 == id.0)));
      offered = ap (λ (t : SocketId → Bool). find t h.offered) (fun_ext (λ x. any_joined (is_waiting_as id x) h.entries _ (ap (λ (b : Bool). (h.last_id + 1 == x.0) && b) elsewhere ∙ and_false (h.last_id + 1 == x.0))));
      addr = refl;
      last = refl;
      ports = fun_ext (λ port. ap (λ (b : Bool). not b) (any_joined (is_datagrams_at port) h.entries _ refl));
    })

pub segment_leaves : (h : SocketsView) (now : Moment) (isn : ℕ) (source : Addr) (s : Segment) (id : SocketId) → IsOrdered h → (socket_of_segment h source s ≡ Some id → ⊥)
    → readiness (after_arrival h (arrival h now isn source s)) id ≡ readiness h id
segment_leaves h now isn source s id ordered other =
    by_arrival h now isn source s (λ a. readiness (after_arrival h a) id ≡ readiness h id)
    (λ reply why. answered reply)
    (λ e taker.
    let its : socket_of_segment h source s ≡ socket_named e = rw taker.found refl in
    step_leaves h (local_end h s) (peer_end source s) (λ c. after_segment_at c s (later_moment h now)) (left_stays (later_moment h now) s) id (fate_of s e.role) (is_offered_by (later_moment h now) s e.role) e ordered taker.found (λ named. other (its ∙ named)))
    (λ listener called full. refl)
    (λ listener called room.
    let its : socket_of_segment h source s ≡ Some listener.id = rw (called.none, called.opens, called.found) refl in
    opening_leaves h (later_moment h now) isn source s id listener (λ named. other (its ∙ ap (λ (i : SocketId). Some i) named)))
  where
    answered : (reply : Option Head) → readiness (after_arrival h (arrival_with_reply h reply)) id ≡ readiness h id
    answered None = refl
    answered (Some head) = refl

-- An error.

error_stays : (number : ℕ) (c : View) → c.released ≡ true → (connection_after c number).released ≡ true
error_stays number c left = either View (λ (v : View). v.released ≡ true) (is_unreachable c number) (after_reset c (Some ECONNREFUSED)) c (λ ends. left) (λ stays. left)

pub error_leaves : (h : SocketsView) (local peer : Endpoint) (number : ℕ) (id : SocketId) → IsOrdered h → (socket_between h local peer ≡ Some id → ⊥) → readiness (after_unreachable h local peer number) id ≡ readiness h id
error_leaves h local peer number id ordered other =
    by_option (find (is_between local peer) h.entries)
    (λ none. rw none refl)
    (λ e found.
    let its : socket_between h local peer ≡ socket_named e = rw found refl in
    let after : after_unreachable h local peer number ≡ record h { entries = entries_after_step (unreachable_fate_of number e.role) (is_between local peer) (role_after_unreachable number) h.entries } = rw found refl in
    ap (λ (w : SocketsView). readiness w id) after
    ∙ step_leaves h local peer (λ c. connection_after c number) (error_stays number) id (unreachable_fate_of number e.role) false e ordered found (λ named. other (its ∙ named)))

-- A datagram.

pub datagram_leaves : (h : SocketsView) (source : Addr) (d : UserDatagram) (id : SocketId) → (socket_at_port h d.destination ≡ Some id → ⊥) → readiness (after_reception h source d) id ≡ readiness h id
datagram_leaves h source d id other =
    by_option (find (is_datagrams_at d.destination) h.entries)
    (λ none. rw none refl)
    (λ e found.
    let its : socket_at_port h d.destination ≡ Some e.id = rw found refl in
    by_test (has_room_to_receive (length d.payload) e.role)
    (λ room. rw (found, room) (queued e found (λ same. other (its ∙ ap (λ (i : SocketId). Some i) same))))
    (λ full. rw (found, full) refl))
  where
    change : Role → Role
    change = role_after_reception (record { addr = source; port = d.source }) d.payload

    of_role : (r : Role) → uses_datagram_port d.destination r ≡ true → (waits_at id r ≡ false) × (waits_at id (change r) ≡ false) × ((port : ℕ) → uses_datagram_port port (change r) ≡ uses_datagram_port port r)
    of_role (Datagrams (Some bound) socket) at = (refl, refl, λ port. refl)
    of_role (Datagrams None socket) at = cc
    of_role (Connected c listener) at = cc
    of_role (Idle buffers bound) at = cc
    of_role (Listener local backlog) at = cc

    unnamed : (e : Entry) (r : Role) → (e.id ≡ id → ⊥) → is_socket id (entry e.id r) ≡ false
    unnamed e r elsewhere = by_test (is_socket id (entry e.id r)) (λ yes. absurd (elsewhere (same_id e.id id (eqb-true e.id.0 id.0 (and_parts (e.id.0 == id.0) (has_socket r) yes).0)))) (λ no. no)

    queued : (e : Entry) → find (is_datagrams_at d.destination) h.entries ≡ Some e → (e.id ≡ id → ⊥) → readiness (record h { entries = change_first (is_datagrams_at d.destination) (with_role change) h.entries }) id ≡ readiness h id
    queued e found elsewhere =
        let facts = of_role e.role (found_passes (is_datagrams_at d.destination) h.entries e found) in
        alike_ready h (record h { entries = change_first (is_datagrams_at d.destination) (with_role change) h.entries }) id (record {
          role = ap (λ (o : Option Entry). option_map (λ (x : Entry). x.role) o) (find_changed (is_datagrams_at d.destination) (is_socket id) (with_role change) h.entries e found (unnamed e e.role elsewhere) (unnamed e (change e.role) elsewhere));
          offered = ap (λ (t : SocketId → Bool). find t h.offered) (fun_ext (λ x. any_changed (is_datagrams_at d.destination) (is_waiting_as id x) (with_role change) h.entries e found (ap (λ (b : Bool). (e.id.0 == x.0) && b) (facts.1 ∙ sym facts.0))));
          addr = refl;
          last = refl;
          ports = fun_ext (λ port. ap (λ (b : Bool). not b) (any_changed (is_datagrams_at d.destination) (is_datagrams_at port) (with_role change) h.entries e found (facts.2 port)));
        })
