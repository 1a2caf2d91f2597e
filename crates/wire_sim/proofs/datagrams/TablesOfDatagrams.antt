-- What is sent from, read of, and received by the UDP sockets of a table.
use Rattle.std.proofs.Common.{◌≡◌, ℕ, ◌<◌, ◌==◌, ◌^◌, min, nat_lt, Bool, true, false, ◌&&◌, List, [], ◌∷◌, ◌++◌, length, take, Option, Some, None, option_map, Result, Ok, Err, refl, sym, ◌∙◌, ap, subst, length-append, arith, All}
use Rattle.std.specs.List.{find}
use Rattle.std.specs.Prelude.{option_and_then}
use Rattle.std.proofs.lemmas.Bool.{eqb-true}
use Rattle.std.proofs.lemmas.Bool.Decides.{nat_tests}
use Rattle.std.proofs.lemmas.List.{take_min}
use Rattle.std.proofs.lemmas.List.Elements.{All-head}
use Rattle.ipv4.specs.declared.addr.Addr.{Addr}
use Rattle.ipv4.specs.declared.addr.Endpoint.{Endpoint}
use Rattle.ipv4.specs.Datagram.{Datagram}
use Rattle.udp.specs.Datagram.{UserDatagram}
use Rattle.udp.specs.Waiting.{Waiting}
use Rattle.udp.specs.declared.cutting.Part.{Part}
use Rattle.udp_socket.specs.declared.socket.TheConstants.{MOST_OCTETS}
use Rattle.udp_socket.specs.Emission.{brought, due_octets, due_part, peer_at}
use Rattle.udp_socket.specs.SocketView.{SocketView, new_socket, with_sent}
use Rattle.sockets.specs.declared.datagrams.Reception.{Reception}
use Rattle.sockets.specs.declared.datagrams.Reception.TheVariants.{Queued, NoRoom, NoSocket}
use Rattle.sockets.specs.declared.entry.Entry.{Entry}
use Rattle.sockets.specs.declared.entry.SocketId.{SocketId}
use Rattle.sockets.specs.declared.refusal.Refusal.{Refusal}
use Rattle.sockets.specs.declared.refusal.Refusal.TheVariants.{EBADF, EINVAL, EADDRINUSE, EAGAIN, EMSGSIZE, EOPNOTSUPP}
use Rattle.sockets.specs.declared.role.Role.{Role}
use Rattle.sockets.specs.declared.role.Role.TheVariants.{Idle, Listener, Connected, Datagrams}
use Rattle.sockets.specs.Calls.{bound_of, last_port_after, reach_refusal}
use Rattle.sockets.specs.Datagrams.{datagrams_bound, sending_end, end_sent_from, sendto_answer, next_identification, after_sendto, recvfrom_answer, after_recvfrom, reception, after_reception}
use Rattle.sockets.specs.Emission.{in_turn as has_turn}
use Rattle.sockets.specs.Entries.{sends, is_socket, is_datagrams_at, with_role, source_of, uses_datagram_port, has_socket, has_room_to_send, role_after_sendto, role_after_recvfrom, role_after_reception}
use Rattle.sockets.specs.Lists.{change_first}
use Rattle.sockets.specs.Ports.{first_port, is_free_datagram_port}
use Rattle.sockets.specs.SocketsView.{SocketsView, role_of, with_socket}
use Rattle.datagram_law.specs.Accepted.{Accepted, CameFrom, IsInWidths}
use Rattle.datagram_law.specs.Carried.{Carries, IsOfOne}
use Rattle.datagram_law.specs.Sockets.{IsSocketOf}
use Rattle.datagram_law.proofs.InTurn.{in_turn}
use Rattle.datagram_law.proofs.Keeping.{new, sends as sends_accepted, receives, due_is_of_one}
use Rattle.wire_sim.specs.Datagrams.{socket_end}
use Rattle.wire_sim.specs.Steps.{first_waiting_on}
use Rattle.wire_sim.proofs.tables.CallsOnTable.{found-itself, first_port-below}
use Rattle.wire_sim.proofs.lists.FoundAfterChange.{All-find, All-changed, change-none, find-passes}
use Rattle.wire_sim.proofs.datagrams.TablesKeepToAccepted.{IsEntryOf, AreEntriesOf, IsTableOf, keeps-reading, are-changed}
use Rattle.wire_sim.proofs.datagrams.TablesOfCalls.{are-own}

-- what is found keeps to what was accepted
found-of : (own other : List Accepted) (h : SocketsView) (test : Entry → Bool) (e : Entry) (r : Role) → find test h.entries ≡ Some e → e.role ≡ r → IsTableOf own other h
    → IsEntryOf own other h.addr r
found-of own other h test e r at is t =
    subst (IsEntryOf own other h.addr) is (All-find (λ (e : Entry). IsEntryOf own other h.addr e.role) test h.entries e t.sockets at)

-- What is due at a UDP socket was accepted; where it isn't bound nothing is due.

pub due-of_one : (own other : List Accepted) (h : SocketsView) (goes : Addr → Bool) (e : Entry) (bound : Option Endpoint) (s : SocketView) (place : ℕ) (peer : Endpoint) (part : Part) (d : Datagram)
    → find (has_turn h (sends goes)) h.entries ≡ Some e → e.role ≡ Datagrams bound s → peer_at place s.outbox ≡ Some peer → due_part (brought place s) ≡ Some part
    → Carries h.addr peer.addr part (due_octets (source_of h.addr bound) (brought place s)) d → IsTableOf own other h → IsOfOne own d
due-of_one own other h goes e (Some local) s place peer part d at is for told carries t =
    let here = found-of own other h (has_turn h (sends goes)) e (Datagrams (Some local) s) at is t in
    due_is_of_one own other (record { addr = h.addr; port = local.port }) peer s place part d here.1 for told carries
due-of_one own other h goes e None s place peer part d at is for told carries t =
    let here : s ≡ new_socket = found-of own other h (has_turn h (sends goes)) e (Datagrams None s) at is t in
    let none : None ≡ Some peer = sym (ap (λ (x : SocketView). peer_at place x.outbox) here) ∙ for in cc

-- A datagram comes.

pub kept-reception : (own other : List Accepted) (h : SocketsView) (source : Addr) (d : UserDatagram)
    → CameFrom other (record { addr = source; port = d.source }) (record { addr = h.addr; port = d.destination }) d.payload → IsTableOf own other h
    → IsTableOf own other (after_reception h source d)
kept-reception own other h source d came t = by_reception (reception h d) refl
  where
    from : Endpoint
    from = record { addr = source; port = d.source }

    g : Role → Role
    g = role_after_reception from d.payload

    P : Entry → Type 0
    P e = IsEntryOf own other h.addr e.role

    by_role : (r : Role) → uses_datagram_port d.destination r ≡ true → IsEntryOf own other h.addr r → IsEntryOf own other h.addr (g r)
    by_role (Idle buffers bound) passes here = tt
    by_role (Listener l b) passes here = tt
    by_role (Connected c l) passes here = tt
    by_role (Datagrams None s) passes here = cc
    by_role (Datagrams (Some local) s) passes here =
        let same : local.port ≡ d.destination = eqb-true local.port d.destination passes in
        let for : CameFrom other from (record { addr = h.addr; port = local.port }) d.payload =
        subst (λ (port : ℕ). CameFrom other from (record { addr = h.addr; port = port }) d.payload) (sym same) came in
        (here.0, receives own other (record { addr = h.addr; port = local.port }) from s d.payload here.1 for)

    by_entry : (o : Option Entry) → find (is_datagrams_at d.destination) h.entries ≡ o → AreEntriesOf own other h.addr (change_first (is_datagrams_at d.destination) (with_role g) h.entries)
    by_entry None at = subst (AreEntriesOf own other h.addr) (sym (change-none (is_datagrams_at d.destination) (with_role g) h.entries at)) t.sockets
    by_entry (Some e) at =
        All-changed P (is_datagrams_at d.destination) (with_role g) h.entries e at
        (by_role e.role (find-passes (is_datagrams_at d.destination) h.entries e at) (found-of own other h (is_datagrams_at d.destination) e e.role at refl t)) t.sockets

    by_reception : (r : Reception) → reception h d ≡ r → IsTableOf own other (after_reception h source d)
    by_reception Queued is =
        let next : SocketsView = record h { entries = change_first (is_datagrams_at d.destination) (with_role g) h.entries } in
        let same : after_reception h source d ≡ next = rw is in
        let there : IsTableOf own other next = record { numbered = t.numbered; in_turn = t.in_turn; sockets = by_entry (find (is_datagrams_at d.destination) h.entries) refl } in
        subst (IsTableOf own other) (sym same) there
    by_reception NoRoom is =
        let same : after_reception h source d ≡ h = rw is in
        subst (IsTableOf own other) (sym same) t
    by_reception NoSocket is =
        let same : after_reception h source d ≡ h = rw is in
        subst (IsTableOf own other) (sym same) t

-- One is read.

pub kept-recvfrom : (own other : List Accepted) (h : SocketsView) (id : SocketId) → IsTableOf own other h → IsTableOf own other (after_recvfrom h id)
kept-recvfrom own other h id t = record {
  numbered = t.numbered;
  in_turn = t.in_turn;
  sockets = are-changed own other h.addr role_after_recvfrom keeps-reading (is_socket id) h.entries t.sockets;
}

-- The socket is a UDP socket, and a datagram waits in it.
record ReadsFrom (h : SocketsView) (id : SocketId) (len count : ℕ) (from : Endpoint) : Type 0 where
  e : Entry
  bound : Option Endpoint
  s : SocketView
  first : Waiting
  rest : List Waiting
  found : find (is_socket id) h.entries ≡ Some e
  role : e.role ≡ Datagrams bound s
  waits : s.inbox ≡ first ∷ rest
  given : count ≡ min (length first.octets) len
  source : from ≡ first.endpoint

reads-from : (h : SocketsView) (id : SocketId) (len count : ℕ) (from : Endpoint) → recvfrom_answer h id len ≡ Ok (count, from) → ReadsFrom h id len count from
reads-from h id len count from answered = by_entry (find (is_socket id) h.entries) refl
  where
    told : Result (ℕ × Endpoint) Refusal
    told = Ok (count, from)

    refused : (refusal : Refusal) → recvfrom_answer h id len ≡ Err refusal → ⊥
    refused refusal is = let bad : Err refusal ≡ told = sym is ∙ answered in cc

    by_inbox : (e : Entry) (bound : Option Endpoint) (s : SocketView) → find (is_socket id) h.entries ≡ Some e → e.role ≡ Datagrams bound s → (b : Bool) → (len == 0) ≡ b
        → (inbox : List Waiting) → s.inbox ≡ inbox → ReadsFrom h id len count from
    by_inbox e bound s at is true none inbox waits = absurd (refused EINVAL (rw (at, is, none)))
    by_inbox e bound s at is false some [] waits = absurd (refused EAGAIN (rw (at, is, some, waits)))
    by_inbox e bound s at is false some (first ∷ rest) waits =
        let gives : Result (ℕ × Endpoint) Refusal = Ok (min (length first.octets) len, first.endpoint) in
        let is_given : recvfrom_answer h id len ≡ gives = rw (at, is, some, waits) in
        let both : told ≡ gives = sym answered ∙ is_given in
        let pair : (count, from) ≡ (min (length first.octets) len, first.endpoint) = same_pair (count, from) (min (length first.octets) len, first.endpoint) both in
        record {
          e = e;
          bound = bound;
          s = s;
          first = first;
          rest = rest;
          found = at;
          role = is;
          waits = waits;
          given = ap (λ (p : ℕ × Endpoint). p.0) pair;
          source = ap (λ (p : ℕ × Endpoint). p.1) pair;
        }
      where
        answer_of : ℕ × Endpoint → Result (ℕ × Endpoint) Refusal
        answer_of p = Ok p

        same_pair : (p q : ℕ × Endpoint) → answer_of p ≡ answer_of q → p ≡ q
        same_pair p q e = cc

    by_role : (e : Entry) → find (is_socket id) h.entries ≡ Some e → (r : Role) → e.role ≡ r → ReadsFrom h id len count from
    by_role e at (Idle buffers bound) is = absurd (refused EOPNOTSUPP (rw (at, is)))
    by_role e at (Listener l b) is = absurd (refused EOPNOTSUPP (rw (at, is)))
    by_role e at (Connected c l) is = absurd (refused EOPNOTSUPP (rw (at, is)))
    by_role e at (Datagrams bound s) is = by_inbox e bound s at is (len == 0) refl s.inbox refl

    by_entry : (o : Option Entry) → find (is_socket id) h.entries ≡ o → ReadsFrom h id len count from
    by_entry None at = absurd (refused EBADF (rw at))
    by_entry (Some e) at = by_role e at e.role refl

pub read-of_one : (own other : List Accepted) (h : SocketsView) (id : SocketId) (len count : ℕ) (from : Endpoint) → recvfrom_answer h id len ≡ Ok (count, from) → IsTableOf own other h
    → (octets : List ℕ) × CameFrom other from (socket_end h id) octets × (first_waiting_on h id count ≡ take len octets)
read-of_one own other h id len count from answered t = by_bound r.bound r.role
  where
    r : ReadsFrom h id len count from
    r = reads-from h id len count from answered

    by_bound : (bound : Option Endpoint) → r.e.role ≡ Datagrams bound r.s → (octets : List ℕ) × CameFrom other from (socket_end h id) octets × (first_waiting_on h id count ≡ take len octets)
    by_bound None is =
        let here : r.s ≡ new_socket = found-of own other h (is_socket id) r.e (Datagrams None r.s) r.found is t in
        let none : r.first ∷ r.rest ≡ [] = sym r.waits ∙ ap (λ (x : SocketView). x.inbox) here in cc
    by_bound (Some local) is =
        let end : Endpoint = record { addr = h.addr; port = local.port } in
        let here = found-of own other h (is_socket id) r.e (Datagrams (Some local) r.s) r.found is t in
        let incoming : All (λ (w : Waiting). CameFrom other w.endpoint end w.octets) (r.first ∷ r.rest) =
        subst (All (λ (w : Waiting). CameFrom other w.endpoint end w.octets)) r.waits here.1.incoming in
        let came : CameFrom other r.first.endpoint end r.first.octets = All-head (λ (w : Waiting). CameFrom other w.endpoint end w.octets) r.first r.rest incoming in
        let its_end : socket_end h id ≡ end = rw (r.found, is) in
        let least : count ≡ min len (length r.first.octets) = omega (arith, r.given) in
        let shown : first_waiting_on h id count ≡ take count r.first.octets = rw (r.found, is, r.waits) in (
          r.first.octets,
          subst (λ (x : Endpoint). CameFrom other x (socket_end h id) r.first.octets) (sym r.source) (subst (λ (x : Endpoint). CameFrom other r.first.endpoint x r.first.octets) (sym its_end) came),
          shown ∙ (ap (λ (n : ℕ). take n r.first.octets) least ∙ take_min len r.first.octets),
        )

-- One is sent.

-- The socket is a UDP socket, and sends from this end.
record SendsFrom (h : SocketsView) (id : SocketId) (peer : Endpoint) (octets : List ℕ) (routed : Bool) : Type 0 where
  e : Entry
  bound : Option Endpoint
  s : SocketView
  local : Endpoint
  found : find (is_socket id) h.entries ≡ Some e
  role : e.role ≡ Datagrams bound s
  fits : nat_lt MOST_OCTETS (length octets) ≡ false
  given : sending_end h bound ≡ Some local
  from : end_sent_from h id peer octets routed ≡ Ok local

-- a role that datagrams are sent from
sends_datagrams : (r : Role) (bound : Option Endpoint) → datagrams_bound r ≡ Ok bound → (s : SocketView) × (r ≡ Datagrams bound s)
sends_datagrams (Datagrams at s) bound e = let same : at ≡ bound = cc in (s, ap (λ (x : Option Endpoint). Datagrams x s) same)
sends_datagrams (Idle buffers at) bound e = cc
sends_datagrams (Listener l b) bound e = cc
sends_datagrams (Connected c l) bound e = cc

sends-from : (h : SocketsView) (id : SocketId) (peer : Endpoint) (octets : List ℕ) (routed : Bool) (count : ℕ) → sendto_answer h id peer octets routed ≡ Ok count
    → SendsFrom h id peer octets routed
sends-from h id peer octets routed count answered = by_entry (find (is_socket id) h.entries) refl
  where
    refused : (refusal : Refusal) → sendto_answer h id peer octets routed ≡ Err refusal → ⊥
    refused refusal is = let bad : Err refusal ≡ Ok count = sym is ∙ answered in cc

    by_room : (e : Entry) (bound : Option Endpoint) (local : Endpoint) → find (is_socket id) h.entries ≡ Some e → datagrams_bound e.role ≡ Ok bound → nat_lt MOST_OCTETS (length octets) ≡ false
        → reach_refusal h peer routed ≡ None → sending_end h bound ≡ Some local → (b : Bool) → has_room_to_send (length octets) e.role ≡ b → SendsFrom h id peer octets routed
    by_room e bound local at may fits near given false room = absurd (refused EAGAIN (rw (at, may, fits, near, given, room)))
    by_room e bound local at may fits near given true room =
        let kind = sends_datagrams e.role bound may in
        record {
          e = e;
          bound = bound;
          s = kind.0;
          local = local;
          found = at;
          role = kind.1;
          fits = fits;
          given = given;
          from = rw (at, may, fits, near, given, room);
        }

    by_end : (e : Entry) (bound : Option Endpoint) → find (is_socket id) h.entries ≡ Some e → datagrams_bound e.role ≡ Ok bound → nat_lt MOST_OCTETS (length octets) ≡ false
        → reach_refusal h peer routed ≡ None → (o : Option Endpoint) → sending_end h bound ≡ o → SendsFrom h id peer octets routed
    by_end e bound at may fits near None given = absurd (refused EADDRINUSE (rw (at, may, fits, near, given)))
    by_end e bound at may fits near (Some local) given = by_room e bound local at may fits near given (has_room_to_send (length octets) e.role) refl

    by_reach : (e : Entry) (bound : Option Endpoint) → find (is_socket id) h.entries ≡ Some e → datagrams_bound e.role ≡ Ok bound → nat_lt MOST_OCTETS (length octets) ≡ false
        → (o : Option Refusal) → reach_refusal h peer routed ≡ o → SendsFrom h id peer octets routed
    by_reach e bound at may fits (Some refusal) far = absurd (refused refusal (rw (at, may, fits, far)))
    by_reach e bound at may fits None near = by_end e bound at may fits near (sending_end h bound) refl

    by_len : (e : Entry) (bound : Option Endpoint) → find (is_socket id) h.entries ≡ Some e → datagrams_bound e.role ≡ Ok bound → (b : Bool) → nat_lt MOST_OCTETS (length octets) ≡ b
        → SendsFrom h id peer octets routed
    by_len e bound at may true long = absurd (refused EMSGSIZE (rw (at, may, long)))
    by_len e bound at may false fits = by_reach e bound at may fits (reach_refusal h peer routed) refl

    by_kind : (e : Entry) → find (is_socket id) h.entries ≡ Some e → (o : Result (Option Endpoint) Refusal) → datagrams_bound e.role ≡ o → SendsFrom h id peer octets routed
    by_kind e at (Err refusal) may = absurd (refused refusal (rw (at, may)))
    by_kind e at (Ok bound) may = by_len e bound at may (nat_lt MOST_OCTETS (length octets)) refl

    by_entry : (o : Option Entry) → find (is_socket id) h.entries ≡ o → SendsFrom h id peer octets routed
    by_entry None at = absurd (refused EBADF (rw at))
    by_entry (Some e) at = by_kind e at (datagrams_bound e.role) refl

both_first : (b c : Bool) → (b && c) ≡ true → b ≡ true
both_first true c e = refl
both_first false c e = cc

-- a socket that is bound where it sends from is as before, and one that was not is new
ready : (own other : List Accepted) (h : SocketsView) (bound : Option Endpoint) (s : SocketView) (local : Endpoint) → sending_end h bound ≡ Some local → IsEntryOf own other h.addr (Datagrams bound s)
    → IsEntryOf own other h.addr (Datagrams (Some local) s)
ready own other h (Some at) s local given here =
    let same : at ≡ local = cc in
    subst (λ (x : Endpoint). IsEntryOf own other h.addr (Datagrams (Some x) s)) same here
ready own other h None s local given here = by_port (first_port (is_free_datagram_port h.entries) h.last_port 0 16384) refl given
  where
    end : Endpoint
    end = record { addr = h.addr; port = local.port }

    by_port : (o : Option ℕ) → first_port (is_free_datagram_port h.entries) h.last_port 0 16384 ≡ o → option_map (λ (port : ℕ). let x : Endpoint = record { addr = h.addr; port = port } in x) o ≡ Some local
        → IsEntryOf own other h.addr (Datagrams (Some local) s)
    by_port None is e = cc
    by_port (Some port) is e =
        let x : Endpoint = record { addr = h.addr; port = port } in
        let whole : x ≡ local = cc in
        let same : port ≡ local.port = ap (λ (y : Endpoint). y.port) whole in (
          subst (λ (k : ℕ). k < 2 ^ 16) same (first_port-below (is_free_datagram_port h.entries) h.last_port 0 16384 port is),
          subst (IsSocketOf own other end) (sym here) (new own other end),
        )

pub kept-sendto : (own other : List Accepted) (h : SocketsView) (id : SocketId) (peer : Endpoint) (octets : List ℕ) (routed : Bool) (count : ℕ)
    → length h.addr.0 ≡ 4 → length peer.addr.0 ≡ 4 → peer.port < 2 ^ 16 → sendto_answer h id peer octets routed ≡ Ok count → IsTableOf own other h
    → IsTableOf (own ++ record { source = socket_end (after_sendto h id peer octets routed) id; peer = peer; identification = h.identification; octets = octets } ∷ []) other
    (after_sendto h id peer octets routed)
kept-sendto own other h id peer octets routed count addr_width peer_addr peer_port answered t =
    subst (λ (x : SocketsView). IsTableOf (own ++ accepted_at (socket_end x id) ∷ []) other x) (sym same)
    (subst (λ (x : Endpoint). IsTableOf (own ++ accepted_at x ∷ []) other next) (sym its_end) there)
  where
    r : SendsFrom h id peer octets routed
    r = sends-from h id peer octets routed count answered

    g : Role → Role
    g = role_after_sendto r.local h.kept peer h.identification octets

    given : SocketsView
    given = record h { last_port = last_port_after h (option_and_then bound_of (role_of h id)) r.local.port; identification = next_identification h.identification }

    next : SocketsView
    next = with_socket given id g

    same : after_sendto h id peer octets routed ≡ next
    same = rw r.from

    accepted_at : Endpoint → Accepted
    accepted_at source = record { source = source; peer = peer; identification = h.identification; octets = octets }

    end : Endpoint
    end = record { addr = h.addr; port = r.local.port }

    more : List Accepted
    more = own ++ accepted_at end ∷ []

    here : IsEntryOf own other h.addr (Datagrams (Some r.local) r.s)
    here = ready own other h r.bound r.s r.local r.given (found-of own other h (is_socket id) r.e (Datagrams r.bound r.s) r.found r.role t)

    changed : with_role g r.e ≡ record r.e { role = Datagrams (Some r.local) (with_sent r.s h.kept peer h.identification octets) }
    changed = rw r.role

    -- the socket is found there, and bound where it sends from
    id_passes : is_socket id (with_role g r.e) ≡ true
    id_passes =
        let its_id : (r.e.id.0 == id.0) ≡ true = both_first (r.e.id.0 == id.0) (has_socket r.e.role) (find-passes (is_socket id) h.entries r.e r.found) in
        rw r.role (ap (λ (b : Bool). b && true) its_id)

    found : find (is_socket id) next.entries ≡ Some (with_role g r.e)
    found = found-itself (is_socket id) (with_role g) h.entries r.e r.found id_passes

    its_end : socket_end next id ≡ end
    its_end = rw (found, r.role)

    widths : IsInWidths (accepted_at end)
    widths = record {
      source_addr = addr_width;
      source_port = here.0;
      peer_addr = peer_addr;
      peer_port = peer_port;
      len = grind (arith, nat_tests, r.fits);
    }

    there : IsTableOf more other next
    there = record {
      numbered = omega (arith, t.numbered, length-append own (accepted_at end ∷ []));
      in_turn = in_turn own (accepted_at end) t.in_turn widths t.numbered;
      sockets = All-changed (λ (e : Entry). IsEntryOf more other h.addr e.role) (is_socket id) (with_role g) h.entries r.e r.found
          (subst (λ (e : Entry). IsEntryOf more other h.addr e.role) (sym changed) (here.0, sends_accepted own other end peer r.s h.kept h.identification octets here.1))
          (are-own own other (accepted_at end ∷ []) h.addr h.entries t.sockets);
    }
