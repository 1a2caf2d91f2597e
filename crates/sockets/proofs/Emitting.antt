-- What is due, and what an emission makes of the table.
use Rattle.std.proofs.Common.{◌≡◌, ◌<◌, ◌≤◌, ◌+◌, ℕ, zero, suc, Bool, true, false, cond, List, [], ◌∷◌, length, slice_get, get_or, Option, Some, None, is_some, option_map, option_and_then, refl, sym, ◌∙◌, ap, subst, arith}
use Rattle.std.specs.List.{find}
use Rattle.std.proofs.lemmas.Option.{slice_get_past, slice_get_within}
use Rattle.clock.specs.declared.moment.Moment.{Moment}
use Rattle.ipv4.specs.declared.addr.Addr.{Addr}
use Rattle.ipv4.specs.declared.addr.Endpoint.{Endpoint}
use Rattle.tcp_state.specs.declared.emission.Due.{Due}
use Rattle.tcp_state.specs.View.{View}
use Rattle.tcp_state.specs.Due.{first_due}
use Rattle.udp_socket.specs.Emission.{first_that, peer_at}
use Rattle.udp_socket.specs.SocketView.{Outgoing as OutDatagram, SocketView}
use Rattle.sockets.specs.declared.entry.SocketId.{SocketId}
use Rattle.sockets.specs.declared.entry.Entry.{Entry}
use Rattle.sockets.specs.declared.emission.Outgoing.{Outgoing}
use Rattle.sockets.specs.declared.emission.Outgoing.TheVariants.{Segment, Datagram}
use Rattle.sockets.specs.declared.role.Role.{Role}
use Rattle.sockets.specs.declared.role.Role.TheVariants.{Idle, Listener, Connected, Datagrams}
use Rattle.sockets.specs.Entries.{sends, segment_due, datagrams_due, dues_of, due_to, due_emitted, due_octets, due_front, HasOutgoing, role_after_emission, emission_fate_of, entries_after_step}
use Rattle.sockets.specs.SocketsView.{SocketsView, later_moment}
use Rattle.sockets.specs.Emission.{Next, next_of, next_out, in_turn, IsNextAt, emitted, emitted_octets, emitted_front, after_segment_sent}
use Rattle.sockets.proofs.Firsts.{find-position}
use Rattle.sockets.proofs.InTurn.{turn_passes}
use Rattle.sockets.proofs.Opened.{found_passes}

-- What an entry has due.

-- each datagram is in its place
datagrams_due-at : (n : ℕ) (outbox : List OutDatagram) (place m : ℕ) (peer : Endpoint) → m ≡ n + place → peer_at place outbox ≡ Some peer → slice_get (datagrams_due n outbox) place ≡ Some (peer, Datagram m)
datagrams_due-at n [] place m peer at is = cc
datagrams_due-at n (o ∷ rest) zero m peer at is =
    let same : o.peer ≡ peer = cc in
    let here : n ≡ m = omega (arith, at) in
    ap (λ (p : Endpoint). Some (p, Datagram n)) same ∙ ap (λ (k : ℕ). Some (peer, Datagram k)) here
datagrams_due-at n (o ∷ rest) (suc place) m peer at is = datagrams_due-at (n + 1) rest place m peer (omega (arith, at)) is

datagrams_due-past : (n : ℕ) (outbox : List OutDatagram) (place : ℕ) → peer_at place outbox ≡ None → slice_get (datagrams_due n outbox) place ≡ None
datagrams_due-past n [] place is = refl
datagrams_due-past n (o ∷ rest) zero is = cc
datagrams_due-past n (o ∷ rest) (suc place) is = datagrams_due-past (n + 1) rest place is

-- what a socket has in a place, by whom the datagram there is for
pub datagram_at : (bound : Option Endpoint) (socket : SocketView) (place : ℕ) (peer : Option Endpoint) → peer_at place socket.outbox ≡ peer
    → slice_get (dues_of (Datagrams bound socket)) place ≡ option_map (λ (p : Endpoint). (p, Datagram place)) peer
datagram_at bound socket place None is = datagrams_due-past 0 socket.outbox place is
datagram_at bound socket place (Some peer) is = datagrams_due-at 0 socket.outbox place place peer (omega arith) is

-- there are as many as wait
pub datagrams_due-length : (n : ℕ) (outbox : List OutDatagram) → length (datagrams_due n outbox) ≡ length outbox
datagrams_due-length n [] = refl
datagrams_due-length n (o ∷ rest) = ap suc (datagrams_due-length (n + 1) rest)

pub datagrams_few : (role : Role) (bound : Option Endpoint) (socket : SocketView) (n : ℕ) → role ≡ Datagrams bound socket → n ≡ length socket.outbox → length (dues_of role) ≤ n
datagrams_few role bound socket n is waiting =
    let same : length (dues_of role) ≡ length socket.outbox = ap (λ (r : Role). length (dues_of r)) is ∙ datagrams_due-length 0 socket.outbox in
    omega (arith, same, waiting)

pub no_datagram : (role : Role) (bound : Option Endpoint) (socket : SocketView) (place : ℕ) → role ≡ Datagrams bound socket → peer_at place socket.outbox ≡ None → slice_get (dues_of role) place ≡ None
no_datagram role bound socket place is none = ap (λ (r : Role). slice_get (dues_of r) place) is ∙ datagram_at bound socket place None none

pub that_datagram : (role : Role) (bound : Option Endpoint) (socket : SocketView) (place : ℕ) (peer : Endpoint) → role ≡ Datagrams bound socket → peer_at place socket.outbox ≡ Some peer
    → slice_get (dues_of role) place ≡ Some (peer, Datagram place)
that_datagram role bound socket place peer is some = ap (λ (r : Role). slice_get (dues_of r) place) is ∙ datagram_at bound socket place (Some peer) some

-- and one segment of a connection at most
one_segment : (peer : Endpoint) (o : Option Due) → length (segment_due peer o) ≤ 1
one_segment peer None = omega arith
one_segment peer (Some due) = omega arith

pub segments_few : (role : Role) (c : View) (listener : Option SocketId) → role ≡ Connected c listener → length (dues_of role) ≤ 1
segments_few role c listener is = subst (λ (r : Role). length (dues_of r) ≤ 1) (sym is) (one_segment c.peer (first_due c))

pub no_segment : (role : Role) (c : View) (listener : Option SocketId) (place : ℕ) → role ≡ Connected c listener → 0 < place → slice_get (dues_of role) place ≡ None
no_segment role c listener place is behind = slice_get_past (dues_of role) place (omega (arith, behind, segments_few role c listener is))

-- the first datagram that may go out: in which place it is, and to whom
pub record IsFirstDatagram (goes : Addr → Bool) (outbox : List OutDatagram) (n : ℕ) (due : Endpoint × Outgoing) : Type 0 where
  pub place : ℕ
  pub what : due.1 ≡ Datagram (n + place)
  pub first : first_that goes outbox ≡ Some place
  pub peer : peer_at place outbox ≡ Some due.0
  pub passes : goes due.0.addr ≡ true

first_datagram-from : (goes : Addr → Bool) (outbox : List OutDatagram) (n : ℕ) (due : Endpoint × Outgoing) → find (λ (d : Endpoint × Outgoing). goes d.0.addr) (datagrams_due n outbox) ≡ Some due → IsFirstDatagram goes outbox n due
first_datagram-from goes [] n due is = cc
first_datagram-from goes (o ∷ rest) n due is = by_test (first_datagram-from goes rest (n + 1) due) (goes o.peer.addr) refl is
  where
    later : IsFirstDatagram goes rest (n + 1) due → goes o.peer.addr ≡ false → IsFirstDatagram goes (o ∷ rest) n due
    later further fails =
        let here : n + 1 + further.place ≡ n + suc further.place = omega arith in
        record {
          place = suc further.place;
          what = further.what ∙ ap Datagram here;
          first = ap (λ (b : Bool). cond b (Some 0) (option_map suc (first_that goes rest))) fails ∙ ap (option_map suc) further.first;
          peer = further.peer;
          passes = further.passes;
        }

    by_test : (find (λ (d : Endpoint × Outgoing). goes d.0.addr) (datagrams_due (n + 1) rest) ≡ Some due → IsFirstDatagram goes rest (n + 1) due) → (b : Bool) → goes o.peer.addr ≡ b
        → cond b (Some (o.peer, Datagram n)) (find (λ (d : Endpoint × Outgoing). goes d.0.addr) (datagrams_due (n + 1) rest)) ≡ Some due → IsFirstDatagram goes (o ∷ rest) n due
    by_test further true passes is =
        let same : (let s : Endpoint × Outgoing = (o.peer, Datagram n) in s) ≡ due = cc in
        let here : n ≡ n + 0 = omega arith in
        subst (IsFirstDatagram goes (o ∷ rest) n) same (record { place = 0; what = ap Datagram here; first = ap (λ (b : Bool). cond b (Some 0) (option_map suc (first_that goes rest))) passes; peer = refl; passes = passes })
    by_test further false fails is = later (further is) fails

pub first_datagram : (goes : Addr → Bool) (bound : Option Endpoint) (socket : SocketView) (due : Endpoint × Outgoing) → due_to goes (Datagrams bound socket) ≡ Some due → IsFirstDatagram goes socket.outbox 0 due
first_datagram goes bound socket due is = first_datagram-from goes socket.outbox 0 due is

-- the segment that a connection has due
pub record IsFirstSegment (goes : Addr → Bool) (c : View) (due : Endpoint × Outgoing) : Type 0 where
  pub segment : Due
  pub first : first_due c ≡ Some segment
  pub is : (c.peer, Segment segment) ≡ due
  pub passes : goes c.peer.addr ≡ true

pub first_segment : (goes : Addr → Bool) (c : View) (listener : Option SocketId) (due : Endpoint × Outgoing) → due_to goes (Connected c listener) ≡ Some due → IsFirstSegment goes c due
first_segment goes c listener due is = by_due (first_due c) refl is
  where
    by_test : (d : Due) → first_due c ≡ Some d → (b : Bool) → goes c.peer.addr ≡ b → cond b (Some (c.peer, Segment d)) None ≡ Some due → IsFirstSegment goes c due
    by_test d first true passes is = record { segment = d; first = first; is = (let same : (let s : Endpoint × Outgoing = (c.peer, Segment d) in s) ≡ due = cc in same); passes = passes }
    by_test d first false fails is = cc

    by_due : (o : Option Due) → first_due c ≡ o → find (λ (d : Endpoint × Outgoing). goes d.0.addr) (segment_due c.peer o) ≡ Some due → IsFirstSegment goes c due
    by_due None first is = cc
    by_due (Some d) first is = by_test d first (goes c.peer.addr) refl is

-- a connection has a segment due where something of it may go out
pub segment_sends : (goes : Addr → Bool) (c : View) (listener : Option SocketId) → is_some (due_to goes (Connected c listener)) ≡ true → is_some (first_due c) ≡ true
segment_sends goes c listener some = by_due (due_to goes (Connected c listener)) refl some
  where
    by_due : (o : Option (Endpoint × Outgoing)) → due_to goes (Connected c listener) ≡ o → is_some o ≡ true → is_some (first_due c) ≡ true
    by_due None is some = cc
    by_due (Some due) is some = ap (λ (o : Option Due). is_some o) ((first_segment goes c listener due is).first)

-- what is due is what there is to send
pub due_outgoing : (goes : Addr → Bool) (role : Role) (due : Endpoint × Outgoing) → due_to goes role ≡ Some due → HasOutgoing role due.1
due_outgoing goes (Connected c listener) due is =
    let first = first_segment goes c listener due is in
    subst (λ (s : Endpoint × Outgoing). HasOutgoing (Connected c listener) s.1) first.is first.first
due_outgoing goes (Datagrams bound socket) due is =
    let first = first_datagram goes bound socket due is in
    subst (HasOutgoing (Datagrams bound socket)) (sym first.what) (waits first.place (0 + first.place) (omega arith) (slice_get socket.outbox first.place) refl first.peer)
  where
    waits : (place at : ℕ) → at ≡ place → (o : Option OutDatagram) → slice_get socket.outbox place ≡ o → option_map (λ (x : OutDatagram). x.peer) o ≡ Some due.0 → at < length socket.outbox
    waits place at same None there is = cc
    waits place at same (Some o) there is = let within = slice_get_within socket.outbox place o there in omega (arith, within, same)
due_outgoing goes (Listener local backlog) due is = cc
due_outgoing goes (Idle buffers bound) due is = cc

-- it is for an address that passes
pub due_passes : (goes : Addr → Bool) (role : Role) (due : Endpoint × Outgoing) → due_to goes role ≡ Some due → goes due.0.addr ≡ true
due_passes goes role due is = found_passes (λ (d : Endpoint × Outgoing). goes d.0.addr) (dues_of role) due is

-- What goes out next.

-- what the first entry that sends has to send
pub sends_due : (goes : Addr → Bool) (e : Entry) → sends goes e ≡ true → (due : Endpoint × Outgoing) × (due_to goes e.role ≡ Some due)
sends_due goes e some = by_due (due_to goes e.role) refl some
  where
    by_due : (o : Option (Endpoint × Outgoing)) → due_to goes e.role ≡ o → is_some o ≡ true → (due : Endpoint × Outgoing) × (due_to goes e.role ≡ Some due)
    by_due None is some = cc
    by_due (Some due) is some = (due, is)

-- what the turn comes to sends
pub found_sends : (h : SocketsView) (goes : Addr → Bool) (e : Entry) → find (in_turn h (sends goes)) h.entries ≡ Some e → sends goes e ≡ true
found_sends h goes e found = turn_passes h (sends goes) e (found_passes (in_turn h (sends goes)) h.entries e found)

pub found_due : (h : SocketsView) (goes : Addr → Bool) (e : Entry) → find (in_turn h (sends goes)) h.entries ≡ Some e → (due : Endpoint × Outgoing) × (due_to goes e.role ≡ Some due)
found_due h goes e found = sends_due goes e (found_sends h goes e found)

pub next-found : (h : SocketsView) (goes : Addr → Bool) (e : Entry) (due : Endpoint × Outgoing) → find (in_turn h (sends goes)) h.entries ≡ Some e → due_to goes e.role ≡ Some due
    → next_out h goes ≡ Some (record { entry = e; peer = due.0; what = due.1 })
next-found h goes e due found is = ap (option_and_then (next_of goes)) found ∙ ap (λ (o : Option (Endpoint × Outgoing)). option_map (λ (d : Endpoint × Outgoing). let n : Next = record { entry = e; peer = d.0; what = d.1 } in n) o) is

pub next-none : (h : SocketsView) (goes : Addr → Bool) → find (in_turn h (sends goes)) h.entries ≡ None → next_out h goes ≡ None
next-none h goes none = ap (option_and_then (next_of goes)) none

-- it is in its place
pub record IsNextEntry (h : SocketsView) (goes : Addr → Bool) (x : Entry) (what : Outgoing) : Type 0 where
  pub due : Endpoint × Outgoing
  pub found : find (in_turn h (sends goes)) h.entries ≡ Some x
  pub is : due_to goes x.role ≡ Some due
  pub same : due.1 ≡ what

pub next-at : (h : SocketsView) (goes : Addr → Bool) (place : ℕ) (what : Outgoing) (x : Entry) → IsNextAt h goes place what → x ≡ get_or h.entries place x → IsNextEntry h goes x what
next-at h goes place what x next at =
    let found = find-position (in_turn h (sends goes)) h.entries place x next.0 at in
    let due = found_due h goes x found in
    let told : option_map (λ (n : Next). n.what) (next_out h goes) ≡ Some due.0.1 = ap (λ (o : Option Next). option_map (λ (n : Next). n.what) o) (next-found h goes x due.0 found due.1) in
    record { due = due.0; found = found; is = due.1; same = (let both = sym told ∙ next.1 in cc) }

-- the entry that sends changes, or is taken out
pub segment_sent-found : (h : SocketsView) (goes : Addr → Bool) (now : Moment) (e : Entry) (due : Endpoint × Outgoing) → find (in_turn h (sends goes)) h.entries ≡ Some e → due_to goes e.role ≡ Some due
    → after_segment_sent h goes now ≡ record h { turn = e.id; entries = entries_after_step (emission_fate_of (role_after_emission (later_moment h now) due.1 e.role)) (in_turn h (sends goes)) (role_after_emission (later_moment h now) due.1) h.entries }
segment_sent-found h goes now e due found is = rw (next-found h goes e due found is) refl

pub segment_sent-none : (h : SocketsView) (goes : Addr → Bool) (now : Moment) → find (in_turn h (sends goes)) h.entries ≡ None → after_segment_sent h goes now ≡ h
segment_sent-none h goes now none = rw (next-none h goes none) refl

-- what is told of what goes out, and its octets
pub emitted-found : (h : SocketsView) (goes : Addr → Bool) (e : Entry) (due : Endpoint × Outgoing) → find (in_turn h (sends goes)) h.entries ≡ Some e → due_to goes e.role ≡ Some due → emitted h goes ≡ due_emitted due.1 e.role
emitted-found h goes e due found is = rw (next-found h goes e due found is) refl

pub emitted_octets-found : (h : SocketsView) (goes : Addr → Bool) (e : Entry) (due : Endpoint × Outgoing) → find (in_turn h (sends goes)) h.entries ≡ Some e → due_to goes e.role ≡ Some due → emitted_octets h goes ≡ due_octets h.addr due.1 e.role
emitted_octets-found h goes e due found is = rw (next-found h goes e due found is) refl

pub emitted_front-found : (h : SocketsView) (goes : Addr → Bool) (out : List ℕ) (e : Entry) (due : Endpoint × Outgoing) → find (in_turn h (sends goes)) h.entries ≡ Some e → due_to goes e.role ≡ Some due → emitted_front h goes out ≡ due_front h.addr due.1 e.role out
emitted_front-found h goes out e due found is = rw (next-found h goes e due found is) refl

pub emitted-none : (h : SocketsView) (goes : Addr → Bool) → find (in_turn h (sends goes)) h.entries ≡ None → emitted h goes ≡ None
emitted-none h goes none = rw (next-none h goes none) refl
