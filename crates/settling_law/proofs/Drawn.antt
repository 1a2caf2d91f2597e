-- What a frame that comes to a host leaves it to send: one reply more at most, and none where the frame is an answer itself.
use Rattle.std.proofs.Common.{◌≡◌, ℕ, ◌+◌, ◌≤◌, ◌&&◌, ◌||◌, not, Bool, true, false, cond, if◌then◌else◌, List, [], ◌∷◌, Option, Some, None, Result, Ok, Err, refl, sym, ◌∙◌, ap, subst, arith}
use Rattle.std.specs.List.{find, sum_by}
use Rattle.std.proofs.lemmas.List.Sums.{sum_by-cons, sum_by_push}
use Rattle.ipv4.specs.declared.addr.Addr.{Addr}
use Rattle.ipv4.specs.declared.addr.Endpoint.{Endpoint}
use Rattle.ipv4.specs.Addresses.{same_addr}
use Rattle.ipv4.specs.Datagram.{Datagram}
use Rattle.clock.specs.declared.moment.Moment.{Moment}
use Rattle.arp.specs.declared.packet.ArpPacket.{ArpPacket}
use Rattle.arp.specs.Cache.{is_request, requests_left}
use Rattle.arp.specs.Packet.{reply_to}
use Rattle.icmp.specs.declared.error.Reason.TheVariants.{PortUnreachable, ProtocolUnreachable}
use Rattle.icmp.specs.declared.quote.Quote.{Quote}
use Rattle.tcp_segment.specs.Segment.{Segment}
use Rattle.tcp_state.specs.declared.connection.Fate.{Fate}
use Rattle.tcp_state.specs.declared.connection.Fate.TheVariants.{Stays, Removed, Rejected}
use Rattle.tcp_state.specs.Arrival.{after_segment, ends_opening, fate, is_lost, is_rejected, opened_passively}
use Rattle.tcp_state.specs.View.{View, is_closed, is_over}
use Rattle.udp.specs.declared.fault.UdpFault.{UdpFault}
use Rattle.udp.specs.Datagram.{UserDatagram}
use Rattle.udp.specs.Reading.{datagram_or_fault}
use Rattle.frames.specs.declared.drop.DropCause.{DropCause}
use Rattle.frames.specs.declared.meaning.Control.{Control}
use Rattle.frames.specs.declared.meaning.Meaning.{Meaning}
use Rattle.frames.specs.declared.meaning.Meaning.TheVariants.{Arp, Tcp, Icmp, Udp, UdpFragment, Other}
use Rattle.interface.specs.declared.reply.Reply.{Reply}
use Rattle.interface.specs.declared.reply.Reply.TheVariants as answer
use Rattle.interface.specs.declared.reply.Waiting.{Waiting}
use Rattle.interface.specs.InterfaceView.{InterfaceView}
use Rattle.interface.specs.Replies.{after_report, is_full, learnt, owed, queued}
use Rattle.interface.specs.Ways.{is_routed}
use Rattle.reassembly.specs.Fragments.{quote_of}
use Rattle.reassembly.specs.Places.{after_take}
use Rattle.reassembly.specs.Reassembly.{Outcome, PoolView}
use Rattle.reassembly.specs.Reassembly.Outcome.{Waits, Completes, GivesUp}
use Rattle.sockets.specs.declared.datagrams.Reception.{Reception}
use Rattle.sockets.specs.declared.datagrams.Reception.TheVariants as socket
use Rattle.sockets.specs.declared.entry.Entry.{Entry}
use Rattle.sockets.specs.declared.role.Role.{Role}
use Rattle.sockets.specs.declared.role.Role.TheVariants.{Idle, Listener, Connected, Datagrams}
use Rattle.sockets.specs.Arrival.{Arrival, Becomes, Opens, NoRoom, Answers, after_opening, arrival, arrival_alone, arrival_at_connection, arrival_with_reply, has_no_room, is_opening, local_end, opening, peer_end, room_for}
use Rattle.sockets.specs.Datagrams.{after_reception, reception}
use Rattle.sockets.specs.Entries.{entries_after_step, fate_of, is_between, is_datagrams_at, is_kept, is_listening_at, new_waiting, role_after_reception, role_after_segment, role_after_unreachable, unreachable_fate_of, with_role}
use Rattle.sockets.specs.Lists.{change_first, remove_first}
use Rattle.sockets.specs.Replies.{answer_at_listener, reset_at_ack, reset_past}
use Rattle.sockets.specs.SocketsView.{SocketsView, later_moment}
use Rattle.sockets.specs.Unreachable.{after_unreachable}
use Rattle.host.specs.Arrival.{MeetsHeard, MeetsSegment, MeetsMessage, MeetsFragment, after_outcome, after_payload, after_user_datagram, arrival_by_route, fragment_outcome, is_late_copy, pool_for, with_noted}
use Rattle.host.specs.HostView.{HostView, with_interface, with_pool, with_sockets}
use Rattle.host.specs.Messages.{Asks, error_of_quote, is_echo_request, refused_quote}
use Rattle.settling_law.proofs.Left.{parts_in, parts_of, replies_weigh, weight_of, weighs}

-- who hears this answers nothing
abbrev pub is_answer : Meaning → Bool
is_answer (Arp packet) = not (is_request packet.operation)
is_answer (Tcp r) = r.segment.flags.rst
is_answer (Icmp c) = not (is_echo_request c.message)
is_answer (Udp r) = false
is_answer (UdpFragment d) = false
is_answer (Other d) = false

-- what may be drawn
abbrev pub draws : Bool → ℕ
draws answers = if answers then 0 else 1

-- Sums over a list of which some elements count for less, or are gone.

changed : {X : Type 0} (f : X → ℕ) (test : X → Bool) (change : X → X) → ((x : X) → f (change x) ≤ f x) → (xs : List X) → sum_by f (change_first test change xs) ≤ sum_by f xs
changed f test change less [] = omega arith
changed {X} f test change less (x ∷ xs) = by_test (test x) (changed f test change less xs)
  where
    by_test : (b : Bool) → sum_by f (change_first test change xs) ≤ sum_by f xs → sum_by f (cond b (change x ∷ xs) (x ∷ change_first test change xs)) ≤ sum_by f (x ∷ xs)
    by_test true rest = omega (arith, less x, sum_by-cons f (change x) xs, sum_by-cons f x xs)
    by_test false rest = omega (arith, rest, sum_by-cons f x (change_first test change xs), sum_by-cons f x xs)

taken_out : {X : Type 0} (f : X → ℕ) (test : X → Bool) (xs : List X) → sum_by f (remove_first test xs) ≤ sum_by f xs
taken_out f test [] = omega arith
taken_out {X} f test (x ∷ xs) = by_test (test x) (taken_out f test xs)
  where
    by_test : (b : Bool) → sum_by f (remove_first test xs) ≤ sum_by f xs → sum_by f (cond b xs (x ∷ remove_first test xs)) ≤ sum_by f (x ∷ xs)
    by_test true rest = omega (arith, sum_by-cons f x xs)
    by_test false rest = omega (arith, rest, sum_by-cons f x (remove_first test xs), sum_by-cons f x xs)

module _ (known : Addr → Bool) where
  role_changed : (test : Entry → Bool) (change : Role → Role) → ((role : Role) → parts_of known (change role) ≤ parts_of known role) → (xs : List Entry) → parts_in known (change_first test (with_role change) xs) ≤ parts_in known xs
  role_changed test change less xs = changed (λ (x : Entry). parts_of known x.role) test (with_role change) (λ x. less x.role) xs

  stepped : (fate : Fate) (test : Entry → Bool) (change : Role → Role) → ((role : Role) → parts_of known (change role) ≤ parts_of known role) → (xs : List Entry) → parts_in known (entries_after_step fate test change xs) ≤ parts_in known xs
  stepped fate test change less xs = by_fate (is_kept fate)
    where
      by_fate : (b : Bool) → parts_in known (cond b (change_first test (with_role change) xs) (remove_first test xs)) ≤ parts_in known xs
      by_fate true = role_changed test change less xs
      by_fate false = taken_out (λ (x : Entry). parts_of known x.role) test xs

  -- No entry has more to send.

  segment_role : (now : Moment) (s : Segment) (role : Role) → parts_of known (role_after_segment now s role) ≤ parts_of known role
  segment_role now s (Connected c listener) = omega arith
  segment_role now s (Listener local backlog) = omega arith
  segment_role now s (Idle buffers bound) = omega arith
  segment_role now s (Datagrams bound socket) = omega arith

  error_role : (number : ℕ) (role : Role) → parts_of known (role_after_unreachable number role) ≤ parts_of known role
  error_role number (Connected c listener) = omega arith
  error_role number (Listener local backlog) = omega arith
  error_role number (Idle buffers bound) = omega arith
  error_role number (Datagrams bound socket) = omega arith

  datagram_role : (from : Endpoint) (octets : List ℕ) (role : Role) → parts_of known (role_after_reception from octets role) ≤ parts_of known role
  datagram_role from octets (Connected c listener) = omega arith
  datagram_role from octets (Listener local backlog) = omega arith
  datagram_role from octets (Idle buffers bound) = omega arith
  datagram_role from octets (Datagrams bound socket) = omega arith

  -- A reset draws no reset.

  rejects_no_reset : (c : View) (s : Segment) → fate c s ≡ Rejected → s.flags.rst ≡ false
  rejects_no_reset c s = by_tests (is_closed c.state || is_lost c s) (is_over (after_segment c s)) s.flags.rst refl (ends_opening c s)
    where
      ends : (d : Bool) → (if d then Removed else Stays) ≡ Rejected → true ≡ false
      ends true same = cc
      ends false same = cc

      by_tests : (a b rst : Bool) → s.flags.rst ≡ rst → (d : Bool) → (if a then Stays else if b then Removed else if is_rejected c s then Rejected else if d then Removed else Stays) ≡ Rejected → rst ≡ false
      by_tests a b false is d same = refl
      by_tests true b true is d same = cc
      by_tests false true true is d same = cc
      by_tests false false true is d same =
          let none : is_rejected c s ≡ false = rw is refl in
          let kept : (if d then Removed else Stays) ≡ Rejected = sym (ap (λ (b : Bool). if b then Rejected else if d then Removed else Stays) none) ∙ same in
          ends d kept

  role_rejects : (s : Segment) (role : Role) → fate_of s role ≡ Rejected → s.flags.rst ≡ false
  role_rejects s (Connected c listener) is = rejects_no_reset c s is
  role_rejects s (Listener local backlog) is = cc
  role_rejects s (Idle buffers bound) is = cc
  role_rejects s (Datagrams bound socket) is = cc

  -- What a segment leads to.
  abbrev Fits : SocketsView → Bool → Arrival → Type 0
  Fits old rst (Becomes next) = parts_in known next.entries ≤ parts_in known old.entries
  Fits old rst (Opens next) = parts_in known next.entries ≤ parts_in known old.entries
  Fits old rst NoRoom = Unit {0}
  Fits old rst (Answers head) = rst ≡ false

  alone : (h : SocketsView) (moment : Moment) (isn : ℕ) (source : Addr) (s : Segment) → Fits h s.flags.rst (arrival_alone h moment isn source s)
  alone h moment isn source s = by_listener (find (is_listening_at s.destination) h.entries) refl
    where
      unheard : (rst ack : Bool) → Fits h rst (arrival_with_reply h (if rst then None else Some (if ack then reset_at_ack s else reset_past s)))
      unheard true ack = omega arith
      unheard false ack = refl

      answered : (rst ack : Bool) → Fits h rst (arrival_with_reply h (if rst then None else if ack then Some (reset_at_ack s) else None))
      answered true ack = omega arith
      answered false true = refl
      answered false false = omega arith

      opened : (listener : Entry) (full : Bool) → Fits h s.flags.rst (if full then NoRoom else Opens (after_opening h moment isn listener source s))
      opened listener true = tt
      opened listener false = (let t = after_opening h moment isn listener source s in omega (arith, sum_by_push (λ (e : Entry). parts_of known e.role) h.entries (new_waiting (record { 0 = h.last_id + 1 }) listener.id (opened_passively (room_for h s) (local_end h s) (peer_end source s) isn s moment))))

      at_listener : (listener : Entry) (opens : Bool) → Fits h s.flags.rst (if opens then opening h moment isn source s listener else arrival_with_reply h (answer_at_listener s))
      at_listener listener true = opened listener (has_no_room h listener)
      at_listener listener false = answered s.flags.rst s.flags.ack

      by_listener : (o : Option Entry) → find (is_listening_at s.destination) h.entries ≡ o → Fits h s.flags.rst (arrival_alone h moment isn source s)
      by_listener None none = rw none (unheard s.flags.rst s.flags.ack)
      by_listener (Some listener) found = rw found (at_listener listener (is_opening s.flags))

  arrives : (h : SocketsView) (moment : Moment) (isn : ℕ) (source : Addr) (s : Segment) → Fits h s.flags.rst (arrival h moment isn source s)
  arrives h moment isn source s = by_entry (find (is_between (local_end h s) (peer_end source s)) h.entries) refl
    where
      at_connection : (e : Entry) (x : Fate) → fate_of s e.role ≡ x → Fits h s.flags.rst (arrival_at_connection h moment source s e x)
      at_connection e Rejected is = role_rejects s e.role is
      at_connection e Stays is = stepped Stays (is_between (local_end h s) (peer_end source s)) (role_after_segment (later_moment h moment) s) (segment_role (later_moment h moment) s) h.entries
      at_connection e Removed is = stepped Removed (is_between (local_end h s) (peer_end source s)) (role_after_segment (later_moment h moment) s) (segment_role (later_moment h moment) s) h.entries

      by_entry : (o : Option Entry) → find (is_between (local_end h s) (peer_end source s)) h.entries ≡ o → Fits h s.flags.rst (arrival h moment isn source s)
      by_entry None none = rw none (alone h (later_moment h moment) isn source s)
      by_entry (Some e) found = rw found (at_connection e (fate_of s e.role) refl)

  unreached : (h : SocketsView) (local peer : Endpoint) (number : ℕ) → (let t = after_unreachable h local peer number in parts_in known t.entries) ≤ parts_in known h.entries
  unreached h local peer number = by_entry (find (is_between local peer) h.entries) refl
    where
      by_entry : (o : Option Entry) → find (is_between local peer) h.entries ≡ o → (let t = after_unreachable h local peer number in parts_in known t.entries) ≤ parts_in known h.entries
      by_entry None none = rw none (omega arith)
      by_entry (Some e) found = rw found (stepped (unreachable_fate_of number e.role) (is_between local peer) (role_after_unreachable number) (error_role number) h.entries)

  received : (h : SocketsView) (source : Addr) (d : UserDatagram) → (let t = after_reception h source d in parts_in known t.entries) ≤ parts_in known h.entries
  received h source d = by_reception (reception h d) refl
    where
      by_reception : (x : Reception) → reception h d ≡ x → (let t = after_reception h source d in parts_in known t.entries) ≤ parts_in known h.entries
      by_reception socket.Queued is = rw is (role_changed (is_datagrams_at d.destination) (role_after_reception (record { addr = source; port = d.source }) d.payload) (datagram_role (record { addr = source; port = d.source }) d.payload) h.entries)
      by_reception socket.NoRoom is = rw is (omega arith)
      by_reception socket.NoSocket is = rw is (omega arith)

  -- A reply begins to wait.
  owes : (h : HostView) (moment : Moment) (is_owed : Bool) (r : Reply) (i : InterfaceView) → weight_of r ≡ 1 → weighs known (with_interface h (owed is_owed moment r i)) moment ≤ weighs known (with_interface h i) moment + 1
  owes h moment is_owed r i one = by_room (is_owed && not (is_full i))
    where
      by_room : (b : Bool) → weighs known (with_interface h (if b then queued moment r i else i)) moment ≤ weighs known (with_interface h i) moment + 1
      by_room true = omega (arith, one, sum_by_push (λ (w : Waiting). weight_of w.reply) i.replies (record { since = moment; reply = r }))
      by_room false = omega arith

  module _ (h : HostView) (moment : Moment) (new : HostView) where
    abbrev More : ℕ → Type 0
    More n = weighs known new moment ≤ weighs known h moment + n

    is_so : (g : HostView) (n : ℕ) → new ≡ g → weighs known g moment ≤ weighs known h moment + n → More n
    is_so g n same less = subst (λ (x : HostView). weighs known x moment ≤ weighs known h moment + n) (sym same) less

    stays : (g : HostView) (n : ℕ) → new ≡ g → weighs known g moment ≡ weighs known h moment → More n
    stays g n same is = is_so g n same (omega (arith, is))

    table : (next : SocketsView) (n : ℕ) → new ≡ with_sockets h next → parts_in known next.entries ≤ parts_in known h.sockets.entries → More n
    table next n same less = is_so (with_sockets h next) n same (omega (arith, less))

    replies : (is_owed : Bool) (r : Reply) → weight_of r ≡ 1 → new ≡ with_interface h (owed is_owed moment r h.interface) → More 1
    replies is_owed r one same = is_so (with_interface h (owed is_owed moment r h.interface)) 1 same (owes h moment is_owed r h.interface one)

    packet : (p : ArpPacket) (for_us asks : Bool) → new ≡ with_interface h (owed (for_us && asks) moment (answer.Arp (reply_to p h.interface.mac)) (learnt moment p h.interface)) → More (draws (not asks))
    packet p true true same = is_so (with_interface h (owed true moment (answer.Arp (reply_to p h.interface.mac)) (learnt moment p h.interface))) 1 same (owes h moment true (answer.Arp (reply_to p h.interface.mac)) (learnt moment p h.interface) refl)
    packet p true false same = stays (with_interface h (learnt moment p h.interface)) 0 same refl
    packet p false true same = stays (with_interface h (learnt moment p h.interface)) 1 same refl
    packet p false false same = stays (with_interface h (learnt moment p h.interface)) 0 same refl

    segment : (source : Addr) (rst routed : Bool) (a : Arrival) → Fits h.sockets rst a → (r : Result (Unit {0}) DropCause) → MeetsSegment (arrival_by_route routed a) h moment source r new → More (draws rst)
    segment source rst routed (Becomes next) fits r met = table next (draws rst) met.1 fits
    segment source rst true (Opens next) fits (Ok done) met = table next (draws rst) met fits
    segment source rst true (Opens next) fits (Err cause) met = stays h (draws rst) met.1 refl
    segment source rst false (Opens next) fits r met = stays h (draws rst) met.1 refl
    segment source rst routed NoRoom fits r met = stays h (draws rst) met.1 refl
    segment source rst routed (Answers head) fits r met = subst (λ (b : Bool). More (draws b)) (sym fits) (replies (is_routed h.interface source) (answer.Reset source head) refl met.1)

    message : (c : Control) (asks : Bool) (q : Option Quote) (r : Result (Unit {0}) DropCause) → MeetsMessage (if asks then Asks else error_of_quote q) h moment c r new → More (draws (not asks))
    message c true q r met = replies (is_routed h.interface c.source) (answer.Echo c.source c.message.identifier c.message.number c.message.payload) refl met.1
    message c false None r met = stays h 0 met.1 refl
    message c false (Some quote) r met = table (after_unreachable h.sockets quote.source quote.destination quote.number) 0 met.1 (unreached h.sockets quote.source quote.destination quote.number)

    user : (g : HostView) → g.sockets ≡ h.sockets → g.interface ≡ h.interface → (to : Reception) (source : Addr) (d : UserDatagram) (quote : List ℕ) → new ≡ after_user_datagram to g moment source d quote → More 1
    user g same faces socket.Queued source d quote is =
        is_so (with_sockets g (after_reception g.sockets source d)) 1 is
        (omega (arith, received g.sockets source d, ap (λ (t : SocketsView). parts_in known t.entries) same, ap (λ (x : InterfaceView). replies_weigh x.replies) faces, ap (λ (x : InterfaceView). requests_left moment x.cache.asked) faces))
    user g same faces socket.NoRoom source d quote is =
        is_so g 1 is (omega (arith, ap (λ (t : SocketsView). parts_in known t.entries) same, ap (λ (x : InterfaceView). replies_weigh x.replies) faces, ap (λ (x : InterfaceView). requests_left moment x.cache.asked) faces))
    user g same faces socket.NoSocket source d quote is =
        is_so (with_interface g (after_report g.interface moment source PortUnreachable quote)) 1 is
        (omega (arith, owes g moment (is_routed g.interface source) (answer.Error source PortUnreachable quote) g.interface refl, ap (λ (t : SocketsView). parts_in known t.entries) same, ap (λ (x : InterfaceView). replies_weigh x.replies) faces, ap (λ (x : InterfaceView). requests_left moment x.cache.asked) faces))

    payload : (g : HostView) → g.sockets ≡ h.sockets → g.interface ≡ h.interface → (read : Result UserDatagram UdpFault) (source : Addr) (quote : List ℕ) → new ≡ after_payload read g moment source quote → More 1
    payload g same faces (Ok d) source quote is = user g same faces (reception g.sockets d) source d _ is
    payload g same faces (Err fault) source quote is =
        is_so g 1 is (omega (arith, ap (λ (t : SocketsView). parts_in known t.entries) same, ap (λ (x : InterfaceView). replies_weigh x.replies) faces, ap (λ (x : InterfaceView). requests_left moment x.cache.asked) faces))

    outcome : (pool : PoolView) (x : Outcome) (d : Datagram) → new ≡ after_outcome x (with_pool h pool) moment d → More 1
    outcome pool (Waits r) d is = stays (with_pool h pool) 1 is refl
    outcome pool GivesUp d is = stays (with_pool h pool) 1 is refl
    outcome pool (Completes whole quote) d is = payload (with_noted (with_pool h pool) moment d) refl refl (datagram_or_fault d.source d.destination whole) d.source quote is

    fragment : (x : Option Outcome) (late : Bool) (d : Datagram) (r : Result (Unit {0}) DropCause) → MeetsFragment x late h moment d r new → More 1
    fragment None late d r met = stays h 1 met.1 refl
    fragment (Some x) true d r met = stays h 1 met.1 refl
    fragment (Some x) false d r met = outcome (after_take moment d (pool_for h.sockets.manner.guards d h.pool)) x d met.1

    pub comes : (isn : ℕ) (m : Meaning) (r : Result (Unit {0}) DropCause) → MeetsHeard (Ok m) h moment isn r new → More (draws (is_answer m))
    comes isn (Arp p) r met = packet p (same_addr p.target_addr h.interface.addr) (is_request p.operation) met.1
    comes isn (Tcp c) r met = segment c.source c.segment.flags.rst (is_routed h.interface c.source) (arrival h.sockets moment isn c.source c.segment) (arrives h.sockets moment isn c.source c.segment) r met
    comes isn (Icmp c) r met = message c (is_echo_request c.message) (refused_quote c.message) r met
    comes isn (Udp c) r met = user h refl refl (reception h.sockets c.datagram) c.carrier.source c.datagram _ met.1
    comes isn (UdpFragment d) r met = fragment (fragment_outcome moment d (pool_for h.sockets.manner.guards d h.pool)) (is_late_copy h moment d) d r met
    comes isn (Other d) r met = replies (is_routed h.interface d.source) (answer.Error d.source ProtocolUnreachable (quote_of d)) refl met.1

    pub dropped : (isn : ℕ) (cause r : Result (Unit {0}) DropCause) (c : DropCause) → MeetsHeard (Err c) h moment isn r new → More 0
    dropped isn cause r c met = stays h 0 met.1 refl
