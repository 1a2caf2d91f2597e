-- Why a frame moves the streams of no connection that it may not reach.
use Rattle.std.proofs.Common.{◌≡◌, ◌⊎◌, inl, inr, ℕ, ◌==◌, ◌&&◌, ◌||◌, not, Bool, true, false, if◌then◌else◌, List, [], ◌∷◌, ◌++◌, Option, Some, None, Result, Ok, Err, option_and_then, refl, sym, ◌∙◌, ap, subst, nat_lt, ◌<◌, ◌≤◌, arith}
use Rattle.std.specs.List.{find}
use Rattle.std.proofs.lemmas.Bool.{eqb-true}
use Rattle.std.proofs.lemmas.Bool.Decides.{nat_tests}
use Rattle.clock.specs.declared.moment.Moment.{Moment}
use Rattle.ether.specs.declared.mac.Mac.{Mac}
use Rattle.ipv4.specs.declared.addr.Addr.{Addr}
use Rattle.ipv4.specs.Addresses.{same_end}
use Rattle.ipv4.specs.Datagram.{Datagram}
use Rattle.udp.specs.declared.fault.UdpFault.{UdpFault}
use Rattle.udp.specs.Datagram.{UserDatagram}
use Rattle.udp.specs.Reading.{datagram_or_fault}
use Rattle.tcp_segment.specs.declared.head.Head.{Head}
use Rattle.tcp_segment.specs.Segment.{Segment}
use Rattle.frames.specs.declared.drop.DropCause.{DropCause}
use Rattle.frames.specs.declared.meaning.Control.{Control}
use Rattle.frames.specs.declared.meaning.Meaning.{Meaning}
use Rattle.frames.specs.declared.meaning.Meaning.TheVariants.{Arp, Tcp, Icmp, Udp, Other, UdpFragment}
use Rattle.frames.specs.declared.meaning.ReceivedSegment.{ReceivedSegment}
use Rattle.frames.specs.Meaning.{heard}
use Rattle.interface.specs.Ways.{is_routed}
use Rattle.reassembly.specs.Places.{after_take}
use Rattle.reassembly.specs.Reassembly.{Outcome}
use Rattle.reassembly.specs.Reassembly.Outcome.{Waits, Completes, GivesUp}
use Rattle.tcp_segment.specs.Wire.{past}
use Rattle.tcp_halves.specs.Stream.{is_new_ack, outstanding}
use Rattle.tcp_halves.specs.Numbers.{is_before}
use Rattle.tcp_halves.proofs.Choices.{and_left, and_right, by, neither, not_true, or_else}
use Rattle.tcp_state.specs.Arrival.{after_segment_at, is_acceptable_to, is_off, is_read_on, is_too_old}
use Rattle.tcp_state.specs.View.{View, is_closed, is_syn_sent, is_syn_received}
use Rattle.sockets.specs.declared.datagrams.Reception.{Reception}
use Rattle.sockets.specs.declared.datagrams.Reception.TheVariants as socket
use Rattle.sockets.specs.declared.entry.Entry.{Entry}
use Rattle.sockets.specs.declared.entry.SocketId.{SocketId}
use Rattle.sockets.specs.declared.role.Role.{Role}
use Rattle.sockets.specs.declared.role.Role.TheVariants.{Idle, Listener, Connected, Datagrams}
use Rattle.sockets.specs.Arrival.{Opens, arrival_with_reply, local_end, peer_end}
use Rattle.sockets.specs.Causes.{Follows}
use Rattle.sockets.specs.Datagrams.{after_reception, reception}
use Rattle.sockets.specs.Entries.{entries_after_step, fate_of, in_connection, is_between, is_datagrams_at, is_kept, role_after_reception, role_after_segment, with_role}
use Rattle.sockets.specs.Ids.{has_id}
use Rattle.sockets.specs.Lists.{change_first, remove_first}
use Rattle.sockets.specs.SocketsView.{SocketsView, later_moment}
use Rattle.sockets.specs.Steps.{connected}
use Rattle.sockets.proofs.Arrivals.{by_arrival}
use Rattle.sockets.proofs.ByIds.{found_behind, found_first}
use Rattle.sockets.proofs.Ends.{same_end-true}
use Rattle.sockets.proofs.Opened.{found_passes}
use Rattle.host.specs.Arrival.{IsDelivered, MeetsFragment, MeetsHeard, MeetsSegment, after_outcome, after_payload, after_user_datagram, arrival_by_route, fragment_outcome, is_late_copy, pool_for, segment_arrival, with_noted}
use Rattle.host.specs.ConfigView.{ConfigView}
use Rattle.host.specs.Heard.{heard_by}
use Rattle.host.specs.HostView.{HostView, with_pool, with_sockets}
use Rattle.host.specs.Met.{IsNoEntry, IsQuotedBy, StaysUnless}
use Rattle.host.specs.Runs.{Event, Delivers, IsNumbered, Makes, Runs, Begins, GoesOn}
use Rattle.host.specs.Sound.{IsSoundHost}
use Rattle.host.proofs.Guarded.{meant_by}
use Rattle.host.proofs.Moving.{message-met}
use Rattle.host.proofs.Ran.{set_up-stays}
use Rattle.host_law.specs.Apart.{KeepsStreams, IsOldAck, IsTaken, MayReach, Resets, EndsOpening, Acknowledges, Answers, Refuses, Fails, KeepsOthersOut}
use Rattle.host_law.specs.Coming.{IsHeard, IsNewAck}
use Rattle.host_law.specs.History.{Step, Always, history, connection_of}
use Rattle.host_law.proofs.SendingHalf.{new_ack}
use Rattle.host_law.proofs.ApartSegments.{Reaches, resets, going, acknowledges, opens, refuses, Leaves, hears}

-- What stands under an id.

module _ (id : SocketId) where
  -- the first that passes a test changes: it is another one, or that
  changed : (test : Entry → Bool) (change : Role → Role) (xs : List Entry) (e : Entry) → find (has_id id) xs ≡ Some e
      → (find (has_id id) (change_first test (with_role change) xs) ≡ Some e) ⊎ ((find test xs ≡ Some e) × (find (has_id id) (change_first test (with_role change) xs) ≡ Some (with_role change e)))
  changed test change [] e found = cc
  changed test change (x ∷ xs) e found =
      let R : Type 0 = (find (has_id id) (change_first test (with_role change) (x ∷ xs)) ≡ Some e) ⊎ ((find test (x ∷ xs) ≡ Some e) × (find (has_id id) (change_first test (with_role change) (x ∷ xs)) ≡ Some (with_role change e))) in
      by R (has_id id x)
      (λ here.
      let same : x ≡ e = found_first (has_id id) x e xs here found in
      by R (test x)
      (λ passes. inr (rw passes (ap Some same), rw (passes, here) (ap (λ (y : Entry). Some (with_role change y)) same)))
      (λ fails. inl (rw (fails, here) (ap Some same))))
      (λ there.
      let behind : find (has_id id) xs ≡ Some e = found_behind (has_id id) x xs (Some e) there found in
      by R (test x)
      (λ passes. inl (rw (passes, there) behind))
      (λ fails. elim (changed test change xs e behind) [
        | inl same ↦ inl (rw (fails, there) same)
        | inr it ↦ inr (rw fails it.0, rw (fails, there) it.1)
      ]))

  -- .. or is taken out
  removed : (test : Entry → Bool) (xs : List Entry) (e : Entry) → find (has_id id) xs ≡ Some e → (find (has_id id) (remove_first test xs) ≡ Some e) ⊎ (find test xs ≡ Some e)
  removed test [] e found = cc
  removed test (x ∷ xs) e found =
      let R : Type 0 = (find (has_id id) (remove_first test (x ∷ xs)) ≡ Some e) ⊎ (find test (x ∷ xs) ≡ Some e) in
      by R (has_id id x)
      (λ here.
      let same : x ≡ e = found_first (has_id id) x e xs here found in
      by R (test x) (λ passes. inr (rw passes (ap Some same))) (λ fails. inl (rw (fails, here) (ap Some same))))
      (λ there.
      let behind : find (has_id id) xs ≡ Some e = found_behind (has_id id) x xs (Some e) there found in
      by R (test x)
      (λ passes. inl (rw passes behind))
      (λ fails. elim (removed test xs e behind) [ inl same ↦ inl (rw (fails, there) same) | inr it ↦ inr (rw fails it) ]))

  -- others join behind it
  joined : (xs ys : List Entry) (e : Entry) → find (has_id id) xs ≡ Some e → find (has_id id) (xs ++ ys) ≡ Some e
  joined [] ys e found = cc
  joined (x ∷ xs) ys e found =
      by (find (has_id id) ((x ∷ xs) ++ ys) ≡ Some e) (has_id id x)
      (λ here. rw here (ap Some (found_first (has_id id) x e xs here found)))
      (λ there. rw there (joined xs ys e (found_behind (has_id id) x xs (Some e) there found)))

  -- it stays, unless it is one that may change
  followed : (May : Entry → Type 0) (Added : List Entry → Type 0) (xs ys : List Entry) → Follows (StaysUnless May) Added xs ys → (e : Entry) → find (has_id id) xs ≡ Some e → (find (has_id id) ys ≡ Some e) ⊎ May e
  followed May Added [] ys f e found = cc
  followed May Added (x ∷ xs) [] f e found =
      by ((None ≡ Some e) ⊎ May e) (has_id id x)
      (λ here. inr (subst May (found_first (has_id id) x e xs here found) f.0))
      (λ there. followed May Added xs [] f.1 e (found_behind (has_id id) x xs (Some e) there found))
  followed May Added (x ∷ xs) (y ∷ ys) (inl f) e found =
      let R : Type 0 = (find (has_id id) (y ∷ ys) ≡ Some e) ⊎ May e in
      let alike : has_id id y ≡ has_id id x = elim f.0 [ inl same ↦ ap (has_id id) same | inr may ↦ ap (λ (i : SocketId). i.0 == id.0) may.1 ] in
      by R (has_id id x)
      (λ here.
      let first : x ≡ e = found_first (has_id id) x e xs here found in
      elim f.0 [ inl same ↦ inl (rw (alike ∙ here) (ap Some (same ∙ first))) | inr may ↦ inr (subst May first may.0) ])
      (λ there. elim (followed May Added xs ys f.1 e (found_behind (has_id id) x xs (Some e) there found)) [ inl same ↦ inl (rw (alike ∙ there) same) | inr may ↦ inr may ])
  followed May Added (x ∷ xs) (y ∷ ys) (inr f) e found =
      by ((find (has_id id) (y ∷ ys) ≡ Some e) ⊎ May e) (has_id id x)
      (λ here. inr (subst May (found_first (has_id id) x e xs here found) f.0))
      (λ there. followed May Added xs (y ∷ ys) f.1 e (found_behind (has_id id) x xs (Some e) there found))

-- the entry of a connection
record Stands (v : View) (o : Option Entry) : Type 0 where
  place : SocketId
  listener : Option SocketId
  is : o ≡ Some (connected place v listener)

stands : (v : View) (o : Option Entry) → option_and_then (λ (e : Entry). in_connection None (λ c. Some c) e.role) o ≡ Some v → Stands v o
stands v None e = cc
stands v (Some x) e = by_role x.id x.role e
  where
    by_role : (place : SocketId) (role : Role) → in_connection None (λ c. Some c) role ≡ Some v → Stands v (Some (record { id = place; role = role }))
    by_role place (Connected c listener) e = let same : c ≡ v = cc in record { place = place; listener = listener; is = ap (λ (d : View). Some (connected place d listener)) same }
    by_role place (Listener local backlog) e = cc
    by_role place (Idle buffers bound) e = cc
    by_role place (Datagrams bound socket) e = cc

-- it keeps its streams, whatever else became of the host
abbrev Keeps : SocketId → View → HostView → Type 0
Keeps id v new = (w : View) × (connection_of id new ≡ Some w) × KeepsStreams v w

module _ (id : SocketId) (v : View) (place : SocketId) (l : Option SocketId) (h : HostView) (found : find (has_id id) h.sockets.entries ≡ Some (connected place v l)) where
  abbrev e : Entry
  e = connected place v l

  -- as it was
  still : (new : HostView) → find (has_id id) new.sockets.entries ≡ Some e → Keeps id v new
  still new there = (v, ap (λ (o : Option Entry). option_and_then (λ (x : Entry). in_connection None (λ c. Some c) x.role) o) there, record { state = refl; sending = refl; receiving = refl; error = refl; reset = refl; released = refl })

  unmoved : (left new : HostView) → new ≡ left → left.sockets.entries ≡ h.sockets.entries → Keeps id v new
  unmoved left new is same = still new (ap (λ (w : HostView). find (has_id id) w.sockets.entries) is ∙ ap (find (has_id id)) same ∙ found)

  -- A segment.

  -- it is of the connection's two ends, and may move the streams
  record IsMet (r : ReceivedSegment) : Type 0 where
    between : is_between (local_end h.sockets r.segment) (peer_end r.source r.segment) e ≡ true
    reaches : Reaches v r.segment

  module _ (moment : Moment) (r : ReceivedSegment) where
    abbrev at_ends : Entry → Bool
    at_ends = is_between (local_end h.sockets r.segment) (peer_end r.source r.segment)

    abbrev Ends : HostView → Type 0
    Ends new = IsMet r ⊎ Keeps id v new

    -- the connection of its two ends takes it
    meets : (new : HostView) → find at_ends h.sockets.entries ≡ Some e → (Leaves v r.segment (later_moment h.sockets moment) → Ends new) → Ends new
    meets new first leaves =
        let between : at_ends e ≡ true = found_passes at_ends h.sockets.entries e first in
        let live : is_closed v.state ≡ false = not_true (is_closed v.state) (and_left (not (is_closed v.state)) _ between) in
        elim (hears v r.segment (later_moment h.sockets moment) live) [ inl reaches ↦ inl (record { between = between; reaches = reaches }) | inr left ↦ leaves left ]

    takes : (first : Entry) → find at_ends h.sockets.entries ≡ Some first → (new : HostView) → new.sockets.entries ≡ entries_after_step (fate_of r.segment first.role) at_ends (role_after_segment (later_moment h.sockets moment) r.segment) h.sockets.entries → Ends new
    takes first it new is =
        let change = role_after_segment (later_moment h.sockets moment) r.segment in
        by (Ends new) (is_kept (fate_of r.segment first.role))
        (λ kept.
        let same : new.sockets.entries ≡ change_first at_ends (with_role change) h.sockets.entries = is ∙ ap (λ b. if b then change_first at_ends (with_role change) h.sockets.entries else remove_first at_ends h.sockets.entries) kept in
        elim (changed id at_ends change h.sockets.entries e found) [
          | inl there ↦ inr (still new (ap (find (has_id id)) same ∙ there))
          | inr it ↦ meets new it.0 (λ left. inr (after_segment_at v r.segment (later_moment h.sockets moment), ap (λ (o : Option Entry). option_and_then (λ (x : Entry). in_connection None (λ c. Some c) x.role) o) (ap (find (has_id id)) same ∙ it.1), left.streams))
        ])
        (λ gone.
        let same : new.sockets.entries ≡ remove_first at_ends h.sockets.entries = is ∙ ap (λ b. if b then change_first at_ends (with_role change) h.sockets.entries else remove_first at_ends h.sockets.entries) gone in
        elim (removed id at_ends h.sockets.entries e found) [
          | inl there ↦ inr (still new (ap (find (has_id id)) same ∙ there))
          | inr it2 ↦ meets new it2 (λ left.
              let one : Some first ≡ Some e = sym it ∙ it2 in
              let first_one : first ≡ e = cc in
              let bad : true ≡ false = sym left.place ∙ sym (ap (λ (x : Entry). is_kept (fate_of r.segment x.role)) first_one) ∙ gone in cc)
        ])

    segment : (isn : ℕ) (answer : Result (Unit {0}) DropCause) (new : HostView) → MeetsSegment (segment_arrival h moment isn r.source r.segment) h moment r.source answer new → Ends new
    segment isn answer new =
        by_arrival h.sockets moment isn r.source r.segment (λ a. (routed : Bool) → MeetsSegment (arrival_by_route routed a) h moment r.source answer new → Ends new)
        (λ reply is. replied reply)
        (λ first taker routed met. takes first taker.found new (ap (λ (w : HostView). w.sockets.entries) met.1))
        (λ listener call full routed met. inr (unmoved h new met.1 refl))
        (λ listener call room routed met. by_route _ _ routed met)
        (is_routed h.interface r.source)
      where
        replied : (reply : Option Head) (routed : Bool) → MeetsSegment (arrival_by_route routed (arrival_with_reply h.sockets reply)) h moment r.source answer new → Ends new
        replied None routed met = inr (unmoved (with_sockets h h.sockets) new met.1 refl)
        replied (Some head) routed met = inr (unmoved _ new met.1 refl)

        opened : (next : SocketsView) → find (has_id id) next.entries ≡ Some e → (told : Result (Unit {0}) DropCause) → MeetsSegment (Opens next) h moment r.source told new → Ends new
        opened next there (Ok done) met = inr (still new (ap (λ (w : HostView). find (has_id id) w.sockets.entries) met ∙ there))
        opened next there (Err cause) met = inr (unmoved h new met.1 refl)

        by_route : (last_id : ℕ) (x : Entry) (routed : Bool) → MeetsSegment (arrival_by_route routed (Opens (record h.sockets { last_id = last_id; entries = h.sockets.entries ++ x ∷ [] }))) h moment r.source answer new → Ends new
        by_route last_id x true met = opened (record h.sockets { last_id = last_id; entries = h.sockets.entries ++ x ∷ [] }) (joined id h.sockets.entries (x ∷ []) e found) answer met
        by_route last_id x false met = inr (unmoved h new met.1 refl)

-- All else.

module _ (id : SocketId) (v : View) (place : SocketId) (l : Option SocketId) where
  -- it stands there
  abbrev IsUnder : HostView → Type 0
  IsUnder g = find (has_id id) g.sockets.entries ≡ Some (connected place v l)

  at-left : (left new : HostView) → new ≡ left → IsUnder left → IsUnder new
  at-left left new is there = ap (λ (w : HostView). find (has_id id) w.sockets.entries) is ∙ there

  -- a datagram comes to no connection
  received : (g : HostView) (source : Addr) (d : UserDatagram) (to : Reception) → reception g.sockets d ≡ to → IsUnder g → IsUnder (with_sockets g (after_reception g.sockets source d))
  received g source d socket.Queued is there =
      rw is
      (elim (changed id (is_datagrams_at d.destination) (role_after_reception (record { addr = source; port = d.source }) d.payload) g.sockets.entries (connected place v l) there) [
        | inl same ↦ same
        | inr it ↦ (let bad : false ≡ true = found_passes (is_datagrams_at d.destination) g.sockets.entries (connected place v l) it.0 in cc)
      ])
  received g source d socket.NoRoom is there = rw is there
  received g source d socket.NoSocket is there = rw is there

  user-under : (to : Reception) (g : HostView) (moment : Moment) (source : Addr) (d : UserDatagram) (quote : List ℕ) → IsUnder g → IsUnder (after_user_datagram to g moment source d quote)
  user-under socket.Queued g moment source d quote there = received g source d (reception g.sockets d) refl there
  user-under socket.NoRoom g moment source d quote there = there
  user-under socket.NoSocket g moment source d quote there = there

  payload-under : (read : Result UserDatagram UdpFault) (g : HostView) (moment : Moment) (source : Addr) (quote : List ℕ) → IsUnder g → IsUnder (after_payload read g moment source quote)
  payload-under (Ok d) g moment source quote there = user-under (reception g.sockets d) g moment source d _ there
  payload-under (Err fault) g moment source quote there = there

  outcome-under : (outcome : Outcome) (g : HostView) (moment : Moment) (d : Datagram) → IsUnder g → IsUnder (after_outcome outcome g moment d)
  outcome-under (Waits r) g moment d there = there
  outcome-under GivesUp g moment d there = there
  outcome-under (Completes payload quote) g moment d there = payload-under (datagram_or_fault d.source d.destination payload) (with_noted g moment d) moment d.source quote there

  fragment-under : (outcome : Option Outcome) (late : Bool) (h : HostView) (moment : Moment) (d : Datagram) (answer : Result (Unit {0}) DropCause) (new : HostView) → MeetsFragment outcome late h moment d answer new → IsUnder h → IsUnder new
  fragment-under None late h moment d answer new met there = at-left h new met.1 there
  fragment-under (Some outcome) true h moment d answer new met there = at-left h new met.1 there
  fragment-under (Some outcome) false h moment d answer new met there =
      at-left _ new met.1 (outcome-under outcome (with_pool h (after_take moment d (pool_for h.sockets.manner.guards d h.pool))) moment d there)

-- Acknowledgements that are read.

recent : (on : Bool) (most far : ℕ) → (on && nat_lt most far) ≡ false → on ≡ true → far ≤ most
recent true most far young is = grind (arith, nat_tests, young)
recent false most far young is = cc

old-ack : (v : View) (s : Segment) → is_syn_received v.state ≡ false → is_off v s.acknowledgement ≡ false → IsOldAck v s
old-ack v s opened off =
    let parts = neither (is_before v.sending.nxt s.acknowledgement) (is_too_old v s.acknowledgement) off in
    record { past_opening = opened; sent = parts.0; recent = recent v.guard.on v.sending.max_window (past v.sending.una s.acknowledgement) parts.1 }

read-ack : (v : View) (s : Segment) → is_read_on v s.acknowledgement ≡ true → IsNewAck v s ⊎ IsOldAck v s
read-ack v s on =
    let R : Type 0 = IsNewAck v s ⊎ IsOldAck v s in
    let new = is_new_ack v.sending s.acknowledgement in
    let of_opening : Bool → Bool = λ b. if b then new else new || not (is_off v s.acknowledgement) in
    by R (is_syn_received v.state)
    (λ opening. inl (new_ack v s (sym (ap of_opening opening) ∙ on)))
    (λ opened. elim (or_else new (not (is_off v s.acknowledgement)) (sym (ap of_opening opened) ∙ on)) [
      | inl is ↦ inl (new_ack v s is)
      | inr is ↦ inr (old-ack v s opened (not_true (is_off v s.acknowledgement) is))
    ])

-- a frame is delivered
module _ (c : ConfigView) (id : SocketId) (v : View) (place : SocketId) (l : Option SocketId) (h : HostView) (found : find (has_id id) h.sockets.entries ≡ Some (connected place v l)) (now : Moment) (isn : ℕ) (octets : List ℕ) (answer : Result (Unit {0}) DropCause) (new : HostView) (delivered : IsDelivered h now isn octets answer new) where
  abbrev step : Step
  step = record { before = h; event = Delivers now isn octets; after = new }

  module _ (says : (m : Meaning) → heard_by h octets ≡ Ok m → heard c.mac c.addr octets ≡ Ok m) (own : h.sockets.addr ≡ c.addr) where
    by-segment : (r : ReceivedSegment) → heard_by h octets ≡ Ok (Tcp r) → IsMet id v place l h found r → MayReach c id v step
    by-segment r is met = by_reaches met.reaches
      where
        ends : (same_end v.local (local_end h.sockets r.segment) && same_end v.peer (peer_end r.source r.segment)) ≡ true
        ends = and_right (not (is_closed v.state)) (same_end v.local (local_end h.sockets r.segment) && same_end v.peer (peer_end r.source r.segment)) met.between

        heard_so : IsHeard c id v r.segment step
        heard_so = record {
          source = r.source;
          frame = record { now = now; isn = isn; octets = octets; delivered = refl; means = says (Tcp r) is };
          connection = ap (λ (o : Option Entry). option_and_then (λ (x : Entry). in_connection None (λ c. Some c) x.role) o) found;
          local = same_end-true v.local (local_end h.sockets r.segment) (and_left (same_end v.local (local_end h.sockets r.segment)) (same_end v.peer (peer_end r.source r.segment)) ends) ∙ ap (λ (own : Addr). record { addr = own; port = r.segment.destination }) own;
          peer = same_end-true v.peer (peer_end r.source r.segment) (and_right (same_end v.local (local_end h.sockets r.segment)) (same_end v.peer (peer_end r.source r.segment)) ends);
        }

        taken : is_syn_sent v.state ≡ false → is_acceptable_to v r.segment ≡ true → IsTaken c id v r.segment step
        taken later acceptable = record { heard = heard_so; synchronised = later; acceptable = acceptable }

        by_reaches : Reaches v r.segment → MayReach c id v step
        by_reaches (resets later acceptable rst next) = Resets r.segment (taken later acceptable) rst (eqb-true r.segment.number v.receiving.rnext next)
        by_reaches (going later acceptable no_rst syn passive opening) = EndsOpening r.segment (taken later acceptable) no_rst syn opening passive
        by_reaches (acknowledges later acceptable no_rst no_syn ack on) = Acknowledges r.segment (taken later acceptable) no_rst no_syn ack (read-ack v r.segment on)
        by_reaches (opens sent no_rst syn acks) = Answers r.segment (record { heard = heard_so; waits = sent; no_rst = no_rst; syn = syn; acknowledges = λ ack. new_ack v r.segment (acks ack) })
        by_reaches (refuses sent rst ack new) = Refuses r.segment heard_so sent rst ack (new_ack v r.segment new)

    by-message : (control : Control) → heard_by h octets ≡ Ok (Icmp control) → IsQuotedBy h control.message (connected place v l) → MayReach c id v step
    by-message control is quoted =
        let same : v ≡ quoted.connection = from_role quoted.connected in
        let passes = found_passes (is_between quoted.quote.source quoted.quote.destination) h.sockets.entries (connected place v l) quoted.between in
        let ends = and_right (not (is_closed v.state)) _ passes in
        Fails (ap is_syn_sent (ap (λ (w : View). w.state) same ∙ quoted.state)) (record {
          source = control.source;
          message = control.message;
          frame = record { now = now; isn = isn; octets = octets; delivered = refl; means = says (Icmp control) is };
          hard = quoted.hard;
          quote = quoted.quote;
          quotes = quoted.quotes;
          protocol = quoted.of_segment;
          local = same_end-true v.local quoted.quote.source (and_left _ _ ends);
          peer = same_end-true v.peer quoted.quote.destination (and_right _ _ ends);
          number = quoted.number ∙ ap (λ (w : View). w.sending.una) (sym same);
          sent = subst (λ (w : View). 0 < outstanding w.sending) (sym same) quoted.sent;
        })
      where
        from_role : {w : View} {listener : Option SocketId} → Connected v l ≡ Connected w listener → v ≡ w
        from_role is = cc

    abbrev KeptOut : Type 0
    KeptOut = MayReach c id v step ⊎ Keeps id v new

    by-meaning : (m : Result Meaning DropCause) → heard_by h octets ≡ m → MeetsHeard m h (later_moment h.sockets now) isn answer new → KeptOut
    by-meaning (Ok (Arp packet)) is met = inr (unmoved id v place l h found _ new met.1 refl)
    by-meaning (Ok (Tcp r)) is met =
        elim (segment id v place l h found (later_moment h.sockets now) r isn answer new met) [ inl it ↦ inl (by-segment r is it) | inr keeps ↦ inr keeps ]
    by-meaning (Ok (Icmp control)) is met =
        elim (followed id (IsQuotedBy h control.message) IsNoEntry h.sockets.entries new.sockets.entries (message-met h now isn octets control answer new is delivered) (connected place v l) found) [
          | inl same ↦ inr (still id v place l h found new same)
          | inr quoted ↦ inl (by-message control is quoted)
        ]
    by-meaning (Ok (Udp r)) is met =
        inr (still id v place l h found new (at-left id v place l _ new met.1 (user-under id v place l (reception h.sockets r.datagram) h (later_moment h.sockets now) r.carrier.source r.datagram _ found)))
    by-meaning (Ok (UdpFragment d)) is met = let moment = later_moment h.sockets now in
        inr (still id v place l h found new (fragment-under id v place l (fragment_outcome moment d (pool_for h.sockets.manner.guards d h.pool)) (is_late_copy h moment d) h moment d answer new met found))
    by-meaning (Ok (Other d)) is met = inr (unmoved id v place l h found _ new met.1 refl)
    by-meaning (Err cause) is met = inr (unmoved id v place l h found h new met.1 refl)

pub kept_out : (c : ConfigView) (events : List Event) (old new : HostView) (event : Event) → Runs c events old → IsSoundHost old → IsNumbered event → Makes event old new → (earlier : List Step)
    → KeepsOthersOut c (record { before = old; event = event; after = new }) earlier
kept_out c events old new event run sound numbered makes earlier now isn octets is id v there =
    let made : Makes (Delivers now isn octets) old new = subst (λ (e : Event). Makes e old new) is makes in
    let keeps = set_up-stays c events old run in
    let it : Stands v (find (has_id id) old.sockets.entries) = stands v (find (has_id id) old.sockets.entries) there in
    let says : (m : Meaning) → heard_by old octets ≡ Ok m → heard c.mac c.addr octets ≡ Ok m =
    λ m says. ap (λ (mac : Mac). heard mac c.addr octets) (sym keeps.0) ∙ ap (λ (addr : Addr). heard old.interface.mac addr octets) (sym keeps.1) ∙ meant_by old octets m says in
    elim (by-meaning c id v it.place it.listener old it.is now isn octets made.0 new made.1 says keeps.2 (heard_by old octets) refl made.1) [
      | inl may ↦ inl (subst (λ (e : Event). MayReach c id v (record { before = old; event = e; after = new })) (sym is) may)
      | inr kept ↦ inr kept
    ]

-- over a whole run
pub all_kept_out : (c : ConfigView) (events : List Event) (h : HostView) (run : Runs c events h) → Always (KeepsOthersOut c) (history run)
all_kept_out c _ _ Begins = tt
all_kept_out c _ _ (GoesOn before event old new run sound numbered makes) = (kept_out c before old new event run sound numbered makes (history run), all_kept_out c before old run)
