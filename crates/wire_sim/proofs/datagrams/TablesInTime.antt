-- What else happens to a table: segments arrive and go out, errors are told, time goes by.
use Rattle.std.proofs.Common.{◌≡◌, ℕ, ◌+◌, Bool, true, false, cond, List, Option, Some, None, refl, sym, subst}
use Rattle.std.specs.List.{find}
use Rattle.clock.specs.declared.moment.Moment.{Moment}
use Rattle.ipv4.specs.declared.addr.Addr.{Addr}
use Rattle.ipv4.specs.declared.addr.Endpoint.{Endpoint}
use Rattle.tcp_segment.specs.declared.head.Head.{Head}
use Rattle.tcp_segment.specs.Segment.{Segment}
use Rattle.tcp_state.specs.Arrival.{opened_passively}
use Rattle.tcp_state.specs.declared.connection.Fate.{Fate}
use Rattle.tcp_state.specs.declared.connection.Fate.TheVariants.{Stays, Removed, Rejected}
use Rattle.sockets.specs.declared.entry.Entry.{Entry}
use Rattle.sockets.specs.declared.entry.SocketId.{SocketId}
use Rattle.sockets.specs.Arrival.{Arrival, Becomes, Opens, NoRoom, Answers, local_end, peer_end, is_opening, has_no_room, after_opening, arrival_with_reply, opening, arrival_at, arrival_alone, arrival_at_connection, arrival, room_for}
use Rattle.sockets.specs.Entries.{sends, is_between, is_listening_at, new_waiting, fate_of, role_after_segment, role_after_unreachable, unreachable_fate_of, role_after_tick, tick_fate_of, role_after_emission, emission_fate_of, entries_after_step}
use Rattle.sockets.specs.Emission.{after_segment_sent, in_turn}
use Rattle.sockets.proofs.Emitting.{found_due, segment_sent-found, segment_sent-none}
use Rattle.sockets.specs.declared.emission.Outgoing.{Outgoing}
use Rattle.sockets.specs.Lost.{after_giving_up, give_up_fate_of, role_after_giving_up}
use Rattle.sockets.specs.Replies.{answer_to, answer_at_listener}
use Rattle.sockets.specs.SocketsView.{SocketsView, later_moment}
use Rattle.sockets.specs.Ticks.{after_tick}
use Rattle.sockets.specs.Unreachable.{after_unreachable}
use Rattle.datagram_law.specs.Accepted.{Accepted}
use Rattle.wire_sim.proofs.lists.FoundAfterChange.{All-added}
use Rattle.wire_sim.proofs.datagrams.TablesKeepToAccepted.{IsEntryOf, AreEntriesOf, IsTableOf, keeps-connection, keeps-emitting, keeps-giving_up, are-settled, are-stepped}

-- the entries of a table changed
with_entries : (own other : List Accepted) (h : SocketsView) (entries : List Entry) → IsTableOf own other h → AreEntriesOf own other h.addr entries
    → IsTableOf own other (record h { entries = entries })
with_entries own other h entries t are = record { numbered = t.numbered; in_turn = t.in_turn; sockets = are }

-- .. and whoever sent last
with_turn : (own other : List Accepted) (h : SocketsView) (turn : SocketId) → IsTableOf own other h → IsTableOf own other (record h { turn = turn })
with_turn own other h turn t = record { numbered = t.numbered; in_turn = t.in_turn; sockets = t.sockets }

-- A segment arrives.

-- whatever a segment leads to keeps to what was accepted
abbrev LeadsTo : List Accepted → List Accepted → Arrival → Type 0
LeadsTo own other (Becomes next) = IsTableOf own other next
LeadsTo own other (Opens next) = IsTableOf own other next
LeadsTo own other NoRoom = Unit {0}
LeadsTo own other (Answers head) = Unit {0}

leads_to : (own other : List Accepted) (h : SocketsView) (now : Moment) (isn : ℕ) (source : Addr) (s : Segment) → IsTableOf own other h → LeadsTo own other (arrival h now isn source s)
leads_to own other h now isn source s t = by_entry (find (is_between (local_end h s) (peer_end source s)) h.entries) refl
  where
    replied : (o : Option Head) → LeadsTo own other (arrival_with_reply h o)
    replied None = t
    replied (Some head) = tt

    opened : (listener : Entry) → IsTableOf own other (after_opening h (later_moment h now) isn listener source s)
    opened listener = record {
      numbered = t.numbered;
      in_turn = t.in_turn;
      sockets = All-added (λ (e : Entry). IsEntryOf own other h.addr e.role) h.entries
          (new_waiting (record { 0 = h.last_id + 1 }) listener.id (opened_passively (room_for h s) (local_end h s) (peer_end source s) isn s (later_moment h now))) t.sockets tt;
    }

    by_place : (listener : Entry) (b : Bool) → LeadsTo own other (cond b NoRoom (Opens (after_opening h (later_moment h now) isn listener source s)))
    by_place listener true = tt
    by_place listener false = opened listener

    by_flags : (listener : Entry) (b : Bool) → LeadsTo own other (cond b (opening h (later_moment h now) isn source s listener) (arrival_with_reply h (answer_at_listener s)))
    by_flags listener true = by_place listener (has_no_room h listener)
    by_flags listener false = replied (answer_at_listener s)

    by_listener : (o : Option Entry) → find (is_listening_at s.destination) h.entries ≡ o → LeadsTo own other (arrival_alone h (later_moment h now) isn source s)
    by_listener None at =
        let same : arrival_alone h (later_moment h now) isn source s ≡ arrival_with_reply h (answer_to s) = rw at in
        subst (LeadsTo own other) (sym same) (replied (answer_to s))
    by_listener (Some listener) at =
        let same : arrival_alone h (later_moment h now) isn source s ≡ arrival_at h (later_moment h now) isn source s listener = rw at in
        subst (LeadsTo own other) (sym same) (by_flags listener (is_opening s.flags))

    settled : (fate : Fate) (offered : List SocketId)
        → IsTableOf own other (record h { entries = entries_after_step fate (is_between (local_end h s) (peer_end source s)) (role_after_segment (later_moment h now) s) h.entries; offered = offered })
    settled fate offered = record {
      numbered = t.numbered;
      in_turn = t.in_turn;
      sockets = are-settled own other h.addr fate (role_after_segment (later_moment h now) s) (keeps-connection _) (is_between (local_end h s) (peer_end source s)) h.entries t.sockets;
    }

    by_fate : (e : Entry) (fate : Fate) → LeadsTo own other (arrival_at_connection h now source s e fate)
    by_fate e Stays = settled Stays _
    by_fate e Removed = settled Removed _
    by_fate e Rejected = tt

    by_entry : (o : Option Entry) → find (is_between (local_end h s) (peer_end source s)) h.entries ≡ o → LeadsTo own other (arrival h now isn source s)
    by_entry None at =
        let same : arrival h now isn source s ≡ arrival_alone h (later_moment h now) isn source s = rw at in
        subst (LeadsTo own other) (sym same) (by_listener (find (is_listening_at s.destination) h.entries) refl)
    by_entry (Some e) at =
        let same : arrival h now isn source s ≡ arrival_at_connection h now source s e (fate_of s e.role) = rw at in
        subst (LeadsTo own other) (sym same) (by_fate e (fate_of s e.role))

pub kept-segment : (own other : List Accepted) (h next : SocketsView) (now : Moment) (isn : ℕ) (source : Addr) (s : Segment) → arrival h now isn source s ≡ Becomes next
    → IsTableOf own other h → IsTableOf own other next
kept-segment own other h next now isn source s is t = subst (LeadsTo own other) is (leads_to own other h now isn source s t)

pub kept-opening : (own other : List Accepted) (h next : SocketsView) (now : Moment) (isn : ℕ) (source : Addr) (s : Segment) → arrival h now isn source s ≡ Opens next
    → IsTableOf own other h → IsTableOf own other next
kept-opening own other h next now isn source s is t = subst (LeadsTo own other) is (leads_to own other h now isn source s t)

-- An error is told.

pub kept-unreachable : (own other : List Accepted) (h : SocketsView) (local peer : Endpoint) (number : ℕ) → IsTableOf own other h
    → IsTableOf own other (after_unreachable h local peer number)
kept-unreachable own other h local peer number t = by_entry (find (is_between local peer) h.entries) refl
  where
    by_entry : (o : Option Entry) → find (is_between local peer) h.entries ≡ o → IsTableOf own other (after_unreachable h local peer number)
    by_entry None at =
        let same : after_unreachable h local peer number ≡ h = rw at in
        subst (IsTableOf own other) (sym same) t
    by_entry (Some e) at = rw at
        (with_entries own other h _ t
        (are-settled own other h.addr (unreachable_fate_of number e.role) (role_after_unreachable number) (keeps-connection _) (is_between local peer) h.entries t.sockets))

-- Time goes by.

pub kept-tick : (own other : List Accepted) (h : SocketsView) (now : Moment) → IsTableOf own other h → IsTableOf own other (after_tick h now)
kept-tick own other h now t = record {
  numbered = t.numbered;
  in_turn = t.in_turn;
  sockets = are-stepped own other h.addr (tick_fate_of (later_moment h now)) (role_after_tick (later_moment h now)) (keeps-connection _) h.entries t.sockets;
}

pub kept-giving_up : (own other : List Accepted) (h : SocketsView) (lost : Addr → Bool) (now : Moment) → IsTableOf own other h → IsTableOf own other (after_giving_up h lost now)
kept-giving_up own other h lost now t = with_entries own other h _ t
    (are-stepped own other h.addr (give_up_fate_of lost (later_moment h now)) (role_after_giving_up lost (later_moment h now)) (keeps-giving_up lost (later_moment h now)) h.entries t.sockets)

-- What is due goes out.

pub kept-going_out : (own other : List Accepted) (h : SocketsView) (goes : Addr → Bool) (now : Moment) → IsTableOf own other h → IsTableOf own other (after_segment_sent h goes now)
kept-going_out own other h goes now t = by_entry (find (in_turn h (sends goes)) h.entries) refl
  where
    by_entry : (o : Option Entry) → find (in_turn h (sends goes)) h.entries ≡ o → IsTableOf own other (after_segment_sent h goes now)
    by_entry None at = subst (IsTableOf own other) (sym (segment_sent-none h goes now at)) t
    by_entry (Some e) at =
        let due = found_due h goes e at in
        let what : Outgoing = due.0.1 in
        let moment : Moment = later_moment h now in
        subst (IsTableOf own other) (sym (segment_sent-found h goes now e due.0 at due.1))
        (with_turn own other _ e.id
        (with_entries own other h _ t
        (are-settled own other h.addr (emission_fate_of (role_after_emission moment what e.role)) (role_after_emission moment what) (keeps-emitting moment what) (in_turn h (sends goes)) h.entries t.sockets)))
