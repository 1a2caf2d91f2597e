-- What a segment that arrived makes of the table.
use Rattle.std.proofs.Common.{◌≡◌, ℕ, ◌+◌, inl, inr, Bool, true, false, cond, List, [], ◌∷◌, ◌++◌, Option, Some, None, refl, sym, ◌∙◌, ap, subst}
use Rattle.std.specs.List.{find}
use Rattle.ipv4.specs.declared.addr.Addr.{Addr}
use Rattle.ipv4.specs.declared.addr.Endpoint.{Endpoint}
use Rattle.ipv4.specs.declared.addr.Pair.{Pair}
use Rattle.ipv4.specs.Addresses.{pair_of}
use Rattle.tcp_segment.specs.Segment.{Segment}
use Rattle.tcp_segment.specs.declared.head.Head.{Head}
use Rattle.clock.specs.declared.moment.Moment.{Moment}
use Rattle.tcp_state.specs.declared.connection.Fate.{Fate}
use Rattle.tcp_state.specs.declared.connection.Fate.TheVariants.{Stays, Removed, Rejected}
use Rattle.tcp_state.specs.Arrival.{opened_passively, fate}
use Rattle.tcp_state.specs.View.{View}
use Rattle.sockets.specs.declared.entry.SocketId.{SocketId}
use Rattle.sockets.specs.declared.entry.Entry.{Entry}
use Rattle.sockets.specs.declared.role.Role.{Role}
use Rattle.sockets.specs.declared.role.Role.TheVariants.{Idle, Listener, Connected, Datagrams}
use Rattle.sockets.specs.declared.taken.Taken.{Taken}
use Rattle.sockets.specs.Arrival.{Opens, NoRoom, local_end, peer_end, is_opening, has_no_room, after_opening, arrival_with_reply, opening, arrival_at, arrival_alone, offered_with, arrival_at_connection, arrival, pair_opened, Meets, room_for}
use Rattle.sockets.specs.Entries.{is_live_between, is_between, is_listening_at, role_after_segment, fate_of, is_offered_by, entries_after_step, new_waiting}
use Rattle.sockets.specs.Replies.{reset_at_ack, answer_to, answer_at_listener}
use Rattle.sockets.specs.SocketsView.{SocketsView, later_moment}
use Rattle.wire_sim.proofs.lists.FoundAfterChange.{find-passes}
use Rattle.wire_sim.proofs.tables.TableById.{entry_with}

-- A segment between two ends changes nothing, also where it is answered; or the connection of its two ends hears it; or it opens one where
-- there is none, as was foreseen.
pub data Arrived (h : SocketsView) (now : Moment) (isn : ℕ) (local peer : Endpoint) (s : Segment) (opened : Option Pair) (new : SocketsView) : Type 0 where
  Ignored : new ≡ h → Arrived h now isn local peer s opened new
  Heard : (c : View) (l : Option SocketId) (id : SocketId) (offered : List SocketId) → find (is_between local peer) h.entries ≡ Some (record { id = id; role = Connected c l })
      → new ≡ record h { entries = entries_after_step (fate c s) (is_between local peer) (role_after_segment (later_moment h now) s) h.entries; offered = offered } → Arrived h now isn local peer s opened new
  Began : (listener : Entry) → find (is_between local peer) h.entries ≡ None → is_opening s.flags ≡ true → opened ≡ Some (pair_of local peer)
      → new ≡ record h { last_id = h.last_id + 1; entries = h.entries ++ new_waiting (record { 0 = h.last_id + 1 }) listener.id (opened_passively (room_for h s) local peer isn s (later_moment h now)) ∷ [] } → Arrived h now isn local peer s opened new

-- a segment for no connection of the table
arrival-unfound : (h : SocketsView) (now : Moment) (isn : ℕ) (source : Addr) (s : Segment) → find (is_between (local_end h s) (peer_end source s)) h.entries ≡ None → arrival h now isn source s ≡ arrival_alone h (later_moment h now) isn source s
arrival-unfound h now isn source s none = rw none

-- what the table says of a segment that arrived, and what it becomes; an opening was foreseen
pub segment-arrived : (h : SocketsView) (now : Moment) (isn : ℕ) (source : Addr) (s : Segment) (opened : Option Pair) (said : Taken) (new : SocketsView)
    → ((next : SocketsView) → arrival h now isn source s ≡ Opens next → opened ≡ pair_opened h source s) → Meets (arrival h now isn source s) h said new
    → Arrived h now isn (local_end h s) (peer_end source s) s opened new
segment-arrived h now isn source s opened said new seen = by_entry (find (is_between local peer) h.entries) refl
  where
    local : Endpoint
    local = local_end h s

    peer : Endpoint
    peer = peer_end source s

    Shown : Type 0
    Shown = Arrived h now isn local peer s opened new

    by_reply : (o : Option Head) → Meets (arrival_with_reply h o) h said new → Shown
    by_reply None meets = Ignored meets.1
    by_reply (Some head) meets = Ignored meets.1

    -- those offered once an entry has heard the segment
    offered_then : Entry → List SocketId
    offered_then e = offered_with h.sizes.entries (is_offered_by (later_moment h now) s e.role) e.id h.offered

    by_fate : (e : Entry) (c : View) (l : Option SocketId) (id : SocketId) → find (is_between local peer) h.entries ≡ Some (record { id = id; role = Connected c l })
        → (x : Fate) → fate c s ≡ x → Meets (arrival_at_connection h now source s e x) h said new → Shown
    by_fate e c l id at Rejected is meets = by_reply (Some (reset_at_ack s)) meets
    by_fate e c l id at Stays is meets = Heard c l id (offered_then e) at
        (meets.1 ∙ ap (λ x. let w : SocketsView = record h { entries = entries_after_step x (is_between local peer) (role_after_segment (later_moment h now) s) h.entries; offered = offered_then e } in w) (sym is))
    by_fate e c l id at Removed is meets = Heard c l id (offered_then e) at
        (meets.1 ∙ ap (λ x. let w : SocketsView = record h { entries = entries_after_step x (is_between local peer) (role_after_segment (later_moment h now) s) h.entries; offered = offered_then e } in w) (sym is))

    heard : (e : Entry) → find (is_between local peer) h.entries ≡ Some e → Meets (arrival_at_connection h now source s e (fate_of s e.role)) h said new → (r : Role) → e.role ≡ r → Shown
    heard e at meets (Idle buffers bound) role =
        let bad : false ≡ true = sym (ap (is_live_between local peer) role) ∙ find-passes (is_between local peer) h.entries e at in
        cc
    heard e at meets (Datagrams bound socket) role =
        let bad : false ≡ true = sym (ap (is_live_between local peer) role) ∙ find-passes (is_between local peer) h.entries e at in
        cc
    heard e at meets (Listener bound backlog) role =
        let bad : false ≡ true = sym (ap (is_live_between local peer) role) ∙ find-passes (is_between local peer) h.entries e at in
        cc
    heard e at meets (Connected c l) role = by_fate e c l e.id (at ∙ ap Some (entry_with e (Connected c l) role)) (fate c s) refl (subst (λ r. Meets (arrival_at_connection h now source s e (fate_of s r)) h said new) role meets)

    of_opens : (listener : Entry) → find (is_between local peer) h.entries ≡ None → is_opening s.flags ≡ true → opened ≡ Some (pair_of local peer)
        → Meets (Opens (after_opening h (later_moment h now) isn listener source s)) h said new → Shown
    of_opens listener none opens foreseen (inl done) = Began listener none opens foreseen done.1
    of_opens listener none opens foreseen (inr refused) = Ignored refused.1

    by_place : (listener : Entry) → find (is_between local peer) h.entries ≡ None → is_opening s.flags ≡ true → find (is_listening_at s.destination) h.entries ≡ Some listener
        → (full : Bool) → has_no_room h listener ≡ full → Meets (cond full NoRoom (Opens (after_opening h (later_moment h now) isn listener source s))) h said new → Shown
    by_place listener none opens at true full meets = Ignored meets.1
    by_place listener none opens at false full meets = of_opens listener none opens (seen (after_opening h (later_moment h now) isn listener source s) (rw (none, at, opens, full)) ∙ rw (none, opens, at, full)) meets

    by_flags : (listener : Entry) → find (is_between local peer) h.entries ≡ None → find (is_listening_at s.destination) h.entries ≡ Some listener
        → (b : Bool) → is_opening s.flags ≡ b → Meets (cond b (opening h (later_moment h now) isn source s listener) (arrival_with_reply h (answer_at_listener s))) h said new → Shown
    by_flags listener none at false is meets = by_reply (answer_at_listener s) meets
    by_flags listener none at true is meets = by_place listener none is at (has_no_room h listener) refl meets

    by_listener : find (is_between local peer) h.entries ≡ None → (o : Option Entry) → find (is_listening_at s.destination) h.entries ≡ o → Meets (arrival_alone h (later_moment h now) isn source s) h said new → Shown
    by_listener none None at meets =
        let alone : arrival_alone h (later_moment h now) isn source s ≡ arrival_with_reply h (answer_to s) = rw at in
        by_reply (answer_to s) (subst (λ a. Meets a h said new) alone meets)
    by_listener none (Some listener) at meets =
        let alone : arrival_alone h (later_moment h now) isn source s ≡ arrival_at h (later_moment h now) isn source s listener = rw at in
        by_flags listener none at (is_opening s.flags) refl (subst (λ a. Meets a h said new) alone meets)

    by_entry : (o : Option Entry) → find (is_between local peer) h.entries ≡ o → Meets (arrival h now isn source s) h said new → Shown
    by_entry None at meets = by_listener at (find (is_listening_at s.destination) h.entries) refl (subst (λ a. Meets a h said new) (arrival-unfound h now isn source s at) meets)
    by_entry (Some e) at meets =
        let found : arrival h now isn source s ≡ arrival_at_connection h now source s e (fate_of s e.role) = rw at in
        heard e at (subst (λ a. Meets a h said new) found meets) e.role refl
