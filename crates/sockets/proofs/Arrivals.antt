-- What a segment that arrives leads to, case by case.
use Rattle.std.proofs.Common.{◌≡◌, ℕ, Bool, true, false, Option, Some, None, refl, sym, ◌∙◌, subst}
use Rattle.std.specs.List.{find}
use Rattle.ipv4.specs.declared.addr.Addr.{Addr}
use Rattle.tcp_segment.specs.declared.head.Head.{Head}
use Rattle.tcp_segment.specs.Segment.{Segment}
use Rattle.tcp_state.specs.declared.connection.Fate.{Fate}
use Rattle.tcp_state.specs.declared.connection.Fate.TheVariants.{Stays, Removed, Rejected}
use Rattle.clock.specs.declared.moment.Moment.{Moment}
use Rattle.sockets.specs.declared.entry.Entry.{Entry}
use Rattle.sockets.specs.Arrival.{Arrival, Becomes, Opens, NoRoom, local_end, peer_end, is_opening, has_no_room, after_opening, arrival_with_reply, offered_with, arrival}
use Rattle.sockets.specs.Replies.{reset_at_ack, answer_to, answer_at_listener}
use Rattle.sockets.specs.Entries.{is_between, is_listening_at, role_after_segment, fate_of, is_offered_by, entries_after_step}
use Rattle.sockets.specs.SocketsView.{SocketsView, later_moment}
use Rattle.sockets.proofs.Arrived.{taken}

-- Why a segment is answered so: its connection refuses it, there is neither a connection nor a listener for it, or it opens nothing at its listener.
pub data IsReply (h : SocketsView) (source : Addr) (s : Segment) : Option Head → Type 0 where
  refusing : (e : Entry) → find (is_between (local_end h s) (peer_end source s)) h.entries ≡ Some e → fate_of s e.role ≡ Rejected → IsReply h source s (Some (reset_at_ack s))
  to_stray : find (is_between (local_end h s) (peer_end source s)) h.entries ≡ None → find (is_listening_at s.destination) h.entries ≡ None → IsReply h source s (answer_to s)
  at_listener : (listener : Entry) → find (is_between (local_end h s) (peer_end source s)) h.entries ≡ None → find (is_listening_at s.destination) h.entries ≡ Some listener → is_opening s.flags ≡ false
      → IsReply h source s (answer_at_listener s)

-- the connection of a segment, which takes it
pub record IsTaker (h : SocketsView) (source : Addr) (s : Segment) (e : Entry) : Type 0 where
  pub found : find (is_between (local_end h s) (peer_end source s)) h.entries ≡ Some e
  pub takes : fate_of s e.role ≡ Rejected → ⊥

-- the table after that
abbrev pub after_taking : SocketsView → Moment → Addr → Segment → Entry → SocketsView
after_taking h now source s e = record h {
  entries = entries_after_step (fate_of s e.role) (is_between (local_end h s) (peer_end source s)) (role_after_segment (later_moment h now) s) h.entries;
  offered = offered_with h.sizes.entries (is_offered_by (later_moment h now) s e.role) e.id h.offered;
}

-- a segment that opens a connection where none is, and its listener
pub record IsCalled (h : SocketsView) (source : Addr) (s : Segment) (listener : Entry) : Type 0 where
  pub none : find (is_between (local_end h s) (peer_end source s)) h.entries ≡ None
  pub found : find (is_listening_at s.destination) h.entries ≡ Some listener
  pub opens : is_opening s.flags ≡ true

-- what holds of an answer, of the table after the segment was taken, of no place, and of the opening of a connection holds of what the segment leads to
pub by_arrival : (h : SocketsView) (now : Moment) (isn : ℕ) (source : Addr) (s : Segment) (P : Arrival → Type 0) → ((reply : Option Head) → IsReply h source s reply → P (arrival_with_reply h reply))
    → ((e : Entry) → IsTaker h source s e → P (Becomes (after_taking h now source s e)))
    → ((listener : Entry) → IsCalled h source s listener → has_no_room h listener ≡ true → P NoRoom)
    → ((listener : Entry) → IsCalled h source s listener → has_no_room h listener ≡ false → P (Opens (after_opening h (later_moment h now) isn listener source s))) → P (arrival h now isn source s)
by_arrival h now isn source s P replies takes no_room opens = by_entry (find (is_between (local_end h s) (peer_end source s)) h.entries) refl
  where
    by_place : (listener : Entry) → IsCalled h source s listener → (b : Bool) → has_no_room h listener ≡ b → P (arrival h now isn source s)
    by_place listener called true full = rw (called.none, called.found, called.opens, full) (no_room listener called full)
    by_place listener called false room = rw (called.none, called.found, called.opens, room) (opens listener called room)

    by_flags : find (is_between (local_end h s) (peer_end source s)) h.entries ≡ None → (listener : Entry) → find (is_listening_at s.destination) h.entries ≡ Some listener → (b : Bool) → is_opening s.flags ≡ b → P (arrival h now isn source s)
    by_flags none listener found true opening = by_place listener (record { none = none; found = found; opens = opening }) (has_no_room h listener) refl
    by_flags none listener found false other = rw (none, found, other) (replies (answer_at_listener s) (at_listener listener none found other))

    by_listener : find (is_between (local_end h s) (peer_end source s)) h.entries ≡ None → (o : Option Entry) → find (is_listening_at s.destination) h.entries ≡ o → P (arrival h now isn source s)
    by_listener none None found = rw (none, found) (replies (answer_to s) (to_stray none found))
    by_listener none (Some listener) found = by_flags none listener found (is_opening s.flags) refl

    taking : (e : Entry) → IsTaker h source s e → P (arrival h now isn source s)
    taking e taker = subst P (sym (taken h now isn source s e (fate_of s e.role) taker.found refl taker.takes)) (takes e taker)

    by_fate : (e : Entry) → find (is_between (local_end h s) (peer_end source s)) h.entries ≡ Some e → (r : Fate) → fate_of s e.role ≡ r → P (arrival h now isn source s)
    by_fate e found Rejected is = rw (found, is) (replies (Some (reset_at_ack s)) (refusing e found is))
    by_fate e found Stays is = taking e (record { found = found; takes = λ refused. let bad : Stays ≡ Rejected = sym is ∙ refused in cc })
    by_fate e found Removed is = taking e (record { found = found; takes = λ refused. let bad : Removed ≡ Rejected = sym is ∙ refused in cc })

    by_entry : (o : Option Entry) → find (is_between (local_end h s) (peer_end source s)) h.entries ≡ o → P (arrival h now isn source s)
    by_entry None none = by_listener none (find (is_listening_at s.destination) h.entries) refl
    by_entry (Some e) found = by_fate e found (fate_of s e.role) refl
