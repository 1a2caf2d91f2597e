-- Why a SYN finds no place only where the backlog or the table is full.
use Rattle.std.proofs.Common.{◌≡◌, ◌⊎◌, ℕ, ◌+◌, ◌^◌, ◌≤◌, ◌==◌, nat_le, true, count_by, length, Option, Some, None, inl, inr}
use Rattle.std.specs.List.{find}
use Rattle.std.proofs.lemmas.Bool.{leb-true, eqb-true}
use Rattle.ipv4.specs.declared.addr.Addr.{Addr}
use Rattle.tcp_segment.specs.declared.head.Head.{Head}
use Rattle.tcp_segment.specs.Segment.{Segment}
use Rattle.clock.specs.declared.moment.Moment.{Moment}
use Rattle.tcp_state.proofs.Causes.{or_else}
use Rattle.sockets.specs.declared.entry.Entry.{Entry}
use Rattle.sockets.specs.SocketsView.{SocketsView}
use Rattle.sockets.specs.Entries.{is_listening_at, is_waiting_at, backlog_of}
use Rattle.sockets.specs.Arrival.{NoRoom, has_no_room, arrival_with_reply, arrival}
use Rattle.sockets.specs.Calls.{is_table_full}
use Rattle.sockets.proofs.Arrivals.{by_arrival}

-- as many wait at the listener of the segment as its backlog allows, or the table is full, or the last id is given
abbrev IsFull : SocketsView → Segment → Type 0
IsFull h s = (listener : Entry) × (find (is_listening_at s.destination) h.entries ≡ Some listener)
    × ((backlog_of listener.role ≤ count_by (is_waiting_at listener.id) h.entries) ⊎ ((length h.entries ≡ h.sizes.entries) ⊎ (h.last_id + 1 ≡ 2 ^ 64)))

full : (h : SocketsView) (listener : Entry) → has_no_room h listener ≡ true
    → (backlog_of listener.role ≤ count_by (is_waiting_at listener.id) h.entries) ⊎ ((length h.entries ≡ h.sizes.entries) ⊎ (h.last_id + 1 ≡ 2 ^ 64))
full h listener none =
    let waiting = count_by (is_waiting_at listener.id) h.entries in
    elim (or_else (nat_le (backlog_of listener.role) waiting) (is_table_full h) none) [
      | inl many ↦ inl (leb-true (backlog_of listener.role) waiting many)
      | inr table ↦ elim (or_else (length h.entries == h.sizes.entries) (h.last_id + 1 == 2 ^ 64) table) [ inl entries ↦ inr (inl (eqb-true (length h.entries) h.sizes.entries entries)) | inr ids ↦ inr (inr (eqb-true (h.last_id + 1) (2 ^ 64) ids)) ]
    ]

answer_placed : (h : SocketsView) (o : Option Head) → arrival_with_reply h o ≡ NoRoom → ⊥
answer_placed h None none = cc
answer_placed h (Some head) none = cc

pub no_room_where_full : (h : SocketsView) (now : Moment) (isn : ℕ) (source : Addr) (s : Segment) → arrival h now isn source s ≡ NoRoom → (listener : Entry) × (find (is_listening_at s.destination) h.entries ≡ Some listener)
    × ((backlog_of listener.role ≤ count_by (is_waiting_at listener.id) h.entries) ⊎ ((length h.entries ≡ h.sizes.entries) ⊎ (h.last_id + 1 ≡ 2 ^ 64)))
no_room_where_full h now isn source s =
    by_arrival h now isn source s (λ a. a ≡ NoRoom → IsFull h s) (λ reply is none. absurd (answer_placed h reply none)) (λ e taker none. cc) (λ listener called is none. (listener, called.found, full h listener is))
    (λ listener called room none. cc)
