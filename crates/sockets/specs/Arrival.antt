-- What a segment that arrives from an address makes of the table, and what answers it (RFC 9293 section 3.10.7).
use Rattle.std.specs.Prelude.{◌≡◌, ◌⊎◌, ℕ, ◌+◌, Bool, ◌==◌, ◌&&◌, ◌||◌, not, nat_le, if◌then◌else◌, List, [], ◌∷◌, ◌++◌, length, count_by, Option, Some, None, is_some, find}
use Rattle.ipv4.specs.declared.addr.Addr.{Addr}
use Rattle.ipv4.specs.declared.addr.Endpoint.{Endpoint}
use Rattle.ipv4.specs.declared.addr.Pair.{Pair}
use Rattle.ipv4.specs.Addresses.{pair_of}
use Rattle.tcp_segment.specs.declared.flags.Flags.{Flags}
use Rattle.tcp_segment.specs.declared.head.Head.{Head}
use Rattle.tcp_segment.specs.Segment.{Segment, scale_option_of}
use Rattle.tcp_halves.specs.declared.buffers.Manner.{Manner}
use Rattle.tcp_halves.specs.Halves.{Room}
use Rattle.tcp_state.specs.declared.connection.Fate.{Fate}
use Rattle.tcp_state.specs.declared.connection.Fate.TheVariants.{Rejected}
use Rattle.clock.specs.declared.moment.Moment.{Moment}
use Rattle.tcp_state.specs.Arrival.{opened_passively}
use Rattle.sockets.specs.declared.entry.SocketId.{SocketId}
use Rattle.sockets.specs.declared.entry.Entry.{Entry}
use Rattle.sockets.specs.declared.taken.Taken.{Taken}
use Rattle.sockets.specs.declared.taken.Taken.TheVariants as taken
use Rattle.sockets.specs.Entries.{is_between, is_listening_at, is_waiting_at, backlog_of, role_after_segment, fate_of, is_offered_by, new_waiting, entries_after_step}
use Rattle.sockets.specs.SocketsView.{SocketsView, later_moment, room_of}
use Rattle.sockets.specs.Replies.{reset_at_ack, answer_to, answer_at_listener}
use Rattle.sockets.specs.Calls.{is_table_full}

-- our end of a segment that arrived, and that of its sender, at the address that it comes from
abbrev pub local_end : SocketsView → Segment → Endpoint
local_end h s = record { addr = h.addr; port = s.destination }

abbrev pub peer_end : Addr → Segment → Endpoint
peer_end source s = record { addr = source; port = s.source }

-- a segment with SYN and neither RST nor ACK opens a connection at a listener
abbrev pub is_opening : Flags → Bool
is_opening flags = flags.syn && not flags.rst && not flags.ack

-- no place at this listener: as many wait as its backlog allows, or the table is full, or the last id is given
abbrev pub has_no_room : SocketsView → Entry → Bool
has_no_room h listener = nat_le (backlog_of listener.role) (count_by (is_waiting_at listener.id) h.entries) || is_table_full h

-- how a connection behaves that a SYN opens: windows are scaled only where that has the option too (RFC 7323 section 2.2)
abbrev pub manner_with : SocketsView → Segment → Manner
manner_with h s = record h.manner { scales = h.manner.scales && is_some (scale_option_of s) }

-- its buffers are made for that
abbrev pub room_for : SocketsView → Segment → Room
room_for h s = room_of h.sizes.buffer (manner_with h s)

-- a connection in SYN-RECEIVED, opened at a moment, at the end of the table, which waits at the listener
abbrev pub after_opening : SocketsView → Moment → ℕ → Entry → Addr → Segment → SocketsView
after_opening h now isn listener source s = record h {
  last_id = h.last_id + 1;
  entries = h.entries ++ new_waiting (record { 0 = h.last_id + 1 }) listener.id (opened_passively (room_for h s) (local_end h s) (peer_end source s) isn s now) ∷ [];
}

-- What a segment leads to: the table becomes this, or it does where memory is there, or there is no place, or the segment is to be answered
-- by a reset with this header, and the table stays.
pub data Arrival : Type 0 where
  Becomes : SocketsView → Arrival
  Opens : SocketsView → Arrival
  NoRoom : Arrival
  Answers : Head → Arrival

-- the segment is answered so; nothing changes where nothing answers it
abbrev pub arrival_with_reply : SocketsView → Option Head → Arrival
arrival_with_reply h None = Becomes h
arrival_with_reply h (Some head) = Answers head

-- a segment that opens a connection at this listener
abbrev pub opening : SocketsView → Moment → ℕ → Addr → Segment → Entry → Arrival
opening h now isn source s listener = if has_no_room h listener then NoRoom else Opens (after_opening h now isn listener source s)

-- a segment for a listener and no connection (section 3.10.7.2): it opens one, or is answered, or changes nothing
abbrev pub arrival_at : SocketsView → Moment → ℕ → Addr → Segment → Entry → Arrival
arrival_at h now isn source s listener = if is_opening s.flags then opening h now isn source s listener else arrival_with_reply h (answer_at_listener s)

-- a segment for no connection goes to the listener of its destination port, and is answered where there is none
abbrev pub arrival_alone : SocketsView → Moment → ℕ → Addr → Segment → Arrival
arrival_alone h now isn source s = of_listener (find (is_listening_at s.destination) h.entries)
  where
    of_listener : Option Entry → Arrival
    of_listener None = arrival_with_reply h (answer_to s)
    of_listener (Some listener) = arrival_at h now isn source s listener

-- Those offered: the id of a connection that is offered now stands behind the others. The list has as many places as the table.
abbrev pub offered_with : ℕ → Bool → SocketId → List SocketId → List SocketId
offered_with places is_offered id offered = if is_offered && not (length offered == places) then offered ++ id ∷ [] else offered

-- a segment for a connection: it takes it, at the later of the moment and the kept one, or refuses it, which is answered by a reset
abbrev pub arrival_at_connection : SocketsView → Moment → Addr → Segment → Entry → Fate → Arrival
arrival_at_connection h now source s e Rejected = arrival_with_reply h (Some (reset_at_ack s))
arrival_at_connection h now source s e fate = Becomes (record h {
  entries = entries_after_step fate (is_between (local_end h s) (peer_end source s)) (role_after_segment (later_moment h now) s) h.entries;
  offered = offered_with h.sizes.entries (is_offered_by (later_moment h now) s e.role) e.id h.offered;
})

-- a segment goes to the connection of its two ends, in any state but CLOSED
abbrev pub arrival : SocketsView → Moment → ℕ → Addr → Segment → Arrival
arrival h now isn source s = of_entry (find (is_between (local_end h s) (peer_end source s)) h.entries)
  where
    of_entry : Option Entry → Arrival
    of_entry (Some e) = arrival_at_connection h now source s e (fate_of s e.role)
    of_entry None = arrival_alone h (later_moment h now) isn source s

-- the pair that a segment leads to the opening of
abbrev pub opened_by : SocketsView → Addr → Segment → Arrival → Option Pair
opened_by h source s (Opens next) = Some (pair_of (local_end h s) (peer_end source s))
opened_by h source s (Becomes next) = None
opened_by h source s NoRoom = None
opened_by h source s (Answers head) = None

-- the same by its tests: the pair of a segment that opens a connection where none is, at a listener that has a place
abbrev pub pair_at_listener : SocketsView → Addr → Segment → Option Pair
pair_at_listener h source s = of_listener (find (is_listening_at s.destination) h.entries)
  where
    of_listener : Option Entry → Option Pair
    of_listener None = None
    of_listener (Some listener) = if has_no_room h listener then None else Some (pair_of (local_end h s) (peer_end source s))

abbrev pub pair_opened : SocketsView → Addr → Segment → Option Pair
pair_opened h source s = of_entry (find (is_between (local_end h s) (peer_end source s)) h.entries)
  where
    of_entry : Option Entry → Option Pair
    of_entry (Some e) = None
    of_entry None = if is_opening s.flags then pair_at_listener h source s else None

-- the answer to a segment and the new table are those that the segment leads to
abbrev pub Meets : Arrival → SocketsView → Taken → SocketsView → Type 0
Meets (Becomes next) h answer new = (answer ≡ taken.Done) × (new ≡ next)
Meets (Opens next) h answer new = ((answer ≡ taken.Done) × (new ≡ next)) ⊎ ((answer ≡ taken.NoRoom) × (new ≡ h))
Meets NoRoom h answer new = (answer ≡ taken.NoRoom) × (new ≡ h)
Meets (Answers head) h answer new = (answer ≡ taken.Answer head) × (new ≡ h)
