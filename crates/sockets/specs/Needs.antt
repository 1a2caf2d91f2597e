-- What a segment that arrives needs of a table, or of the layer above: a place and memory for a connection, or a reply that answers it.
use Rattle.std.specs.Prelude.{◌≡◌, ◌⊎◌, Bool, nat_le, if◌then◌else◌, count_by, Option, Some, None, option_map, find}
use Rattle.ipv4.specs.declared.addr.Addr.{Addr}
use Rattle.tcp_segment.specs.declared.head.Head.{Head}
use Rattle.tcp_segment.specs.Segment.{Segment}
use Rattle.tcp_state.specs.Asking.{is_rejection}
use Rattle.sockets.specs.declared.entry.Entry.{Entry}
use Rattle.sockets.specs.declared.needs.Need.{Need}
use Rattle.sockets.specs.declared.needs.Need.TheVariants.{Backlog, Table, Memory, Reply}
use Rattle.sockets.specs.Arrival.{Arrival, Becomes, Opens, NoRoom, Answers, is_opening, local_end, peer_end}
use Rattle.sockets.specs.Calls.{is_table_full}
use Rattle.sockets.specs.Entries.{is_between, is_listening_at, is_waiting_at, backlog_of, fate_of}
use Rattle.sockets.specs.Replies.{answer_to, answer_at_listener}
use Rattle.sockets.specs.SocketsView.{SocketsView}

-- as many connections wait at a listener as its backlog allows
abbrev pub is_backlog_full : SocketsView → Entry → Bool
is_backlog_full h listener = nat_le (backlog_of listener.role) (count_by (is_waiting_at listener.id) h.entries)

-- A further connection needs a place at its listener, and one in the table and an id; where it has these, memory.
abbrev pub need_at : SocketsView → Entry → Need
need_at h listener = if is_backlog_full h listener then Backlog else if is_table_full h then Table else Memory

-- what is answered needs a reply
abbrev pub need_of_answer : Option Head → Option Need
need_of_answer answer = option_map (λ head. Reply) answer

-- a segment for no connection opens one at its listener, or is answered, or needs nothing
abbrev pub need_alone : SocketsView → Segment → Option Need
need_alone h s = of_listener (find (is_listening_at s.destination) h.entries)
  where
    of_listener : Option Entry → Option Need
    of_listener None = need_of_answer (answer_to s)
    of_listener (Some listener) = if is_opening s.flags then Some (need_at h listener) else need_of_answer (answer_at_listener s)

-- a segment that its connection takes needs nothing, and one that it rejects is answered
abbrev pub need : SocketsView → Addr → Segment → Option Need
need h source s = of_entry (find (is_between (local_end h s) (peer_end source s)) h.entries)
  where
    of_entry : Option Entry → Option Need
    of_entry None = need_alone h s
    of_entry (Some e) = if is_rejection (fate_of s e.role) then Some Reply else None

-- For the laws: this is needed by what a segment leads to.
abbrev pub IsNeededBy : Arrival → Option Need → Type 0
IsNeededBy (Becomes next) what = what ≡ None
IsNeededBy (Opens next) what = what ≡ Some Memory
IsNeededBy NoRoom what = (what ≡ Some Backlog) ⊎ (what ≡ Some Table)
IsNeededBy (Answers head) what = what ≡ Some Reply
