-- What a caller may ask of a socket before it sends or reads.
use Rattle.std.specs.Prelude.{ℕ, ◌+◌, ◌-◌, min, nat_lt, if◌then◌else◌, List, [], ◌∷◌, length, map, Option, Some, None}
use Rattle.udp.specs.declared.waiting.TheConstants.{CAPACITY, COUNTED_BESIDE, MOST_WAITING}
use Rattle.udp.specs.Waiting.{Waiting, Line, load}
use Rattle.udp_socket.specs.declared.socket.TheConstants.{MOST_OCTETS}
use Rattle.udp_socket.specs.SocketView.{SocketView, line_of, waiting_of}

-- how many octets the first datagram has that came
abbrev pub first_len : List Waiting → Option ℕ
first_len [] = None
first_len (item ∷ items) = Some (length item.octets)

-- How many octets a further datagram may have at most: what these leave beside the 8 that it counts, and no more than a datagram has; none where 64
-- wait.
abbrev pub room_beside : Line → ℕ
room_beside line =
    if nat_lt (length line.items) MOST_WAITING then min (CAPACITY - (load line + COUNTED_BESIDE)) MOST_OCTETS
    else 0

-- .. of one to be sent
abbrev pub room_out : SocketView → ℕ
room_out s = room_beside (line_of (map waiting_of s.outbox))
