-- One UDP socket: what came and was not read, and what is to go out (RFC 768). The limits of the two queues are this stack's own.
use Rattle.std.specs.Prelude.{ℕ, ◌+◌, min, nat_lt, nat_le, ◌&&◌, Bool, List, [], ◌∷◌, ◌++◌, length, map, take, drop, Option, Some, None}
use Rattle.clock.specs.declared.moment.Moment.{Moment}
use Rattle.ipv4.specs.declared.addr.Endpoint.{Endpoint}
use Rattle.udp.specs.declared.waiting.TheConstants.{CAPACITY, COUNTED_BESIDE, MOST_WAITING}
use Rattle.udp.specs.Waiting.{Waiting, Line, load}

-- a datagram that is to go out: the endpoint that it is for, the identification of its fragments, since when it waits, and its octets
pub record Outgoing : Type 0 where
  pub peer : Endpoint
  pub identification : ℕ
  pub since : Moment
  pub octets : List ℕ

-- A socket: the datagrams that came and wait for their reader, each with the endpoint that it is from; those that are to go out; each the
-- first in first. So many fragments of the first of these have gone out.
pub record SocketView : Type 0 where
  pub inbox : List Waiting
  pub outbox : List Outgoing
  pub parts : ℕ

-- in which nothing waits
abbrev pub new_socket : SocketView
new_socket = record { inbox = []; outbox = []; parts = 0 }

-- a queue of a socket that holds these
abbrev pub line_of : List Waiting → Line
line_of items = record { items = items; capacity = CAPACITY }

-- an outgoing datagram in its queue
abbrev pub waiting_of : Outgoing → Waiting
waiting_of o = record { endpoint = o.peer; octets = o.octets }

-- whether a further datagram of so many octets has room beside these
abbrev pub has_room : List Waiting → ℕ → Bool
has_room items len = nat_lt (length items) MOST_WAITING && nat_le (load (line_of items) + (COUNTED_BESIDE + len)) CAPACITY

-- whether one has room to be received
abbrev pub has_room_in : SocketView → ℕ → Bool
has_room_in s len = has_room s.inbox len

-- and one to be sent
abbrev pub has_room_out : SocketView → ℕ → Bool
has_room_out s len = has_room (map waiting_of s.outbox) len

-- with a datagram received behind the others
abbrev pub with_received : SocketView → Endpoint → List ℕ → SocketView
with_received s peer octets = record s { inbox = s.inbox ++ record { endpoint = peer; octets = octets } ∷ [] }

-- with a datagram to be sent behind the others
abbrev pub with_sent : SocketView → Moment → Endpoint → ℕ → List ℕ → SocketView
with_sent s now peer identification octets =
    record s { outbox = s.outbox ++ record { peer = peer; identification = identification; since = now; octets = octets } ∷ [] }

-- what a reader with so much room is told of the first datagram: how many of its octets it is given, and the endpoint that it is from
abbrev pub read_answer : List Waiting → ℕ → Option (ℕ × Endpoint)
read_answer [] room = None
read_answer (item ∷ items) room = Some (min (length item.octets) room, item.endpoint)

-- its buffer then: the octets of the first datagram as far as it goes, and what stood behind them
abbrev pub read_buffer : List Waiting → List ℕ → List ℕ
read_buffer [] buffer = buffer
read_buffer (item ∷ items) buffer = take (length buffer) item.octets ++ drop (length item.octets) buffer

-- the first datagram is gone, also the octets of it that the buffer had no room for
abbrev pub after_read : SocketView → SocketView
after_read s = record s { inbox = drop 1 s.inbox }
