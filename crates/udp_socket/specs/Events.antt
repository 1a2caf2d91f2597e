-- Whatever befalls a socket, in any order, and what comes of it: what is received and read, what is sent and goes out.
use Rattle.std.specs.Prelude.{◌≡◌, ◌⊎◌, ℕ, zero, suc, ◌+◌, Bool, if◌then◌else◌, List, [], ◌∷◌, ◌++◌, map, take, filter, fold, length, Option, Some, None}
use Rattle.clock.specs.declared.moment.Moment.{Moment}
use Rattle.ipv4.specs.declared.addr.Addr.{Addr}
use Rattle.ipv4.specs.declared.addr.Endpoint.{Endpoint}
use Rattle.ipv4.specs.Addresses.{same_addr}
use Rattle.udp.specs.declared.cutting.Fragment.{Fragment}
use Rattle.udp.specs.declared.cutting.Part.{Part}
use Rattle.udp.specs.Datagram.{spelling}
use Rattle.udp.specs.Fragments.{fragments_of, part_of}
use Rattle.udp.specs.Waiting.{Waiting}
use Rattle.udp_socket.specs.SocketView.{Outgoing, SocketView, has_room_in, has_room_out, with_received, with_sent, after_read}
use Rattle.udp_socket.specs.Emission.{datagram_of, waits_at, first_that, brought, due_part, due_octets, has_more, after_part}
use Rattle.udp_socket.specs.Waits.{is_given_up, after_giving_up}

pub data Event : Type 0 where
  -- a datagram is to be sent at this moment to an endpoint, under an identification
  Sends : Moment → Endpoint → ℕ → List ℕ → Event
  -- one came from an endpoint
  Receives : Endpoint → List ℕ → Event
  -- a reader with so much room takes one
  Reads : ℕ → Event
  -- the next fragment of the datagram in this place of the outbox goes out from an endpoint, where one waits there
  Emits : ℕ → Endpoint → Event
  -- those for lost addresses are given up at this moment
  GivesUp : (Addr → Bool) → Moment → Event

-- the socket after an event: a datagram without room changes nothing
abbrev pub after_event : SocketView → Event → SocketView
after_event s (Sends now peer identification octets) = if has_room_out s (length octets) then with_sent s now peer identification octets else s
after_event s (Receives from octets) = if has_room_in s (length octets) then with_received s from octets else s
after_event s (Reads room) = after_read s
after_event s (Emits place source) = if waits_at place s then after_part (brought place s) else s
after_event s (GivesUp lost now) = after_giving_up s lost now

abbrev pub after_events : SocketView → List Event → SocketView
after_events s events = fold after_event s events

-- what is told of each event at the socket that it befalls, one behind the other
abbrev pub gathered : {X : Type 0} → (SocketView → Event → List X) → SocketView → List Event → List X
gathered told s [] = []
gathered told s (event ∷ events) = told s event ++ gathered told (after_event s event) events

-- the datagram that is received, where it has room
abbrev pub received : SocketView → Event → List Waiting
received s (Receives from octets) = if has_room_in s (length octets) then record { endpoint = from; octets = octets } ∷ [] else []
received s _ = []

-- the datagram that is read
abbrev pub read : SocketView → Event → List Waiting
read s (Reads room) = take 1 s.inbox
read s _ = []

-- the datagram that is taken to be sent, where it has room
abbrev pub sent : SocketView → Event → List Outgoing
sent s (Sends now peer identification octets) =
    if has_room_out s (length octets) then record { peer = peer; identification = identification; since = now; octets = octets } ∷ [] else []
sent s _ = []

-- the datagram whose last fragment is due
abbrev pub last_due : SocketView → List Outgoing
last_due s = if has_more s then [] else take 1 s.outbox

-- the datagram whose last fragment goes out
abbrev pub finished : SocketView → Event → List Outgoing
finished s (Emits place source) = if waits_at place s then last_due (brought place s) else []
finished s _ = []

-- the datagrams that are given up
abbrev pub dropped : SocketView → Event → List Outgoing
dropped s (GivesUp lost now) = filter (is_given_up lost now) s.outbox
dropped s _ = []

-- what goes out in one datagram of IPv4: what its header tells, and its payload
pub record Piece : Type 0 where
  pub part : Part
  pub octets : List ℕ

-- the fragment that is due, from an endpoint
abbrev pub piece_due : Endpoint → SocketView → List Piece
piece_due source s = of_part (due_part s)
  where
    of_part : Option Part → List Piece
    of_part None = []
    of_part (Some part) = record { part = part; octets = due_octets source s } ∷ []

-- what goes out by an event
abbrev pub gone_out : SocketView → Event → List Piece
gone_out s (Emits place source) = if waits_at place s then piece_due source (brought place s) else []
gone_out s _ = []

-- a fragment of a datagram as it goes out
abbrev pub piece : Endpoint → Outgoing → Fragment → Piece
piece source o f = record { part = record { identification = o.identification; fragment = f }; octets = part_of (spelling (datagram_of source o)) f }

-- all of them, in order
abbrev pub pieces : Endpoint → Outgoing → List Piece
pieces source o = map (piece source o) (fragments_of (8 + length o.octets))

-- a datagram of which so many fragments, the first ones, went out
pub record Run : Type 0 where
  pub datagram : Outgoing
  pub count : ℕ

abbrev pub pieces_of : Endpoint → Run → List Piece
pieces_of source run = take run.count (pieces source run.datagram)

-- one of which all went out
abbrev pub whole : Outgoing → Run
whole o = record { datagram = o; count = length (fragments_of (8 + length o.octets)) }

-- the datagram that is the first to go out now
abbrev pub begun : SocketView → List Run
begun s = map (λ o. record { datagram = o; count = s.parts }) (take 1 s.outbox)

-- the datagrams that are given up, where so many fragments of the first have gone out
abbrev pub given_up : (Addr → Bool) → Moment → List Outgoing → ℕ → List Run
given_up lost now [] parts = []
given_up lost now (o ∷ rest) parts =
    (if is_given_up lost now o then record { datagram = o; count = parts } ∷ [] else []) ++ given_up lost now rest 0

-- the first datagram where one in a later place goes out before it
abbrev pub overtaken : ℕ → SocketView → List Run
overtaken zero s = []
overtaken (suc place) s = if waits_at (suc place) s then begun s else []

-- the datagrams that go out no further by an event: overtaken, and they begin anew later; or they leave the socket, whole or given up
abbrev pub left : SocketView → Event → List Run
left s (Emits place source) = overtaken place s ++ map whole (finished s (Emits place source))
left s (GivesUp lost now) = given_up lost now s.outbox s.parts
left s _ = []

-- what goes out goes out from this endpoint
abbrev pub IsFrom : Endpoint → Event → Type 0
IsFrom source (Emits place other) = other ≡ source
IsFrom source _ = Unit {0}

-- the first list is the second with some left out, in order
abbrev pub IsWithout : List Outgoing → List Outgoing → Type 0
IsWithout [] ys = Unit {0}
IsWithout (x ∷ xs) [] = ⊥
IsWithout (x ∷ xs) (y ∷ ys) = ((x ≡ y) × IsWithout xs ys) ⊎ IsWithout (x ∷ xs) ys

-- what goes out is of the first place of the outbox whose address passes a test
abbrev pub TakesFirst : SocketView → Event → Type 0
TakesFirst s (Emits place source) = (test : Addr → Bool) × (first_that test s.outbox ≡ Some place)
TakesFirst s _ = Unit {0}

-- so it is by each event, at the socket that it befalls: the test may be another each time
abbrev pub EachTakesFirst : SocketView → List Event → Type 0
EachTakesFirst s [] = Unit {0}
EachTakesFirst s (event ∷ events) = TakesFirst s event × EachTakesFirst (after_event s event) events

-- a datagram for this address
abbrev pub is_to : Addr → Outgoing → Bool
is_to addr o = same_addr o.peer.addr addr
