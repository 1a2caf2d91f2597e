-- Datagrams that wait: a list, first in first out.
use Rattle.std.specs.Prelude.{ℕ, ◌+◌, ◌<◌, ◌≤◌, List, [], ◌∷◌, ◌++◌, length, sum_by, take, drop, Option, Some, None}
use Rattle.std.specs.List.{remove}
use Rattle.ipv4.specs.declared.addr.Endpoint.{Endpoint}
use Rattle.udp.specs.declared.waiting.Entry.{Entry}
use Rattle.udp.specs.declared.waiting.TheConstants.{COUNTED_BESIDE, MOST_WAITING}

-- a datagram that waits: the endpoint that it is from or for, and its octets
pub record Waiting : Type 0 where
  pub endpoint : Endpoint
  pub octets : List ℕ

-- a queue: what waits, the first in first, and how many octets may wait
pub record Line : Type 0 where
  pub items : List Waiting
  pub capacity : ℕ

-- what a datagram counts: its octets, and 8 beside them
abbrev pub counted : Waiting → ℕ
counted item = COUNTED_BESIDE + length item.octets

-- what all that wait count
abbrev pub load : Line → ℕ
load line = sum_by counted line.items

-- a queue keeps its limits: 64 datagrams at most, and what they count
pub record IsWithin (line : Line) : Type 0 where
  pub datagrams : length line.items ≤ MOST_WAITING
  pub octets : load line ≤ line.capacity

-- a further datagram of so many octets has room
pub record HasRoom (line : Line) (len : ℕ) : Type 0 where
  pub datagrams : length line.items < MOST_WAITING
  pub octets : load line + (COUNTED_BESIDE + len) ≤ line.capacity

-- what is known of a datagram beside its octets
abbrev pub entry_of : Waiting → Entry
entry_of item = record { endpoint = item.endpoint; len = length item.octets }

-- the first datagram, beside its octets
abbrev pub first_entry : List Waiting → Option Entry
first_entry [] = None
first_entry (item ∷ items) = Some (entry_of item)

-- the octets of the first datagram
abbrev pub first_octets : List Waiting → List ℕ
first_octets [] = []
first_octets (item ∷ items) = item.octets

-- a list with the item in this place first, the others in order behind it
abbrev pub brought_forward : {X : Type 0} → ℕ → List X → List X
brought_forward place xs = take 1 (drop place xs) ++ remove xs place
