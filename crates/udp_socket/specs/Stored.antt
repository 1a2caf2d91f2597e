-- How the outgoing datagrams of a socket are stored: what is known of each beside its octets, and a queue of the datagrams. The contracts
-- of `UdpSocket` do not rest on this page.
use Rattle.std.specs.Prelude.{◌≡◌, ℕ, ◌+◌, ◌<◌, ◌≤◌, ⊤, Bool, if◌then◌else◌, List, [], ◌∷◌, length, take}
use Rattle.circular_buffer.specs.Buffer.{Buffer}
use Rattle.udp.specs.Waiting.{Waiting, Line}
use Rattle.udp.specs.Fragments.{count_of}
use Rattle.udp_socket.specs.declared.tag.Tag.{Tag}
use Rattle.udp_socket.specs.SocketView.{Outgoing}

-- a datagram of the queue, with what is known of it
abbrev pub outgoing : Tag → Waiting → Outgoing
outgoing tag item = record { peer = tag.peer; identification = tag.identification; since = tag.since; octets = item.octets }

abbrev pub outgoing_of : List Tag → List Waiting → List Outgoing
outgoing_of [] items = []
outgoing_of (tag ∷ tags) [] = []
outgoing_of (tag ∷ tags) (item ∷ items) = outgoing tag item ∷ outgoing_of tags items

-- each datagram of the queue has its tag, is for the same endpoint, and is no longer than IPv4 can carry
abbrev pub AreBeside : List Tag → List Waiting → Type 0
AreBeside [] [] = ⊤
AreBeside [] (item ∷ items) = ⊥
AreBeside (tag ∷ tags) [] = ⊥
AreBeside (tag ∷ tags) (item ∷ items) = (item.endpoint ≡ tag.peer) × (length item.octets ≤ 65507) × AreBeside tags items

-- fewer fragments of the first have gone out than it has
abbrev pub ArePartsOf : List Waiting → ℕ → Type 0
ArePartsOf [] parts = parts ≡ 0
ArePartsOf (item ∷ items) parts = parts < count_of (8 + length item.octets)

pub record IsStored (received sent : Line) (tags : Buffer Tag) (count : ℕ) : Type 0 where
  pub inbox : received.capacity ≡ 65535
  pub outbox : sent.capacity ≡ 65535
  pub places : tags.capacity ≡ 64
  pub few : length tags.items ≤ 64
  pub beside : AreBeside tags.items sent.items
  pub parts : ArePartsOf sent.items count

-- the first of a list, if it is wanted
abbrev pub first_if : Bool → List Outgoing → List Outgoing
first_if wanted xs = if wanted then take 1 xs else []

-- a datagram of this tag, whatever its octets
abbrev pub bare : Tag → Outgoing
bare tag = outgoing tag (record { endpoint = tag.peer; octets = [] })
