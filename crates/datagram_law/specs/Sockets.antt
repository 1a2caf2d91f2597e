-- A UDP socket of one host, and what this host and the other one accepted.
use Rattle.std.specs.Prelude.{◌≡◌, ℕ, ◌+◌, ◌<◌, List, [], ◌∷◌, length, All, Contains}
use Rattle.ipv4.specs.declared.addr.Endpoint.{Endpoint}
use Rattle.udp.specs.Fragments.{count_of}
use Rattle.udp_socket.specs.SocketView.{Outgoing, SocketView}
use Rattle.datagram_law.specs.Accepted.{Accepted, CameFrom}
use Rattle.datagram_law.specs.Carried.{accepted_of}

-- fewer fragments of the first have gone out than it has
abbrev pub HasPartsLeft : List Outgoing → ℕ → Type 0
HasPartsLeft [] parts = parts ≡ 0
HasPartsLeft (o ∷ rest) parts = parts < count_of (8 + length o.octets)

-- It is bound to this endpoint of its host: what is to go out of it is what the host accepted there, and what came and waits for its reader
-- is what the other host accepted for it.
pub record IsSocketOf (own other : List Accepted) (local : Endpoint) (s : SocketView) : Type 0 where
  pub outgoing : All (λ o. Contains own (accepted_of local o)) s.outbox
  pub parts : HasPartsLeft s.outbox s.parts
  pub incoming : All (λ w. CameFrom other w.endpoint local w.octets) s.inbox
