-- How datagrams that wait are stored: what is known of each, and the octets of all, one behind the other. The contracts of
-- `Queue` do not rest on this page.
use Rattle.std.specs.Prelude.{◌≡◌, ℕ, ◌+◌, ◌*◌, ◌≤◌, List, [], ◌∷◌, length, take, drop, sum_by}
use Rattle.circular_buffer.specs.Buffer.{Buffer}
use Rattle.udp.specs.declared.waiting.Entry.{Entry}
use Rattle.udp.specs.Waiting.{Waiting}

-- the datagrams of these entries, whose octets stand one behind the other
abbrev pub items_of : List Entry → List ℕ → List Waiting
items_of [] octets = []
items_of (entry ∷ entries) octets =
    record { endpoint = entry.endpoint; octets = take entry.len octets } ∷ items_of entries (drop entry.len octets)

-- the octets are those of the entries, and the limits are kept
pub record IsStored (entries : Buffer Entry) (octets : Buffer ℕ) : Type 0 where
  pub places : entries.capacity ≡ 64
  pub datagrams : length entries.items ≤ 64
  pub lens : sum_by (λ entry. entry.len) entries.items ≡ length octets.items
  pub within : 8 * length entries.items + length octets.items ≤ octets.capacity
