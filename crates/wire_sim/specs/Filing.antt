-- How a ledger finds its openings without a look at each: an opening is filed under a number, and the places of those whose numbers
-- leave the same rest are one chain.
use Rattle.std.specs.Prelude.{◌≡◌, ◌≢◌, ℕ, ◌+◌, ◌*◌, ◌%◌, ◌^◌, ◌<◌, ◌≤◌, List, length, map, slice_index, slice_index_or}
use Rattle.ipv4.specs.declared.addr.Endpoint.{Endpoint}
use Rattle.ipv4.specs.declared.addr.Pair.{Pair}
use Rattle.wire_sim.specs.declared.event.Opening.{Opening}

-- the chain of a place
abbrev pub chain_at : ℕ → List ℕ → ℕ → ℕ
chain_at chains numbers place = slice_index_or numbers place 0 % chains

-- A chain among the places below `end`: `front` is one above its last place, or 0 where it has none.
pub record EndsAt (chain_at : ℕ → ℕ) (chain end front : ℕ) : Type 0 where
  pub within : front ≤ end
  pub last : (place : ℕ) → place + 1 ≡ front → chain_at place ≡ chain
  pub past : (place : ℕ) → front ≤ place → place < end → chain_at place ≢ chain

-- `heads` leads to the last place of each chain, and `before` from each place to the one before it in its chain.
pub record IsChained (heads numbers before : List ℕ) : Type 0 where
  pub len : length before ≡ length numbers
  pub headed : (chain : ℕ) → chain < length heads → EndsAt (chain_at (length heads) numbers) chain (length numbers) (slice_index_or heads chain 0)
  pub linked : (place : ℕ) → place < length numbers → EndsAt (chain_at (length heads) numbers) (chain_at (length heads) numbers place) place (slice_index_or before place 0)

-- What openings are filed under. Any numbers would do: these differ mostly where the pairs do.
abbrev pub end_number : Endpoint → ℕ
end_number e = slice_index e.addr.0 0 + 31 * slice_index e.addr.0 1 + 961 * slice_index e.addr.0 2 + 29791 * slice_index e.addr.0 3 + 923521 * e.port

abbrev pub pair_number : Pair → ℕ
pair_number pair = end_number pair.first + 28629151 * end_number pair.second

abbrev pub epoch_number : Pair → ℕ → ℕ
epoch_number pair epoch = (pair_number pair + epoch) % 2 ^ 64

abbrev pub by_pair : Opening → ℕ
by_pair o = pair_number o.pair

abbrev pub by_epoch : Opening → ℕ
by_epoch o = epoch_number o.pair o.epoch

abbrev pub by_socket : Opening → ℕ
by_socket o = o.id.0

-- each opening stands in its place under its number
abbrev pub IsFiled : (Opening → ℕ) → List Opening → List ℕ → Type 0
IsFiled number openings numbers = numbers ≡ map number openings
