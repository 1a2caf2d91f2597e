-- A receive buffer over every list of calls, and the stream of octets that comes out of it (RFC 9293 section 3.4). Only laws speak of
-- it.
use Rattle.std.specs.Prelude.{◌≡◌, ℕ, zero, suc, ◌+◌, ◌<◌, ◌≤◌, Bool, ◌&&◌, if◌then◌else◌, List, [], ◌∷◌, ◌++◌, length, map, fold, Option, Some, None, is_some, is_none, IsSome, slice_index, slice_index_or, EachIndex, All}
use Rattle.stream_buf.specs.Receiving.{ReceiveView, nothing_received, joined, after_insert, read_octets, after_read, after_forgetting}

-- what happens to a receive buffer
pub data ReceiveEvent : Type 0 where
  -- octets come at a distance from RCV.NXT
  Inserts : ℕ → List ℕ → ReceiveEvent
  -- so many octets are read at most
  Reads : ℕ → ReceiveEvent
  -- what is kept ahead of a gap is forgotten: nothing more comes
  Forgets : ReceiveEvent

-- A receive buffer, all the octets that were read since it was made, in order, and RCV.NXT, which counts from the first octet of the
-- stream on: it moves by as many octets as each insertion tells.
pub record Received : Type 0 where
  pub buffer : ReceiveView
  pub read : List ℕ
  pub next : ℕ

-- nothing came
abbrev pub nothing_yet : ℕ → Received
nothing_yet capacity = record { buffer = nothing_received capacity; read = []; next = 0 }

abbrev pub after_receive_event : Received → ReceiveEvent → Received
after_receive_event r (Inserts distance octets) = record r {
  buffer = after_insert r.buffer distance octets;
  next = r.next + length (joined r.buffer distance octets);
}
after_receive_event r (Reads len) = record r { buffer = after_read r.buffer len; read = r.read ++ read_octets r.buffer len }
after_receive_event r Forgets = record r { buffer = after_forgetting r.buffer }

-- after these events, the first one first, from a new buffer for so many octets on
abbrev pub received : ℕ → List ReceiveEvent → Received
received capacity events = fold after_receive_event (nothing_yet capacity) events

-- all the octets that became readable, in order: those that were read, and those that can be
abbrev pub in_order : Received → List ℕ
in_order r = r.read ++ r.buffer.readable

-- what came, by its place in the stream: the octets in order, and behind them what is kept ahead of a gap
abbrev pub by_place : Received → List (Option ℕ)
by_place r = map (λ octet. Some octet) (in_order r) ++ r.buffer.kept

-- what is inserted has room, as `insert_at` wants it
abbrev pub HasRoom : Received → ReceiveEvent → Type 0
HasRoom r (Inserts distance octets) = distance + length octets ≤ length r.buffer.kept
HasRoom r (Reads len) = Unit {0}
HasRoom r Forgets = Unit {0}

-- what is inserted is of a stream, at its place there
abbrev pub IsOf : (ℕ → ℕ) → Received → ReceiveEvent → Type 0
IsOf stream r (Inserts distance octets) = EachIndex octets (λ k. slice_index octets k ≡ stream (r.next + distance + k))
IsOf stream r (Reads len) = Unit {0}
IsOf stream r Forgets = Unit {0}

-- this holds of each of these events, after those before it
abbrev pub EachFrom : (Received → ReceiveEvent → Type 0) → Received → List ReceiveEvent → Type 0
EachFrom P r [] = Unit {0}
EachFrom P r (event ∷ events) = P r event × EachFrom P (after_receive_event r event) events

-- each of these events can be, from a new buffer for so many octets on
abbrev pub AreReceiveCalls : ℕ → List ReceiveEvent → Type 0
AreReceiveCalls capacity events = EachFrom HasRoom (nothing_yet capacity) events

-- they carry octets of one stream
abbrev pub Carry : (ℕ → ℕ) → ℕ → List ReceiveEvent → Type 0
Carry stream capacity events = EachFrom (IsOf stream) (nothing_yet capacity) events

-- none of these events forgets what is kept
abbrev pub ForgetNothing : List ReceiveEvent → Type 0
ForgetNothing events = All (λ event. ¬ (event ≡ Forgets)) events

-- The octets of an insertion stand at their places in the stream, and every other place is as it was.
pub record IsInserted (old : Received) (distance : ℕ) (octets : List ℕ) (new : Received) : Type 0 where
  pub own : EachIndex octets (λ k. slice_index_or (by_place new) (old.next + distance + k) None ≡ Some (slice_index octets k))
  pub before : (place : ℕ) → place < old.next + distance → slice_index_or (by_place new) place None ≡ slice_index_or (by_place old) place None
  pub behind : (place : ℕ) → old.next + distance + length octets ≤ place → slice_index_or (by_place new) place None ≡ slice_index_or (by_place old) place None

-- An insertion touches what is kept: it has an octet for a place that keeps one, or for one directly before or behind such a place.
abbrev pub Touches : List (Option ℕ) → ℕ → List ℕ → Type 0
Touches kept distance octets = (k : ℕ) × (distance ≤ k + 1) × (k ≤ distance + length octets) × IsSome (slice_index_or kept k None)

-- a range begins at a place: it keeps an octet, and there is none directly before it
abbrev pub is_beginning : List (Option ℕ) → ℕ → Bool
is_beginning kept zero = is_some (slice_index_or kept 0 None)
is_beginning kept (suc k) = is_some (slice_index_or kept (suc k) None) && is_none (slice_index_or kept k None)

-- of the first so many places, at how many a range begins
abbrev pub beginnings : List (Option ℕ) → ℕ → ℕ
beginnings kept zero = 0
beginnings kept (suc k) = beginnings kept k + (if is_beginning kept k then 1 else 0)
