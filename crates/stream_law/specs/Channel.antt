-- A channel is one direction x -> y of one pair of endpoints in one epoch. It says what the two callers did, what each
-- half keeps of it, and what ever went out; of a host's timers, windows and policies it says nothing.
use Rattle.std.specs.Prelude.{◌≡◌, ℕ, ◌+◌, ◌<◌, ◌^◌, Bool, if◌then◌else◌, List, ◌∷◌, length, Option, Some, ◌⊎◌, slice_get}
use Rattle.tcp_segment.specs.Wire.{past}

-- a segment that went out with numbers of this direction, and how much was written when it did
pub record Frame : Type 0 where
  pub number : ℕ
  pub octets : List ℕ
  pub syn : Bool
  pub fin : Bool
  pub written_at : ℕ

-- an acknowledgement that went out, and how much was written when it did
pub record Ack : Type 0 where
  pub number : ℕ
  pub written_at : ℕ

-- the sending half: the octets taken and not acknowledged, SND.UNA, the number after the highest sent, and whether the
-- SYN and the FIN are acknowledged
pub record Sender : Type 0 where
  pub held : List ℕ
  pub una : ℕ
  pub nxt : ℕ
  pub syn_acked : Bool
  pub fin_acked : Bool

-- the receiving half: RCV.NXT, and the octets kept at each distance ahead of it
pub record Receiver : Type 0 where
  pub rnext : ℕ
  pub kept : ℕ → Option ℕ

pub data Sending : Type 0 where
  Unopened : Sending
  Open : Sender → Sending
  Stopped : Sending

pub data Receiving : Type 0 where
  Waiting : Receiving
  Synchronised : Receiver → Receiving
  Gone : Receiving

pub record Channel : Type 0 where
  -- what the caller at x did
  pub written : List ℕ
  pub closed : Bool
  -- what the caller at y was given
  pub read : List ℕ
  pub ended : Bool
  -- what y has in order and has not given, and whether the FIN stands behind it
  pub readable : List ℕ
  pub end_seen : Bool
  pub sending : Sending
  pub receiving : Receiving
  -- what ever went out
  pub frames : List Frame
  pub acks : List Ack

-- one of a list
pub data IsAmong {A : Type 0} : A → List A → Type 0 where
  here : (x : A) (xs : List A) → IsAmong x (x ∷ xs)
  there : (x y : A) (xs : List A) → IsAmong x xs → IsAmong x (y ∷ xs)

-- less than the limit was written since
abbrev pub IsRecent : ℕ → List ℕ → ℕ → Type 0
IsRecent limit written written_at = length written < written_at + limit

abbrev pub number_of : Bool → ℕ
number_of flag = if flag then 1 else 0

-- the octet at this distance past RCV.NXT is known to be this one: it is kept there, or the frame has it there
abbrev pub IsKnown : Receiver → Frame → ℕ → ℕ → Type 0
IsKnown r frame distance octet =
    (r.kept distance ≡ Some octet)
    ⊎ ((j : ℕ) × (slice_get frame.octets j ≡ Some octet) × (past (frame.number + j) r.rnext ≡ distance) × (distance < 2 ^ 31))
