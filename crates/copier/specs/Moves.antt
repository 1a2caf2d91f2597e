-- What each move of the two ends makes of a course.
use Rattle.std.specs.Prelude.{◌≡◌, ℕ, ◌≤◌, Bool, true, false, List, [], ◌∷◌, ◌++◌, length, take, Option, Some, Result, IfErr, OnOk, ⊤}
use Rattle.tcp_state.specs.declared.calls.Received.{Received}
use Rattle.tcp_state.specs.declared.calls.Received.TheVariants as received
use Rattle.sockets.specs.declared.entry.SocketId.{SocketId}
use Rattle.sockets.specs.SocketsView.{SocketsView}
use Rattle.sides.specs.declared.side.Side.{Side}
use Rattle.sides.specs.declared.side.Side.TheVariants.{A, B}
use Rattle.host.specs.HostView.{HostView}
use Rattle.wire_sim.specs.Steps.{readable_on}
use Rattle.devices.specs.Streams.{counted}
use Rattle.devices.specs.Passages.{Passage, taken, given, MayGive, IsFairLink}
use Rattle.copy_law.specs.CopyView.{CopyView}
use Rattle.copy_law.specs.Course.{IsCourse}
use Rattle.copier.specs.declared.ends.Ends.{Ends}
use Rattle.copier.specs.declared.ends.Arrival.{Arrival}
use Rattle.copier.specs.declared.ends.Arrival.TheVariants.{Nothing, Octets, End}
use Rattle.copier.specs.declared.fault.CopyFault.{CopyFault}
use Rattle.copier.specs.declared.fault.CopyFault.TheVariants.{Link}
use Rattle.copier.specs.Faults.{link_fails}

-- a copy between two ends, where so much passed through the link and was written and read
abbrev pub copy_of : Ends → List Passage → List ℕ → List ℕ → Bool → Bool → CopyView
copy_of e told sent read closed ended = record {
  a = e.a;
  b = e.b;
  clock = e.clock;
  sender = e.sender;
  receiver = e.receiver;
  opened = e.opened;
  allowance = e.allowance;
  told = told;
  sent = sent;
  read = read;
  closed = closed;
  ended = ended;
}

-- the host of a side
abbrev pub host_of : Ends → Side → HostView
host_of e A = e.a
host_of e B = e.b

-- the host of a side is this, and all else as it was
abbrev pub with_host : Ends → Side → HostView → Ends
with_host e A h = record e { a = h }
with_host e B h = record e { b = h }

-- a course goes on, and nothing but the ends has changed
abbrev pub GoesOn : Ends → Ends → Type 0
GoesOn old new = (told : List Passage) (sent read : List ℕ) (closed ended : Bool) → IsCourse (copy_of old told sent read closed ended) → IsCourse (copy_of new told sent read closed ended)

-- with a frame that went into the link
abbrev pub Emits : Side → List ℕ → Ends → Ends → Type 0
Emits from frame old new = (told : List Passage) (sent read : List ℕ) (closed ended : Bool) → IsCourse (copy_of old told sent read closed ended)
    → IsCourse (copy_of new (told ++ taken from frame ∷ []) sent read closed ended)

-- with a frame that came out of it
abbrev pub Hears : Side → List ℕ → Ends → Ends → Type 0
Hears to frame old new = (told : List Passage) (sent read : List ℕ) (closed ended : Bool) → MayGive told to frame → IsCourse (copy_of old told sent read closed ended)
    → IsCourse (copy_of new (told ++ given to frame ∷ []) sent read closed ended)

-- with octets that a took
abbrev pub Writes : List ℕ → Ends → Ends → Type 0
Writes octets old new = (told : List Passage) (sent read : List ℕ) (closed ended : Bool) → IsCourse (copy_of old told sent read closed ended)
    → IsCourse (copy_of new told (sent ++ octets) read closed ended)

-- where a may have closed its side
abbrev pub Closes : Bool → Ends → Ends → Type 0
Closes does old new = (told : List Passage) (sent read : List ℕ) (ended : Bool) → IsCourse (copy_of old told sent read false ended) → IsCourse (copy_of new told sent read does ended)

-- with what b gave into a buffer
abbrev pub Reads : Arrival → List ℕ → Ends → Ends → Type 0
Reads Nothing buffer old new = new ≡ old
Reads (Octets count) buffer old new = (count ≤ length buffer) × ((told : List Passage) (sent read : List ℕ) (closed ended : Bool) → IsCourse (copy_of old told sent read closed ended)
    → IsCourse (copy_of new told sent (read ++ take count buffer) closed ended))
Reads End buffer old new = (told : List Passage) (sent read : List ℕ) (closed ended : Bool) → IsCourse (copy_of old told sent read closed ended) → IsCourse (copy_of new told sent read closed true)

-- what passed before was fair where all that passed is
abbrev pub KeepsTold : Option (List Passage) → Option (List Passage) → Type 0
KeepsTold old new = (told : List Passage) → old ≡ Some told → (longer : List Passage) × (new ≡ Some longer) × (IsFairLink longer → IsFairLink told)

-- a course goes on where what passes through a link is fair
abbrev pub Carries : Option (List Passage) → Option (List Passage) → Ends → Ends → Type 0
Carries before after old new = (told : List Passage) → before ≡ Some told → (longer : List Passage) × (after ≡ Some longer)
    × (IsFairLink longer → IsFairLink told × ((sent read : List ℕ) (closed ended : Bool) → IsCourse (copy_of old told sent read closed ended) → IsCourse (copy_of new longer sent read closed ended)))

-- Frames passed between a link and an end, or the link failed: it counts that, what passed before was fair where all that passed is, and where it did not fail a course goes on.
pub record Passes (result : Result Bool CopyFault) (counted_before counted_after : ℕ) (told_before told_after : Option (List Passage)) (old new : Ends) : Type 0 where
  pub failed : counted_after ≡ counted (link_fails result) counted_before
  pub fault : IfErr result (λ fault. fault ≡ Link)
  pub told : KeepsTold told_before told_after
  pub carries : OnOk result (Carries told_before told_after old new)

-- what a receive answers is at the front of its buffer: the first octets that were readable
abbrev pub GivesFront : Received → List ℕ → SocketsView → SocketId → Type 0
GivesFront (received.Octets count) buffer h id = (count ≤ length buffer) × (take count buffer ≡ readable_on h id count)
GivesFront received.EndOfStream buffer h id = ⊤
