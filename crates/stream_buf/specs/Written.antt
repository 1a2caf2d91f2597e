-- A send buffer over every list of calls, and the stream of octets that it took. Only laws speak of it.
use Rattle.std.specs.Prelude.{ℕ, ◌+◌, ◌≤◌, List, [], ◌∷◌, ◌++◌, length, take, fold}
use Rattle.stream_buf.specs.Sending.{SendView, nothing_held, written_count, after_write, after_acked}

-- what happens to a send buffer
pub data SendEvent : Type 0 where
  -- these octets are written
  Writes : List ℕ → SendEvent
  -- so many octets are acknowledged
  Acks : ℕ → SendEvent

-- A send buffer, all the octets that it took since it was made, in order, and how many of them were acknowledged.
pub record Written : Type 0 where
  pub buffer : SendView
  pub taken : List ℕ
  pub acknowledged : ℕ

-- nothing was written
abbrev pub nothing_written : ℕ → Written
nothing_written capacity = record { buffer = nothing_held capacity; taken = []; acknowledged = 0 }

-- a write takes as many of its octets as it tells
abbrev pub after_send_event : Written → SendEvent → Written
after_send_event w (Writes octets) = record w { buffer = after_write w.buffer octets; taken = w.taken ++ take (written_count w.buffer octets) octets }
after_send_event w (Acks count) = record w { buffer = after_acked w.buffer count; acknowledged = w.acknowledged + count }

-- after these events, the first one first, from a new buffer for so many octets on
abbrev pub written : ℕ → List SendEvent → Written
written capacity events = fold after_send_event (nothing_written capacity) events

-- no more is acknowledged than is held, as `acked` wants it
abbrev pub IsHeld : Written → SendEvent → Type 0
IsHeld w (Writes octets) = Unit {0}
IsHeld w (Acks count) = count ≤ length w.buffer.held

abbrev pub AreHeldFrom : Written → List SendEvent → Type 0
AreHeldFrom w [] = Unit {0}
AreHeldFrom w (event ∷ events) = IsHeld w event × AreHeldFrom (after_send_event w event) events

-- each of these events can be, from a new buffer for so many octets on
abbrev pub AreSendCalls : ℕ → List SendEvent → Type 0
AreSendCalls capacity events = AreHeldFrom (nothing_written capacity) events
