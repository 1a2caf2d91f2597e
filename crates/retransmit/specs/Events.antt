-- The retransmission timeout after a list of events (RFC 6298 sections 2, 3 and 5).
use Rattle.std.specs.Prelude.{ℕ, ◌≤◌, List, fold}
use Rattle.std.specs.List.{AllByRecursion}
use Rattle.retransmit.specs.Timeout.{Timeout, first_timeout, after_sample, after_expiry, after_lost_syn}

-- what happens to the timeout of a connection
pub data Event : Type 0 where
  -- a round-trip time in milliseconds, of a segment that went out once
  Sample : ℕ → Event
  -- the retransmission timer expired
  Expiry : Event
  -- the connection became established after its SYN's timer had expired
  EstablishedAfterLostSyn : Event

abbrev pub after_event : Timeout → Event → Timeout
after_event t (Sample milliseconds) = after_sample t milliseconds
after_event t Expiry = after_expiry t
after_event t EstablishedAfterLostSyn = after_lost_syn t

-- the timeout of a connection whose set-up asks for this least timeout, in milliseconds, and to which these events came, the first one first
abbrev pub timeout_after : ℕ → List Event → Timeout
timeout_after least events = fold after_event (first_timeout least) events

-- each of these round-trip times lies between two bounds
abbrev pub AreBetween : ℕ → ℕ → List ℕ → Type 0
AreBetween a b samples = AllByRecursion (λ r. (a ≤ r) × (r ≤ b)) samples
