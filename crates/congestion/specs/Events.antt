-- The congestion window after a list of events (RFC 5681 sections 3.1 and 3.2, RFC 6582 section 3.2, RFC 6675 section 5).
use Rattle.std.specs.Prelude.{ℕ, ⊤, Bool, List, fold}
use Rattle.congestion.specs.declared.control.Control.{Control}
use Rattle.congestion.specs.Window.{Window, initial_window, after_new_ack, after_partial_ack, after_expiry, after_duplicate, after_loss, after_undo}

-- what happens to the window of a connection
pub data Event : Type 0 where
  -- an ACK of so many new octets, behind which so many are in flight
  NewAck : ℕ → ℕ → Event
  -- an ACK of so many new octets, in a recovery that goes on
  PartialAck : ℕ → Event
  -- the retransmission timer expired with so many octets in flight
  Expiry : ℕ → Event
  -- a duplicate ACK with so many octets in flight
  Duplicate : ℕ → Event
  -- reports tell that what stands at SND.UNA is lost, with so many octets in flight
  Loss : ℕ → Event
  -- nothing was lost when a segment last counted so
  Undo : Event

abbrev pub after_event : Window → Event → Window
after_event w (NewAck octets flight) = after_new_ack w octets flight
after_event w (PartialAck octets) = after_partial_ack w octets
after_event w (Expiry flight) = after_expiry w flight
after_event w (Duplicate flight) = after_duplicate w flight
after_event w (Loss flight) = after_loss w flight
after_event w Undo = after_undo w

-- what comes also where losses are not repaired
abbrev pub IsOfPlain : Event → Type 0
IsOfPlain (PartialAck octets) = ⊥
IsOfPlain (Loss flight) = ⊥
IsOfPlain Undo = ⊥
IsOfPlain _ = ⊤

-- the window of a connection to which these events came, the first one first
abbrev pub window_after : Control → ℕ → Bool → List Event → Window
window_after control smss resent events = fold after_event (initial_window control smss resent) events
