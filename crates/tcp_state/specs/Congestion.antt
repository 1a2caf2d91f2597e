-- What moves the congestion window of a connection (RFC 5681 sections 3.1 and 3.2, RFC 6582).
use Rattle.std.specs.Prelude.{◌≡◌, ℕ, ◌||◌, Bool, false}
use Rattle.congestion.specs.Window.{Window, IsSound, initial_window}
use Rattle.congestion.specs.Events.{Event, after_event}
use Rattle.tcp_state.specs.View.{View, is_opening, is_closed}

-- what a segment or a tick is to the window
pub data Signal : Type 0 where
  -- our SYN is acknowledged: the window begins
  Begins : Signal
  -- one more event
  Counts : Event → Signal
  -- one event, and behind it another
  Both : Event → Event → Signal
  Nothing : Signal

-- with segments of this size, and where our SYN went out again after an expiry or not
abbrev pub after_signal : Window → Signal → ℕ → Bool → Window
after_signal w Begins smss resent = initial_window w.control smss resent
after_signal w (Counts event) smss resent = after_event w event
after_signal w (Both first behind) smss resent = after_event (after_event w first) behind
after_signal w Nothing smss resent = w

-- The window is one that events lead to, and counts in segments of the size that the peer takes. So it is for each connection after each event.
pub record KeepsCongestion (v : View) : Type 0 where
  pub sound : IsSound v.congestion
  pub segment : (is_opening v.state || is_closed v.state) ≡ false → v.congestion.smss ≡ v.sending.smss
