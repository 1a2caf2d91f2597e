-- What befalls a connection in a row, and a wait of a second among it.
use Rattle.std.specs.Prelude.{◌≤◌, List, [], ◌∷◌, Contains}
use Rattle.clock.specs.declared.moment.Moment.{Moment}
use Rattle.clock.specs.Moments.{after}
use Rattle.tcp_state.specs.View.{View}
use Rattle.tcp_state.specs.Edges.{Event, Ticks, Emits, after_event}

-- the connection after these events, one by one
abbrev pub after_all : View → List Event → View
after_all v [] = v
after_all v (e ∷ rest) = after_all (after_event v e) rest

-- What was due went out at a moment, and a tick came a second or more after that.
pub record HasWaited (events : List Event) : Type 0 where
  pub began : Moment
  pub goes_out : Contains events (Emits began)
  pub ticked : Moment
  pub ticks : Contains events (Ticks ticked)
  pub second : (after began 1000).0 ≤ ticked.0
