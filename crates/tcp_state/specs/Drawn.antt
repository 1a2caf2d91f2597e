-- Which segments draw an acknowledgement on guard that aren't used, of all that happens to a connection.
use Rattle.std.specs.Prelude.{ℕ, ◌+◌, ◌≤◌, ◌<◌, ◌&&◌, not, Bool, false, if◌then◌else◌, List, [], ◌∷◌}
use Rattle.clock.specs.declared.moment.Moment.{Moment}
use Rattle.tcp_state.specs.View.{View, is_closed}
use Rattle.tcp_state.specs.Guard.{is_spent}
use Rattle.tcp_state.specs.Arrival.{draws_one}
use Rattle.tcp_state.specs.Edges.{Event, Hears, after_event}

-- a segment that isn't used draws one, where none was owed, and it isn't held back
abbrev pub is_answered : View → Event → Bool
is_answered v (Hears s now) = not (is_closed v.state) && draws_one v s && not (is_spent v.guard now)
is_answered v _ = false

-- how many do, of what happens one after the other
unfoldable pub answered_among : View → List Event → ℕ
answered_among v [] = 0
answered_among v (e ∷ rest) = (if is_answered v e then 1 else 0) + answered_among (after_event v e) rest

-- each segment comes within a second from a moment on
abbrev pub IsWithin : Moment → Event → Type 0
IsWithin from (Hears s now) = (from.0 ≤ now.0) × (now.0 < from.0 + 1000)
IsWithin from _ = Unit {0}

unfoldable pub EachWithin : Moment → List Event → Type 0
EachWithin from [] = Unit {0}
EachWithin from (e ∷ rest) = IsWithin from e × EachWithin from rest

-- the same connection of a host that isn't on its guard
abbrev pub unguarded : View → View
unguarded v = record v { guard = record v.guard { on = false } }
