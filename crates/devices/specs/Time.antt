-- What a link heard of the hosts' clocks.
use Rattle.std.specs.Prelude.{◌≡◌, Option, Some, None, ⊤}
use Rattle.clock.specs.declared.moment.Moment.{Moment}

-- a link that keeps the moment that it heard last heard this one
abbrev pub IsToldTime : Option Moment → Moment → Type 0
IsToldTime None now = ⊤
IsToldTime (Some told) now = told ≡ now
