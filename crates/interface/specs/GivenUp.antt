-- What a tick gives up of the control replies.
use Rattle.std.specs.Prelude.{ℕ, not, count_by}
use Rattle.clock.specs.declared.moment.Moment.{Moment}
use Rattle.interface.specs.InterfaceView.{InterfaceView}
use Rattle.interface.specs.Timing.{stays}

-- how many of them don't stay
abbrev pub given_up : InterfaceView → Moment → ℕ
given_up h now = count_by (λ waiting. not (stays h now waiting)) h.replies
