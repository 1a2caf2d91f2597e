-- What guards a connection against segments that aren't used (RFC 5961 section 7).
use Rattle.std.specs.Prelude.{ℕ, ◌+◌, ◌-◌, ◌&&◌, not, nat_lt, nat_le, Bool, if◌then◌else◌}
use Rattle.clock.specs.declared.moment.Moment.{Moment}
use Rattle.tcp_state.specs.declared.guard.Guard.{Guard}
use Rattle.tcp_state.specs.declared.guard.TheConstants.{MOST_DRAWN, SECOND}

-- nothing was drawn
abbrev pub first_guard : Bool → Guard
first_guard on = record { on = on; drawn = 0; latest = record { 0 = 0 } }

-- How many acknowledgements that were drawn count at a moment: all, but none a second after the last.
abbrev pub counting_at : Guard → Moment → ℕ
counting_at g now = if nat_lt (now.0 - g.latest.0) SECOND then g.drawn else 0

-- ten count: one more is held back
abbrev pub is_spent : Guard → Moment → Bool
is_spent g now = nat_le MOST_DRAWN (counting_at g now)

-- a segment was heard that drew one or didn't
abbrev pub guard_after : Guard → Bool → Moment → Guard
guard_after g drew now = let counts = drew && not (is_spent g now) in record g {
  drawn = if counts then counting_at g now + 1 else g.drawn;
  latest = if counts then now else g.latest;
}
