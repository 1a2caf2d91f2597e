-- What room of a world its events take up.
use Rattle.std.specs.Prelude.{ℕ, ◌+◌}
use Rattle.wire_sim.specs.WorldRoom.{RoomyWorld, HasRoomFor}

-- where there was room for so many events and for more, there is room for those
pub record TakesUp (events : ℕ) (old new : RoomyWorld) : Type 0 where
  pub left : (more : ℕ) → HasRoomFor (events + more) old → HasRoomFor more new
