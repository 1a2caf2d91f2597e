use Rattle.wire_sim.proofs.runs.RoomLasts.{room-lasts}
use Rattle.wire_sim.proofs.laws.every_step_leaves_room.Goals as goal

pub returns : goal.returns
returns c = room-lasts
