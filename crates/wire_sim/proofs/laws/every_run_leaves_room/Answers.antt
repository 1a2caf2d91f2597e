use Rattle.wire_sim.proofs.runs.RoomyRunsLast.{runs-leave}
use Rattle.wire_sim.proofs.laws.every_run_leaves_room.Goals as goal

pub returns : goal.returns
returns c = runs-leave
