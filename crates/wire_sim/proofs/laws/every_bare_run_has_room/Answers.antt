use Rattle.wire_sim.proofs.runs.RoomyRunsLast.{bare-runs}
use Rattle.wire_sim.proofs.laws.every_bare_run_has_room.Goals as goal

pub returns : goal.returns
returns c = bare-runs
