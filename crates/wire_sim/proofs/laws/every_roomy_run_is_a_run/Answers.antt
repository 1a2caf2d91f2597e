use Rattle.wire_sim.proofs.runs.RoomyRunsLast.{runs-seen}
use Rattle.wire_sim.proofs.laws.every_roomy_run_is_a_run.Goals as goal

pub returns : goal.returns
returns c = runs-seen
