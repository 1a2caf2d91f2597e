use Rattle.wire_sim.proofs.runs.RunsAreReached.{runs-reached}
use Rattle.wire_sim.proofs.laws.every_run_is_reached.Goals as goal

pub returns : goal.returns
returns c = runs-reached
