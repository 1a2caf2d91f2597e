use Rattle.wire_sim.proofs.runs.RunsAreLawful.{run_tallied}
use Rattle.wire_sim.proofs.laws.every_run_is_tallied.Goals as goal

pub returns : goal.returns
returns c = run_tallied
