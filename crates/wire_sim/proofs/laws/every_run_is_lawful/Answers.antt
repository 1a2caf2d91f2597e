use Rattle.wire_sim.proofs.runs.RunsAreLawful.{run_lawful}
use Rattle.wire_sim.proofs.laws.every_run_is_lawful.Goals as goal

pub returns : goal.returns
returns c = run_lawful
