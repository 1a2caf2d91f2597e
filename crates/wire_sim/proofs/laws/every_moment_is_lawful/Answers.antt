use Rattle.wire_sim.proofs.runs.RunsAreReached.{moments-lawful}
use Rattle.wire_sim.proofs.laws.every_moment_is_lawful.Goals as goal

pub returns : goal.returns
returns c = moments-lawful
