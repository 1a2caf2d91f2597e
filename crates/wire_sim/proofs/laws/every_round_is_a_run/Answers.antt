use Rattle.wire_sim.proofs.rounds.RoundsAreRuns.{rounds-lead}
use Rattle.wire_sim.proofs.laws.every_round_is_a_run.Goals as goal

pub returns : goal.returns
returns c = rounds-lead
