use Rattle.wire_sim.proofs.progress.RoundsMove.{rounds-move}
use Rattle.wire_sim.proofs.laws.every_round_moves_data.Goals as goal

pub returns : goal.returns
returns c = rounds-move
