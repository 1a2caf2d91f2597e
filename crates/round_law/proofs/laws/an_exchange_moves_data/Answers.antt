use Rattle.round_law.proofs.Moves.{moves}
use Rattle.round_law.proofs.laws.an_exchange_moves_data.Goals as goal

pub returns : goal.returns
returns c = moves
