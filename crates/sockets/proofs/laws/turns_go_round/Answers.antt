use Rattle.sockets.proofs.TurnsRound.{goes_round}
use Rattle.sockets.proofs.laws.turns_go_round.Goals as goal

pub returns : goal.returns
returns c = goes_round
