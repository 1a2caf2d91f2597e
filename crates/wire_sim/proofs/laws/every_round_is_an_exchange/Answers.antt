use Rattle.wire_sim.proofs.rounds.RoundsAreExchanges.{rounds-exchange}
use Rattle.wire_sim.proofs.laws.every_round_is_an_exchange.Goals as goal

pub returns : goal.returns
returns c = rounds-exchange
