use Rattle.host.proofs.TurnsRound.{goes_round}
use Rattle.host.proofs.laws.turns_go_round.Goals as goal

pub returns : goal.returns
returns c = λ h now first waiting waited run other has. goes_round first waiting h now waited run other has
