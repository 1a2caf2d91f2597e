use Rattle.tcp_state.proofs.WrongAcks.{wrong_acks_rejected}
use Rattle.tcp_state.proofs.telling.wrong_acknowledgements_are_rejected.Goals as goal

pub returns : goal.returns
returns c = wrong_acks_rejected
