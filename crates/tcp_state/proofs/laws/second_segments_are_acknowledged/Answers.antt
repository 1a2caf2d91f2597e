use Rattle.tcp_state.proofs.SecondSegments.{second_answered, first_answered, owed_goes}
use Rattle.tcp_state.proofs.laws.second_segments_are_acknowledged.Goals as goal

pub returns : goal.returns
returns c = record { second = second_answered; first = first_answered; owed = owed_goes }
