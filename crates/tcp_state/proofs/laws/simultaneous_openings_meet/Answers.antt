use Rattle.tcp_state.proofs.Simultaneous.{both_answered, both_opened, both_know}
use Rattle.tcp_state.proofs.laws.simultaneous_openings_meet.Goals as goal

pub returns : goal.returns
returns c = record { answers = both_answered; opens = both_opened; windows = both_know }
