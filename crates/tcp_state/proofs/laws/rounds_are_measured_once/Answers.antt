use Rattle.tcp_state.proofs.Measured.{sampled, begins}
use Rattle.tcp_state.proofs.laws.rounds_are_measured_once.Goals as goal

pub returns : goal.returns
returns c = record { sampled = sampled; begins = begins }
