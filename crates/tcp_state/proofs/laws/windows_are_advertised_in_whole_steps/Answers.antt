use Rattle.tcp_state.proofs.Told.{in_steps, told_next}
use Rattle.tcp_state.proofs.laws.windows_are_advertised_in_whole_steps.Goals as goal

pub returns : goal.returns
returns c = record { steps = in_steps; told = told_next }
