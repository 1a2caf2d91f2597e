use Rattle.tcp_state.proofs.Clocks.{restarts, begins, runs_on}
use Rattle.tcp_state.proofs.laws.new_acknowledgements_restart_the_timer.Goals as goal

pub returns : goal.returns
returns c = record { restarts = restarts; begins = begins; runs_on = runs_on }
