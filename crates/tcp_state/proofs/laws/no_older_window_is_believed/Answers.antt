use Rattle.tcp_state.proofs.Windows.{told_by_positions, believes}
use Rattle.tcp_state.proofs.laws.no_older_window_is_believed.Goals as goal

pub returns : goal.returns
returns c = record { test = told_by_positions; alone = believes }
