use Rattle.tcp_state.proofs.NewNumbers.{keeps_window, keeps_cwnd}
use Rattle.tcp_state.proofs.laws.new_numbers_keep_the_window.Goals as goal

pub returns-clause-window : goal.returns-clause-window
returns-clause-window c = keeps_window

pub returns-clause-congestion : goal.returns-clause-congestion
returns-clause-congestion c = keeps_cwnd
