use Rattle.tcp_state.proofs.Congestion.{moves_by_events}
use Rattle.tcp_state.proofs.laws.the_congestion_window_moves_by_events.Goals as goal

pub returns : goal.returns
returns c = moves_by_events
