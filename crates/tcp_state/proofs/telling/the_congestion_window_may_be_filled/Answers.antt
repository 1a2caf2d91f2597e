use Rattle.tcp_state.proofs.Filled.{plainly, counted}
use Rattle.tcp_state.proofs.telling.the_congestion_window_may_be_filled.Goals as goal

pub returns : goal.returns
returns c = record { plain = plainly; counted = counted }
