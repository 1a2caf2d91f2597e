use Rattle.tcp_state.proofs.Congestion.{raised_by_one, raised_back}
use Rattle.tcp_state.proofs.laws.one_segment_raises_the_window_by_one.Goals as goal

pub returns : goal.returns
returns c = record { needed = raised_by_one; back = raised_back }
