use Rattle.tcp_state.proofs.StillStreams.{ticks_leave, ends_leave, emissions_leave}
use Rattle.tcp_state.proofs.counting.ticks_leave_the_streams.Goals as goal

pub returns : goal.returns
returns c = record { ticks = ticks_leave; ends = ends_leave; goes_out = emissions_leave }
