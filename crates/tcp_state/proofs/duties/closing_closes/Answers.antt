use Rattle.tcp_state.proofs.Shut.{shutdown_shuts, opening_stays, close_shuts, close_aborts, close_removes}
use Rattle.tcp_state.proofs.duties.closing_closes.Goals as goal

pub returns : goal.returns
returns c = record { shuts = shutdown_shuts; opening = opening_stays; leaves = close_shuts; aborts = close_aborts; removes = close_removes }
