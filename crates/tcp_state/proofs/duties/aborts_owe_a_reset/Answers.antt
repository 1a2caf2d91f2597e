use Rattle.tcp_state.proofs.Shut.{abort_owes, reset_goes, abort_removes}
use Rattle.tcp_state.proofs.duties.aborts_owe_a_reset.Goals as goal

pub returns : goal.returns
returns c = record { owes = abort_owes; goes = reset_goes; removes = abort_removes }
