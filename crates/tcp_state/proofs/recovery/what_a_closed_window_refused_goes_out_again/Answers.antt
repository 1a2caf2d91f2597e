use Rattle.tcp_state.proofs.Reopening.{reopened_resends, reopened_alone}
use Rattle.tcp_state.proofs.recovery.what_a_closed_window_refused_goes_out_again.Goals as goal

pub returns : goal.returns
returns c = record { sends = reopened_resends; alone = reopened_alone }
