use Rattle.tcp_state.proofs.Undoing.{acknowledged_counts, since_stays}
use Rattle.tcp_state.proofs.late.what_was_acknowledged_since_a_loss_is_known.Goals as goal

pub returns : goal.returns
returns c = record { acknowledged = acknowledged_counts; others = since_stays }
