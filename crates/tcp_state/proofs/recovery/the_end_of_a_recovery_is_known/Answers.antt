use Rattle.tcp_state.proofs.Recovering.{noted_at_third, noted_at_expiry, end_stays}
use Rattle.tcp_state.proofs.recovery.the_end_of_a_recovery_is_known.Goals as goal

pub returns : goal.returns
returns c = record { third = noted_at_third; expiry = noted_at_expiry; others = end_stays }
