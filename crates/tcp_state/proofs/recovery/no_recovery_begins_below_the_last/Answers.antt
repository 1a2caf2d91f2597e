use Rattle.tcp_state.proofs.Recovering.{none_below, none_by_probes}
use Rattle.tcp_state.proofs.recovery.no_recovery_begins_below_the_last.Goals as goal

pub returns : goal.returns
returns c = record { below = none_below; probing = none_by_probes }
