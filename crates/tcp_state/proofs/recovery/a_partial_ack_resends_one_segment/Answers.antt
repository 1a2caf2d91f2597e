use Rattle.tcp_state.proofs.Recovering.{part_resends}
use Rattle.tcp_state.proofs.recovery.a_partial_ack_resends_one_segment.Goals as goal

pub returns : goal.returns
returns c = part_resends
