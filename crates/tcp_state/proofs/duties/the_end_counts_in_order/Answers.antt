use Rattle.tcp_state.proofs.EndInOrder.{used_moves_on, unused_stays}
use Rattle.tcp_state.proofs.duties.the_end_counts_in_order.Goals as goal

pub returns : goal.returns
returns c = record { used = used_moves_on; unused = unused_stays }
