use Rattle.tcp_state.proofs.StillHeld.{segment_leaves, unmoved_leaves, segment_moves, others_leave}
use Rattle.tcp_state.proofs.repair.what_is_reported_is_still_held.Goals as goal

pub returns : goal.returns
returns c = record { acknowledged = segment_leaves; unmoved = unmoved_leaves; moved = segment_moves; others = others_leave }
