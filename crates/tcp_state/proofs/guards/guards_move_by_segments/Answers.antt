use Rattle.tcp_state.proofs.TenDrawn.{guard_stays}
use Rattle.tcp_state.proofs.guards.guards_move_by_segments.Goals as goal

pub returns : goal.returns
returns c = guard_stays
