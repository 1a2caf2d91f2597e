use Rattle.tcp_state.proofs.Lateness.{late_told, late_forgotten, late_stays}
use Rattle.tcp_state.proofs.late.how_late_octets_came_is_known.Goals as goal

pub returns : goal.returns
returns c = record { late = late_told; expiry = late_forgotten; others = late_stays }
