use Rattle.tcp_state.proofs.Repairs.{resent_room, new_room, lost_missing, pipe_unreported, allowance_unreported}
use Rattle.tcp_state.proofs.repair.the_network_has_room_for_it.Goals as goal

pub returns : goal.returns
returns c = record { again = resent_room; new = new_room; lost = lost_missing; unreported = pipe_unreported; window = allowance_unreported }
