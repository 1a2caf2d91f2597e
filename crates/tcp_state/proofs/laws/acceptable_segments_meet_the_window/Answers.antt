use Rattle.tcp_state.proofs.Positions.{accepted_filled, accepted_empty}
use Rattle.tcp_state.proofs.Resets.{unaccepted_changes}
use Rattle.tcp_state.proofs.laws.acceptable_segments_meet_the_window.Goals as goal

pub returns : goal.returns
returns c = record { filled = accepted_filled; empty = accepted_empty; others = unaccepted_changes }
