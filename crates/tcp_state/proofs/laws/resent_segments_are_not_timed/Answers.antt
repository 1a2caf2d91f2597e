use Rattle.tcp_state.proofs.Measured.{not_timed}
use Rattle.tcp_state.proofs.laws.resent_segments_are_not_timed.Goals as goal

pub returns : goal.returns
returns c = not_timed
