use Rattle.tcp_state.proofs.TenDrawn.{taken_in_reach}
use Rattle.tcp_state.proofs.guards.octets_come_with_acknowledgements_in_reach.Goals as goal

pub returns : goal.returns
returns c = taken_in_reach
