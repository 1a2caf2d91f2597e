use Rattle.tcp_state.proofs.InNetwork.{pipe_counts}
use Rattle.tcp_state.proofs.repair.each_place_in_the_network_counts.Goals as goal

pub returns : goal.returns
returns c = pipe_counts
