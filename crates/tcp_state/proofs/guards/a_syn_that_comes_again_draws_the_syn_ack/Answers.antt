use Rattle.tcp_state.proofs.TenDrawn.{syn_draws_syn_ack}
use Rattle.tcp_state.proofs.guards.a_syn_that_comes_again_draws_the_syn_ack.Goals as goal

pub returns : goal.returns
returns c = syn_draws_syn_ack
