use Rattle.tcp_state.proofs.WrongAcks.{syn_goes_back}
use Rattle.tcp_state.proofs.telling.second_syns_go_back_to_listen.Goals as goal

pub returns : goal.returns
returns c = syn_goes_back
