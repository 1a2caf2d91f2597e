use Rattle.tcp_state.proofs.Onward.{never_back}
use Rattle.tcp_state.proofs.laws.numbers_never_go_back.Goals as goal

pub returns : goal.returns
returns c = never_back
