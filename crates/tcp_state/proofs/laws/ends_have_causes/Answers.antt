use Rattle.tcp_state.proofs.Causes.{ends_caused}
use Rattle.tcp_state.proofs.laws.ends_have_causes.Goals as goal

pub returns : goal.returns
returns c = ends_caused
