use Rattle.tcp_state.proofs.Errors.{errors_caused}
use Rattle.tcp_state.proofs.laws.errors_have_causes.Goals as goal

pub returns : goal.returns
returns c = errors_caused
