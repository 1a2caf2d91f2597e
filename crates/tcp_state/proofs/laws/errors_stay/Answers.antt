use Rattle.tcp_state.proofs.Errors.{errors_kept}
use Rattle.tcp_state.proofs.laws.errors_stay.Goals as goal

pub returns : goal.returns
returns c = errors_kept
