use Rattle.tcp_state.proofs.Waiting.{goes_out}
use Rattle.tcp_state.proofs.laws.what_waits_goes_out.Goals as goal

pub returns : goal.returns
returns c = goes_out
