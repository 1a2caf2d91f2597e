use Rattle.tcp_state.proofs.SilentEnds.{silent_ends_seen}
use Rattle.tcp_state.proofs.laws.silent_ends_were_seen.Goals as goal

pub returns : goal.returns
returns c = silent_ends_seen
