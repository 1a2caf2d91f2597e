use Rattle.tcp_state.proofs.Fewer.{fewer_held}
use Rattle.tcp_state.proofs.progress.acknowledgements_free_what_is_held.Goals as goal

pub returns : goal.returns
returns c = fewer_held
