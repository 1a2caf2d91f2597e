use Rattle.tcp_state.proofs.Resting.{rests_on}
use Rattle.tcp_state.proofs.progress.ticks_end_nothing_at_rest.Goals as goal

pub returns : goal.returns
returns c = rests_on
