use Rattle.tcp_state.proofs.SetSoon.{soon, never}
use Rattle.tcp_state.proofs.laws.timers_are_set_soon.Goals as goal

pub returns : goal.returns
returns c = record { soon = soon; never = never }
