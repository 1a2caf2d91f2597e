use Rattle.std.proofs.Common.{◌∙◌, ap}
use Rattle.tcp_state.specs.Timing.{after_expiries}
use Rattle.tcp_state.specs.View.{View}
use Rattle.tcp_state.proofs.connection.Connection.tick_on.Goals as goal

pub returns : goal.returns
returns c = c.tick_expiries.ensures ∙ ap (λ (v : View). after_expiries v c.args.now) c.tick_silence.ensures
