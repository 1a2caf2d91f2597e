use Rattle.tcp_state.proofs.RunsDry.{runs_dry}
use Rattle.tcp_state.proofs.telling.what_goes_out_runs_dry.Goals as goal

pub returns : goal.returns
returns c = runs_dry
