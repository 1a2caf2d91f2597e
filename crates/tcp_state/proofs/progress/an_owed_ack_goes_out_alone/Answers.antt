use Rattle.tcp_state.proofs.OwedAlone.{owed_alone}
use Rattle.tcp_state.proofs.progress.an_owed_ack_goes_out_alone.Goals as goal

pub returns : goal.returns
returns c = owed_alone
