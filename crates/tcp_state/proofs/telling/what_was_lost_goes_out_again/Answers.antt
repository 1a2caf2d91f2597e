use Rattle.tcp_state.proofs.GoingOut.{syn_goes_out, lost_goes_out, missing_goes_out, unreported_marks}
use Rattle.tcp_state.proofs.telling.what_was_lost_goes_out_again.Goals as goal

pub returns : goal.returns
returns c = record { opening = syn_goes_out; later = lost_goes_out; missing = missing_goes_out; unreported = unreported_marks }
