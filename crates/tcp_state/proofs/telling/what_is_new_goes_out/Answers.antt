use Rattle.tcp_state.proofs.GoingOut.{full_goes_out, all_goes_out, half_goes_out, fin_goes_out, probe_goes_out}
use Rattle.tcp_state.proofs.telling.what_is_new_goes_out.Goals as goal

pub returns : goal.returns
returns c = record { full = full_goes_out; all = all_goes_out; half = half_goes_out; fin = fin_goes_out; probe = probe_goes_out }
