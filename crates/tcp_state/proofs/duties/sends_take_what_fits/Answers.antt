use Rattle.tcp_state.proofs.MovedOctets.{send_takes, send_waits}
use Rattle.tcp_state.proofs.duties.sends_take_what_fits.Goals as goal

pub returns : goal.returns
returns c = record { takes = send_takes; full = send_waits }
