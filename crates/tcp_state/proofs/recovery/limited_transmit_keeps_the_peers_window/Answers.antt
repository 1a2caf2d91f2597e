use Rattle.tcp_state.proofs.Transmits.{limited_within, limited_sends}
use Rattle.tcp_state.proofs.recovery.limited_transmit_keeps_the_peers_window.Goals as goal

pub returns : goal.returns
returns c = record { within = limited_within; sends = limited_sends }
