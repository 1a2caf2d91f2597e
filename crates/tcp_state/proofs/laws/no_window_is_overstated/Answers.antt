use Rattle.tcp_state.proofs.Overstated.{units_told, octets_told}
use Rattle.tcp_state.proofs.FirstWindow.{first_kept}
use Rattle.tcp_state.proofs.laws.no_window_is_overstated.Goals as goal

pub returns : goal.returns
returns c = record { units = units_told; octets = octets_told; first = first_kept }
