use Rattle.tcp_halves.proofs.LargestWindow.{of_syn, of_update}
use Rattle.tcp_halves.proofs.laws.the_largest_window_is_kept.Goals as goal

pub returns : goal.returns
returns c = record { syn = of_syn; told = of_update }
