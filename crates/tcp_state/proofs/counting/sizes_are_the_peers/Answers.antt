use Rattle.std.proofs.Common.{refl}
use Rattle.tcp_state.proofs.PeerSizes.{size_of_syn, others_leave_size, keeps_to_size, size_told, size_untold}
use Rattle.tcp_state.proofs.counting.sizes_are_the_peers.Goals as goal

pub returns : goal.returns
returns c = record {
  listener = λ room local peer isn syn now. refl;
  opens = size_of_syn;
  others = others_leave_size;
  told = size_told;
  untold = size_untold;
  kept = keeps_to_size;
}
