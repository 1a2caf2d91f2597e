use Rattle.std.proofs.Common.{refl}
use Rattle.tcp_state.proofs.Recount.{counted_again, nothing_else_counts}
use Rattle.tcp_state.proofs.counting.resent_segments_are_counted.Goals as goal

pub returns : goal.returns
returns c = record {
  opened = λ room local peer isn now. refl;
  accepted = λ room local peer isn syn now. refl;
  again = counted_again;
  others = nothing_else_counts;
}
