use Rattle.std.proofs.Common.{refl}
use Rattle.tcp_state.proofs.GoingOut.{passing_goes_out, last_goes_out}
use Rattle.tcp_state.proofs.SmallSegments.{small_waits_for_small}
use Rattle.tcp_state.proofs.Minshall.{plain_waits, set_up_stays}
use Rattle.tcp_state.proofs.laws.small_segments_wait_for_small_ones.Goals as goal

pub returns : goal.returns
returns c = record {
  waits = small_waits_for_small;
  sends = passing_goes_out;
  last = last_goes_out;
  plain = plain_waits;
  opened = λ room local peer isn now. refl;
  accepted = λ room local peer isn syn now. refl;
  stays = set_up_stays;
}
