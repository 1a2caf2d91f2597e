use Rattle.std.proofs.Common.{refl}
use Rattle.tcp_state.proofs.LastSmall.{small_begins, small_stays}
use Rattle.tcp_state.proofs.laws.the_last_small_segment_is_known.Goals as goal

pub returns : goal.returns
returns c = record {
  opened = λ room local peer isn now. refl;
  accepted = λ room local peer isn syn now. refl;
  within = λ v sound. sound.small;
  begins = small_begins;
  stays = small_stays;
}
