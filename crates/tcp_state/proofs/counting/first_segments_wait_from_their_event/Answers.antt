use Rattle.std.proofs.Common.{refl}
use Rattle.tcp_state.proofs.Hopless.{stands_where_due, wait_begins, wait_stays}
use Rattle.tcp_state.proofs.counting.first_segments_wait_from_their_event.Goals as goal

pub returns : goal.returns
returns c = record {
  stands = stands_where_due;
  opened = λ room local peer isn now. refl;
  accepted = λ room local peer isn syn now. refl;
  begins = wait_begins;
  stays = wait_stays;
}
