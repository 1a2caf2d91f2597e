use Rattle.std.proofs.Common.{refl}
use Rattle.tcp_state.proofs.LostSyns.{resent_is_lost, lost_for_ever, nothing_else_is}
use Rattle.tcp_state.proofs.counting.lost_syns_are_remembered.Goals as goal

pub returns : goal.returns
returns c = record {
  opened = λ room local peer isn now. refl;
  accepted = λ room local peer isn syn now. refl;
  resent = resent_is_lost;
  stays = lost_for_ever;
  others = nothing_else_is;
}
