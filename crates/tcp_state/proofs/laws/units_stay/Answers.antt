use Rattle.std.proofs.Common.{refl}
use Rattle.tcp_state.proofs.Scales.{own_units, peer_units, unsettled_units}
use Rattle.tcp_state.proofs.PeerSizes.{unit_of_syn, units_stay, units_wait}
use Rattle.tcp_state.proofs.laws.units_stay.Goals as goal

pub returns : goal.returns
returns c = record {
  own = own_units;
  peer = peer_units;
  unsettled = unsettled_units;
  opened = λ room local peer isn now. (refl, refl);
  accepted = λ room local peer isn syn now. refl;
  answered = unit_of_syn;
  stays = units_stay;
  waits = λ v e sent. units_wait v e;
}
