use Rattle.std.proofs.Common.{refl, is_some}
use Rattle.tcp_segment.specs.Segment.{scale_option_of}
use Rattle.tcp_state.proofs.Scales.{settled_once, sizes_are, largest_where_scaled}
use Rattle.tcp_state.proofs.PeerSizes.{sizes_stay, sizes_wait, places_stay}
use Rattle.tcp_state.proofs.laws.sizes_stay.Goals as goal

pub returns : goal.returns
returns c = record {
  opened = λ room local peer isn now. (refl, refl, refl);
  accepted = λ room local peer isn syn now. let once = settled_once room.manner.scales (is_some (scale_option_of syn)) room.capacity in (once, once, refl);
  settled = sizes_are;
  largest = largest_where_scaled;
  stays = sizes_stay;
  waits = λ v e sent. sizes_wait v e;
  places = places_stay;
}
