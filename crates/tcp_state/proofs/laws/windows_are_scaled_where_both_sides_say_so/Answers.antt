use Rattle.std.proofs.Common.{refl}
use Rattle.tcp_segment.specs.Segment.{scale_option_of}
use Rattle.tcp_state.proofs.Scales.{where_both, heard_by_both, told_in_syns, told_to_none, told_unasked, plain}
use Rattle.tcp_state.proofs.PeerSizes.{scale_stays, scale_waits}
use Rattle.tcp_state.proofs.laws.windows_are_scaled_where_both_sides_say_so.Goals as goal

pub returns : goal.returns
returns c = record {
  offered = λ room local peer isn now. refl;
  accepted = λ room local peer isn syn now. where_both room.manner.scales (scale_option_of syn);
  answered = heard_by_both;
  stays = scale_stays;
  waits = λ v e sent. scale_waits v e;
  told = told_in_syns;
  unasked = told_to_none;
  crossing = told_unasked;
  plain = plain;
}
