use Rattle.std.proofs.Common.{refl}
use Rattle.tcp_segment.proofs.Sending.{permission_back}
use Rattle.tcp_state.specs.Due.{head_of, octets_of}
use Rattle.tcp_state.proofs.PeerSizes.{report_of_syn, report_stays, report_waits}
use Rattle.tcp_state.proofs.reports.reports_are_made_where_both_sides_say_so.Goals as goal

pub returns : goal.returns
returns c = record {
  offered = λ room local peer isn now. refl;
  accepted = λ room local peer isn syn now. refl;
  answered = report_of_syn;
  stays = report_stays;
  waits = λ v e sent. report_waits v e;
  told = λ v due. permission_back (head_of v due) (octets_of v due);
}
