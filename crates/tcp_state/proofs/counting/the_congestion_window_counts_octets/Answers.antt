use Rattle.tcp_state.proofs.Signals.{begins_at_opening, counts_octets, counts_tail, counts_partly, counts_no_part, counts_report, counts_both, counts_duplicate, counts_expiry, others_count_none, duplicates_are}
use Rattle.tcp_state.proofs.counting.the_congestion_window_counts_octets.Goals as goal

pub returns : goal.returns
returns c = record {
  begins = begins_at_opening;
  acknowledged = counts_octets;
  tail = counts_tail;
  partly = counts_partly;
  ruled = counts_no_part;
  reported = counts_report;
  acknowledged_and_reported = counts_both;
  duplicate = counts_duplicate;
  expired = counts_expiry;
  others = others_count_none;
  same = duplicates_are;
}
