use Rattle.tcp_state.proofs.KeptTold.{told_is_kept, kept_is_told, latest_is_told_first, latest_is_noted, told_alone, told_by_none}
use Rattle.tcp_state.proofs.reports.acknowledgements_report_what_is_kept.Goals as goal

pub returns : goal.returns
returns c = record {
  kept = told_is_kept;
  all = kept_is_told;
  first = latest_is_told_first;
  latest = latest_is_noted;
  alone = told_alone;
  unasked = told_by_none;
}
