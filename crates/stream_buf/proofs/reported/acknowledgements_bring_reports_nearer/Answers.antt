use Rattle.stream_buf.proofs.Reports.{passed_ranges, passed_was, passed_stays}
use Rattle.stream_buf.proofs.reported.acknowledgements_bring_reports_nearer.Goals as goal

pub returns-clause-ranges : goal.returns-clause-ranges
returns-clause-ranges c = λ count place rs. passed_ranges rs count place

pub returns-clause-was : goal.returns-clause-was
returns-clause-was c = λ count place rs is. passed_was rs count place is

pub returns-clause-stays : goal.returns-clause-stays
returns-clause-stays c = λ count gap place rs from before none is. passed_stays rs count gap place from before none is
