use Rattle.stream_buf.proofs.Reports.{reported_before, last_reported}
use Rattle.stream_buf.proofs.reported.reports_end.Goals as goal

pub returns-clause-before : goal.returns-clause-before
returns-clause-before c = λ place rs is. reported_before rs place is

pub returns-clause-last : goal.returns-clause-last
returns-clause-last c = λ rs apart some. last_reported rs 1 apart some
