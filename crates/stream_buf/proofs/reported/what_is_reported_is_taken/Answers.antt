use Rattle.stream_buf.proofs.Scoreboards.{with_report_refused}
use Rattle.stream_buf.proofs.Reports.{report_added}
use Rattle.stream_buf.proofs.reported.what_is_reported_is_taken.Goals as goal

pub returns-clause-taken : goal.returns-clause-taken
returns-clause-taken c = λ outstanding place rs new was taken. report_added rs outstanding new place was taken

pub returns-clause-refused : goal.returns-clause-refused
returns-clause-refused c = λ outstanding rs new refused. with_report_refused rs outstanding new refused
