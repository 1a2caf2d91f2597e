use Rattle.capture.proofs.Ours.{moment_back, opened_ours, ours_read}
use Rattle.capture.proofs.laws.written_is_read.Goals as goal

pub returns-clause-opened : goal.returns-clause-opened
returns-clause-opened c = opened_ours

pub returns-clause-read : goal.returns-clause-read
returns-clause-read c = ours_read

pub returns-clause-moment : goal.returns-clause-moment
returns-clause-moment c = moment_back
