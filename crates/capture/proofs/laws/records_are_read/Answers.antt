use Rattle.capture.proofs.Runs.{all_read, cut_read}
use Rattle.capture.proofs.laws.records_are_read.Goals as goal

pub returns-clause-whole : goal.returns-clause-whole
returns-clause-whole c = all_read

pub returns-clause-cut : goal.returns-clause-cut
returns-clause-cut c = cut_read
