use Rattle.capture.proofs.Beginnings.{opened_cut, opened_whole}
use Rattle.capture.proofs.laws.header_is_read.Goals as goal

pub returns-clause-whole : goal.returns-clause-whole
returns-clause-whole c = opened_whole

pub returns-clause-cut : goal.returns-clause-cut
returns-clause-cut c = opened_cut
