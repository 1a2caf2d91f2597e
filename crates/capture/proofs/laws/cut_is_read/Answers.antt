use Rattle.capture.proofs.Ours.{ours_cut, ours_cut_read, ours_opened}
use Rattle.capture.proofs.laws.cut_is_read.Goals as goal

pub returns-clause-header : goal.returns-clause-header
returns-clause-header c = ours_cut

pub returns-clause-opened : goal.returns-clause-opened
returns-clause-opened c = ours_opened

pub returns-clause-read : goal.returns-clause-read
returns-clause-read c = ours_cut_read
