use Rattle.capture.proofs.Ours.{more_written, none_written}
use Rattle.capture.proofs.laws.written_in_turn.Goals as goal

pub returns-clause-none : goal.returns-clause-none
returns-clause-none c = none_written

pub returns-clause-more : goal.returns-clause-more
returns-clause-more c = more_written
