use Rattle.stream_buf.proofs.Receptions.{nothing_lost, readable_stays}
use Rattle.stream_buf.proofs.laws.nothing_is_lost.Goals as goal

pub returns-clause-kept : goal.returns-clause-kept
returns-clause-kept c = nothing_lost

pub returns-clause-readable : goal.returns-clause-readable
returns-clause-readable c = readable_stays
