use Rattle.interface.proofs.RunsOut.{ahead, never}
use Rattle.interface.proofs.laws.requests_lie_ahead.Goals as goal

pub returns-clause-ahead : goal.returns-clause-ahead
returns-clause-ahead c = ahead

pub returns-clause-never : goal.returns-clause-never
returns-clause-never c = never
