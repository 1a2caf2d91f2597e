use Rattle.std.proofs.Common.{None}
use Rattle.tcp_segment.proofs.Told.{last_stands, untold}
use Rattle.tcp_segment.proofs.laws.last_size_stands.Goals as goal

pub returns-clause-last : goal.returns-clause-last
returns-clause-last c = last_stands None

pub returns-clause-none : goal.returns-clause-none
returns-clause-none c = untold None
