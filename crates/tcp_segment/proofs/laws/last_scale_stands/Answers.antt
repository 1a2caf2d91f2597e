use Rattle.std.proofs.Common.{None}
use Rattle.tcp_segment.proofs.Told.{last_shift_stands, unscaled}
use Rattle.tcp_segment.proofs.laws.last_scale_stands.Goals as goal

pub returns-clause-last : goal.returns-clause-last
returns-clause-last c = last_shift_stands None

pub returns-clause-none : goal.returns-clause-none
returns-clause-none c = unscaled None
