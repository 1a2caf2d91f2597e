use Rattle.std.proofs.Common.{[]}
use Rattle.tcp_segment.proofs.Told.{last_report_stands, unreported}
use Rattle.tcp_segment.proofs.laws.last_report_stands.Goals as goal

pub returns-clause-last : goal.returns-clause-last
returns-clause-last c = last_report_stands []

pub returns-clause-none : goal.returns-clause-none
returns-clause-none c = unreported []
