use Rattle.std.proofs.Common.{None}
use Rattle.stream_buf.proofs.Runs.{runs_keep, runs_apart, runs_ahead, runs_counted, runs_covered}
use Rattle.stream_buf.proofs.laws.kept_ranges_are_what_is_kept.Goals as goal

pub returns-clause-kept : goal.returns-clause-kept
returns-clause-kept c = runs_keep

pub returns-clause-apart : goal.returns-clause-apart
returns-clause-apart c = λ kept. runs_apart None 0 kept tt

pub returns-clause-ahead : goal.returns-clause-ahead
returns-clause-ahead c = runs_ahead

pub returns-clause-counted : goal.returns-clause-counted
returns-clause-counted c = runs_counted

pub returns-clause-octets : goal.returns-clause-octets
returns-clause-octets c = runs_covered
