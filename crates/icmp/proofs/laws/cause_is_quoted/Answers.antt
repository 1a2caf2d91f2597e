use Rattle.icmp.proofs.Answering.{cause, quotes_are_read}
use Rattle.icmp.proofs.Quoting.{one_quote}
use Rattle.icmp.proofs.laws.cause_is_quoted.Goals as goal

pub returns-clause-one : goal.returns-clause-one
returns-clause-one c = one_quote

pub returns-clause-read : goal.returns-clause-read
returns-clause-read c = quotes_are_read

pub returns-clause-cause : goal.returns-clause-cause
returns-clause-cause c = cause
