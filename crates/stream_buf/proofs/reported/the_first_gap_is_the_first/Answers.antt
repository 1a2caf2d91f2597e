use Rattle.stream_buf.proofs.Reports.{gap_unreported, gap_from, gap_first}
use Rattle.stream_buf.proofs.reported.the_first_gap_is_the_first.Goals as goal

pub returns-clause-unreported : goal.returns-clause-unreported
returns-clause-unreported c = λ place rs apart. gap_unreported rs 1 place apart

pub returns-clause-from : goal.returns-clause-from
returns-clause-from c = λ place rs. gap_from rs place

pub returns-clause-first : goal.returns-clause-first
returns-clause-first c = λ place d rs from before. gap_first rs place d from before
