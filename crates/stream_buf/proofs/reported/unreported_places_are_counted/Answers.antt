use Rattle.stream_buf.proofs.Reports.{none_below, next_below}
use Rattle.stream_buf.proofs.reported.unreported_places_are_counted.Goals as goal

pub returns-clause-none : goal.returns-clause-none
returns-clause-none c = none_below

pub returns-clause-next : goal.returns-clause-next
returns-clause-next c = λ place rs apart. next_below rs place apart
