use Rattle.stream_buf.proofs.Reports.{lost_before}
use Rattle.stream_buf.proofs.reported.what_stands_before_enough_is_lost.Goals as goal

pub returns : goal.returns
returns c = λ t place rs apart none. lost_before t rs 1 place apart none
