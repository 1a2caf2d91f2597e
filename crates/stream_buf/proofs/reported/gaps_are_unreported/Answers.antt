use Rattle.stream_buf.proofs.Reports.{len_unreported, len_some, len_most, len_whole}
use Rattle.stream_buf.proofs.reported.gaps_are_unreported.Goals as goal

pub returns-clause-unreported : goal.returns-clause-unreported
returns-clause-unreported c = λ place most i rs apart none below. len_unreported rs 1 place most i apart none below

pub returns-clause-some : goal.returns-clause-some
returns-clause-some c = λ place most rs some. len_some rs place most some

pub returns-clause-most : goal.returns-clause-most
returns-clause-most c = λ place most rs. len_most rs place most

pub returns-clause-whole : goal.returns-clause-whole
returns-clause-whole c = λ place most rs apart fewer. len_whole rs 1 place most apart fewer
