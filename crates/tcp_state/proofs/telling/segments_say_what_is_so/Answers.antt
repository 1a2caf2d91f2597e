use Rattle.tcp_state.proofs.AckNumbers.{alone_says}
use Rattle.tcp_state.proofs.Saying.{says_what_is_so, octets_spell}
use Rattle.tcp_state.proofs.telling.segments_say_what_is_so.Goals as goal

pub returns-clause-says : goal.returns-clause-says
returns-clause-says c = says_what_is_so

pub returns-clause-spelled : goal.returns-clause-spelled
returns-clause-spelled c = octets_spell

pub returns-clause-alone : goal.returns-clause-alone
returns-clause-alone c = alone_says
