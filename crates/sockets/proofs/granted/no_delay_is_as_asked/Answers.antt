use Rattle.sockets.proofs.Grants.{no_delay_set}
use Rattle.sockets.proofs.granted.no_delay_is_as_asked.Goals as goal

pub returns : goal.returns
returns c = no_delay_set
