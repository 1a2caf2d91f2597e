use Rattle.retransmit.proofs.Timeouts.{least-same}
use Rattle.retransmit.proofs.laws.least_is_of_the_set_up.Goals as goal

pub returns : goal.returns
returns c = least-same
