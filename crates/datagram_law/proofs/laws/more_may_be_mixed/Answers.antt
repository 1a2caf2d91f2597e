use Rattle.datagram_law.proofs.TooMany.{mixed}
use Rattle.datagram_law.proofs.laws.more_may_be_mixed.Goals as goal

pub returns : goal.returns
returns c = mixed
