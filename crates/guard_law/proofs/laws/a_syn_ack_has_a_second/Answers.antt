use Rattle.guard_law.proofs.Seconds.{waited}
use Rattle.guard_law.proofs.laws.a_syn_ack_has_a_second.Goals as goal

pub returns : goal.returns
returns c = waited
