use Rattle.icmp.proofs.Answering.{unanswered}
use Rattle.icmp.proofs.laws.errors_are_unanswered.Goals as goal

pub returns : goal.returns
returns c = unanswered
