use Rattle.retransmit.proofs.Samples.{first_sample, from_samples, to_samples}
use Rattle.retransmit.proofs.laws.the_timeout_follows_the_samples.Goals as goal

pub returns-clause-first : goal.returns-clause-first
returns-clause-first c = first_sample

pub returns-clause-from : goal.returns-clause-from
returns-clause-from c = from_samples

pub returns-clause-to : goal.returns-clause-to
returns-clause-to c = to_samples
