use Rattle.counters.proofs.Tallied.{tallied}
use Rattle.counters.proofs.laws.counts_are_the_numbers.Goals as goal

pub returns : goal.returns
returns c = tallied
