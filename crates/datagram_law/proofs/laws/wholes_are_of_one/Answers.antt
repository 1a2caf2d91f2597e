use Rattle.datagram_law.proofs.Completing.{answered, completed, kept}
use Rattle.datagram_law.proofs.laws.wholes_are_of_one.Goals as goal

pub returns-clause-answered : goal.returns-clause-answered
returns-clause-answered c = answered

pub returns-clause-completed : goal.returns-clause-completed
returns-clause-completed c = completed

pub returns-clause-kept : goal.returns-clause-kept
returns-clause-kept c = kept
