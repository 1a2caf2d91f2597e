use Rattle.round_law.proofs.Found.{alone_there, named_there}
use Rattle.round_law.proofs.laws.quiet_connections_are_alone.Goals as goal

pub returns-clause-alone : goal.returns-clause-alone
returns-clause-alone c = alone_there

pub returns-clause-named : goal.returns-clause-named
returns-clause-named c = named_there
