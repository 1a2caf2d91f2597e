use Rattle.routes.proofs.Tables.{one_rest, none_of_prefix}
use Rattle.routes.proofs.laws.one_rest.Goals as goal

pub returns-clause-one : goal.returns-clause-one
returns-clause-one c = one_rest

pub returns-clause-gone : goal.returns-clause-gone
returns-clause-gone c = none_of_prefix
