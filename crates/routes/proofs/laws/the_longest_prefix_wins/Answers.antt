use Rattle.std.proofs.Common.{arith}
use Rattle.routes.proofs.laws.the_longest_prefix_wins.Goals as goal

pub returns-clause-longest : goal.returns-clause-longest
returns-clause-longest c table addr shorter longer entry matches less best = omega (arith, best.longest longer entry matches, less)

pub returns-clause-matches : goal.returns-clause-matches
returns-clause-matches c table addr best is = (is.entry, is.matches)

pub returns-clause-some : goal.returns-clause-some
returns-clause-some c table addr route entry matches nothing = nothing route entry matches
