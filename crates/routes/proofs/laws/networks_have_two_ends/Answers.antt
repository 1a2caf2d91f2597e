use Rattle.std.proofs.Common.{inl, inr, arith}
use Rattle.std.proofs.lemmas.Bool.Decides.{nat_tests}
use Rattle.routes.proofs.laws.networks_have_two_ends.Goals as goal

pub returns-clause-ends : goal.returns-clause-ends
returns-clause-ends c addr prefix few (inl first) = grind (arith, nat_tests, few, first)
returns-clause-ends c addr prefix few (inr last) = grind (arith, nat_tests, few, last)

pub returns-clause-none : goal.returns-clause-none
returns-clause-none c addr prefix many = grind (arith, nat_tests, many)
