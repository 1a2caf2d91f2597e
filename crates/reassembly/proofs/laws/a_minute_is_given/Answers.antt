use Rattle.std.proofs.Common.{◌≡◌, ◌+◌, ◌-◌, ◌^◌, ◌<◌, ◌≤◌, true, false, cond, Some, None, arith, ap}
use Rattle.std.proofs.lemmas.Bool.Decides.{nat_tests}
use Rattle.clock.specs.declared.moment.Moment.{Moment}
use Rattle.reassembly.specs.Places.{is_over}
use Rattle.reassembly.specs.Reassembly.{Reassembly}
use Rattle.reassembly.proofs.laws.a_minute_is_given.Goals as goal

goes_on : (r : Reassembly) (now : Moment) → now.0 < 2 ^ 64 - 1 → now.0 < r.since.0 + 60000 → is_over now r ≡ false
goes_on r now within early = grind (arith, nat_tests, within, early)

ends : (r : Reassembly) (now : Moment) → r.since.0 + 60000 ≤ now.0 → is_over now r ≡ true
ends r now late = grind (arith, nat_tests, late)

ends_last : (r : Reassembly) (now : Moment) → 2 ^ 64 - 1 ≤ now.0 → is_over now r ≡ true
ends_last r now late = grind (arith, nat_tests, late)

pub returns-clause-stays : goal.returns-clause-stays
returns-clause-stays c r now within early = ap (λ b. cond b None (Some r)) (goes_on r now within early)

pub returns-clause-over : goal.returns-clause-over
returns-clause-over c r now late = ap (λ b. cond b None (Some r)) (ends r now late)

pub returns-clause-last : goal.returns-clause-last
returns-clause-last c r now late = ap (λ b. cond b None (Some r)) (ends_last r now late)
