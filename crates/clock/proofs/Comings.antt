-- When the sooner of two deadlines has come.
use Rattle.std.proofs.Common.{◌≡◌, ◌||◌, refl, Option, Some, None, arith}
use Rattle.std.proofs.lemmas.Bool.Decides.{nat_tests}
use Rattle.clock.specs.declared.moment.Moment.{Moment}
use Rattle.clock.specs.Moments.{has_come, sooner}

both_come : (a b now : Moment) → has_come (sooner (Some a) (Some b)) now ≡ (has_come (Some a) now || has_come (Some b) now)
both_come a b now = grind (arith, nat_tests)

-- it has come where either has
pub sooner-has_come : (a b : Option Moment) (now : Moment) → has_come (sooner a b) now ≡ (has_come a now || has_come b now)
sooner-has_come None b now = refl
sooner-has_come (Some a) None now = grind (arith, nat_tests)
sooner-has_come (Some a) (Some b) now = both_come a b now
