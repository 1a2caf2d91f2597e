use Rattle.std.proofs.Common.{rules, ◌≡◌, ◌≢◌}
use borrow.Author.Tests.{tests}
use Rattle.std.proofs.lemmas.Iterator.{IsFirst-from_position, YieldsList-from_slice}
use Rattle.routes.specs.declared.route.Route.{Route}
use Rattle.routes.proofs.Tables.{found}
use Rattle.routes.proofs.table.place_of.Goals as goal

pub returns : goal.returns
returns c =
    let p = c.args.prefix in
    found c.args.routes.now p c.position.result
    (IsFirst-from_position _ _ _ (λ (route : Route). route.prefix ≡ p) (λ (route : Route). route.prefix ≢ p) c.position.ensures.ran (YieldsList-from_slice c.args.routes.now cc) (λ x q k. search (rules, tests)) (λ x q k. search (rules, tests)))
