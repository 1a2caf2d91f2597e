use Rattle.std.proofs.Common.{◌≡◌, rules, option_map}
use Rattle.routes.specs.declared.route.Route.{Route}
use Rattle.routes.proofs.Tables.{picked}
use Rattle.routes.proofs.table.Routes.pick.Goals as goal

pub returns-clause-best : goal.returns-clause-best
returns-clause-best c =
    let e = c.map.ensures.cases in
    let hop : c.map.result ≡ option_map (λ (r : Route). r.hop) c.best.result = search rules in
    rw (← c.self.view_is, ← c.as_slice.ensures.value) (picked c.as_slice.result.now c.args.addr c.best.result c.map.result c.best.ensures hop)
