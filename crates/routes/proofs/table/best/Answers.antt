use Rattle.std.proofs.Common.{◌≡◌, ◌++◌, ◌∷◌, [], take, true, sym, subst, Option}
use Rattle.routes.specs.declared.route.Route.{Route}
use Rattle.routes.proofs.Tables.{BestSoFar, passed_by, longer_of, one_more, all_seen}
use Rattle.routes.proofs.table.best.Goals as goal
use Rattle.routes.proofs.table.best.Goals.{then-contains, else-contains}

pub loop-route-preserved : goal.loop-route-preserved
loop-route-preserved c =
    let routes = c.args.routes.now in
    let addr = c.args.addr in
    let i = c.loop-route.route-index in
    let route = c.route-item.result in
    let before = c.loop-route.invariant in
    let seen = take i routes in
    one_more routes i route addr c.if-contains.best c.loop-route-test.true c.route-item.is (elim c.if-contains.branch [
      | then-contains w ↦
          let e = w.longer.ensures in
          subst (λ (best : Option Route). BestSoFar (seen ++ route ∷ []) addr best) (sym w.best-is)
          (longer_of seen addr c.loop-route.best route w.longer.result (c.contains.ensures.0 w.if-contains.true) before e.one_of_them e.than_this e.than_earlier)
      | else-contains w ↦ subst (λ (best : Option Route). BestSoFar (seen ++ route ∷ []) addr best) (sym w.best-is) (passed_by seen addr c.loop-route.best route (λ m. let yes : c.contains.result ≡ true = c.contains.ensures.1 m in let no = w.if-contains.false in absurd cc) before)
    ])

pub returns : goal.returns
returns c = all_seen c.args.routes.now c.loop-route.route-index c.args.addr c.loop-route.best c.loop-route-test.false c.loop-route.invariant
