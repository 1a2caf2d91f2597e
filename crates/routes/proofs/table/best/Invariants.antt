use Rattle.std.proofs.Common.{take}
use Rattle.routes.proofs.Tables.{BestSoFar}
use Rattle.routes.proofs.table.best.Given as goal

abbrev pub invariant-loop-route : goal.invariant-loop-route
invariant-loop-route l = BestSoFar (take l.route-index l.routes) l.addr l.best
