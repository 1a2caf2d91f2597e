use Rattle.std.proofs.Common.{◌≡◌, ◌≤◌, map, length, take}
use Rattle.routes.specs.Routes.{IsTable}
use Rattle.hostc.specs.Setup.{said, said_by}
use Rattle.hostc.proofs.setup.table.Given as goal

abbrev pub invariant-loop-route : goal.invariant-loop-route
invariant-loop-route l = (map said l.routes ≡ map said_by (take l.route-index l.given)) × (l.route-index ≤ length l.given) × IsTable l.routes
