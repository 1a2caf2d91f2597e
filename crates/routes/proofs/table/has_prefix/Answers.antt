use Rattle.routes.proofs.Tables.{found-Decides}
use Rattle.routes.proofs.table.has_prefix.Goals as goal

pub returns : goal.returns
returns c = let e = c.is_some.ensures in rw c.is_some.ensures (found-Decides c.args.routes.now c.args.prefix c.place_of.result c.place_of.ensures)
