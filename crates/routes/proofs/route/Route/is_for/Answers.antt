use Rattle.ipv4.proofs.OnePrefix.{prefix_eq-Decides}
use Rattle.routes.proofs.route.Route.is_for.Goals as goal

pub returns : goal.returns
returns c = rw c.eq.ensures (prefix_eq-Decides c.args.self.now.prefix c.args.prefix)
