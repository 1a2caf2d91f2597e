use Rattle.std.proofs.Common.{Some, None, option_map, sym, ap}
use Rattle.routes.specs.declared.route.Hop.TheVariants.{Direct, Gateway}
use Rattle.interface.specs.Routing.{neighbour_by}
use Rattle.interface.proofs.BestRoute.{picked}
use Rattle.interface.proofs.laws.gateways_lead_on.Goals as goal

pub returns-clause-direct : goal.returns-clause-direct
returns-clause-direct c = λ table to is picks. ap (option_map (neighbour_by to)) (sym (picked table to (Some Direct) is picks))

pub returns-clause-gateway : goal.returns-clause-gateway
returns-clause-gateway c = λ table to gateway is picks. ap (option_map (neighbour_by to)) (sym (picked table to (Some (Gateway gateway)) is picks))

pub returns-clause-none : goal.returns-clause-none
returns-clause-none c = λ table to is picks. ap (option_map (neighbour_by to)) (sym (picked table to None is picks))
