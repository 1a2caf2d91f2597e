use Rattle.host.proofs.Carriage.{carried-heard, carried-met, carried-hearer, carried-pair}
use Rattle.host.proofs.laws.layers_compose.Goals as goal

pub returns-clause-heard : goal.returns-clause-heard
returns-clause-heard c = carried-heard

pub returns-clause-met : goal.returns-clause-met
returns-clause-met c = carried-met

pub returns-clause-hearer : goal.returns-clause-hearer
returns-clause-hearer c = carried-hearer

pub returns-clause-pair : goal.returns-clause-pair
returns-clause-pair c = carried-pair
