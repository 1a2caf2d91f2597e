use Rattle.host.proofs.RunsDry.{fewer, most, none-left}
use Rattle.host.proofs.dry.a_host_runs_dry.Goals as goal

pub returns-clause-fewer : goal.returns-clause-fewer
returns-clause-fewer c = fewer

pub returns-clause-most : goal.returns-clause-most
returns-clause-most c = most

pub returns-clause-none : goal.returns-clause-none
returns-clause-none c = none-left
