use Rattle.arp.proofs.Kept.{one_fewer, none_left}
use Rattle.arp.proofs.laws.requests_run_out.Goals as goal

pub returns-clause-fewer : goal.returns-clause-fewer
returns-clause-fewer c = one_fewer

pub returns-clause-none : goal.returns-clause-none
returns-clause-none c = none_left
