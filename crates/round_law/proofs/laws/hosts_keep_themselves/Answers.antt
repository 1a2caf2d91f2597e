use Rattle.host.proofs.Tables.{run-reached, run-timed}
use Rattle.round_law.proofs.laws.hosts_keep_themselves.Goals as goal

pub returns : goal.returns
returns c = λ h sound r. record { sound = sound; reached = run-reached r.config r.events h r.runs; time = run-timed r.config r.events h r.runs }
