use Rattle.host_law.proofs.Law.{lawful, lawful_host}
use Rattle.host_law.proofs.laws.every_run_of_a_host.Goals as goal

pub returns : goal.returns
returns c = record { run = lawful; host = lawful_host }
