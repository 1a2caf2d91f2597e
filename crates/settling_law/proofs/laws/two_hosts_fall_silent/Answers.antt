use Rattle.settling_law.proofs.Whole.{all_fall_silent}
use Rattle.settling_law.proofs.laws.two_hosts_fall_silent.Goals as goal

pub returns : goal.returns
returns c = all_fall_silent
