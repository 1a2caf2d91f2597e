use Rattle.host.proofs.Within.{within-limits}
use Rattle.host.proofs.laws.hosts_stay_within_their_limits.Goals as goal

pub returns : goal.returns
returns c = within-limits
