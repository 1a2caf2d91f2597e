use Rattle.host.proofs.Late.{late-reported}
use Rattle.host.proofs.duties.late_datagrams_are_reported.Goals as goal

pub returns : goal.returns
returns c = late-reported
