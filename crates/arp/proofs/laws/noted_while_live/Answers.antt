use Rattle.arp.proofs.Kept.{noted_while_live, noted_at_once}
use Rattle.arp.proofs.laws.noted_while_live.Goals as goal

pub returns-clause-second : goal.returns-clause-second
returns-clause-second c = noted_while_live

pub returns-clause-moment : goal.returns-clause-moment
returns-clause-moment c = noted_at_once
