use Rattle.arp.proofs.Found.{asked_once, asked_once_now}
use Rattle.arp.proofs.laws.asked_once_a_second.Goals as goal

pub returns-clause-second : goal.returns-clause-second
returns-clause-second c = asked_once

pub returns-clause-moment : goal.returns-clause-moment
returns-clause-moment c = asked_once_now
