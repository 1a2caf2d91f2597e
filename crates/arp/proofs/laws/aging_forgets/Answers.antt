use Rattle.arp.proofs.Kept.{aging_forgets}
use Rattle.arp.proofs.laws.aging_forgets.Goals as goal

pub returns : goal.returns
returns c = aging_forgets
