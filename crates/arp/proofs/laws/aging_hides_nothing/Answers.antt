use Rattle.arp.proofs.Kept.{aging_hides_nothing}
use Rattle.arp.proofs.laws.aging_hides_nothing.Goals as goal

pub returns : goal.returns
returns c = aging_hides_nothing
