use Rattle.interface.proofs.Waits.{aging_hides_no_hop}
use Rattle.interface.proofs.laws.aging_hides_no_hop.Goals as goal

pub returns : goal.returns
returns c = aging_hides_no_hop
