use Rattle.host.proofs.Ran.{set_up-stays}
use Rattle.host.proofs.laws.set_ups_stay.Goals as goal

pub returns : goal.returns
returns c = set_up-stays
