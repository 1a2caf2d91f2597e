use Rattle.arp.proofs.WaitsOver.{one_next}
use Rattle.arp.proofs.laws.one_next_ask.Goals as goal

pub returns : goal.returns
returns c = one_next
