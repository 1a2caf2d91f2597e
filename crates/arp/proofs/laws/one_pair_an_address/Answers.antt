use Rattle.arp.proofs.History.{one_pair_each}
use Rattle.arp.proofs.laws.one_pair_an_address.Goals as goal

pub returns : goal.returns
returns c = one_pair_each
