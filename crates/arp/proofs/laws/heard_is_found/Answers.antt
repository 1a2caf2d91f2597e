use Rattle.arp.proofs.Found.{heard_is_found}
use Rattle.arp.proofs.laws.heard_is_found.Goals as goal

pub returns : goal.returns
returns c = heard_is_found
