use Rattle.arp.proofs.Heard.{found_was_heard}
use Rattle.arp.proofs.laws.found_was_heard.Goals as goal

pub returns : goal.returns
returns c = found_was_heard
