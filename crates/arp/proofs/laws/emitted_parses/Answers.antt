use Rattle.arp.proofs.OnePacket.{emitted_parses}
use Rattle.arp.proofs.laws.emitted_parses.Goals as goal

pub returns : goal.returns
returns c = emitted_parses
