use Rattle.arp.proofs.OnePacket.{one_packet}
use Rattle.arp.proofs.laws.one_packet.Goals as goal

pub returns : goal.returns
returns c = one_packet
