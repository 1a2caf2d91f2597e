use Rattle.udp_socket.proofs.ReadOctets.{cut}
use Rattle.udp_socket.proofs.laws.reads_are_cut.Goals as goal

pub returns : goal.returns
returns c = cut
