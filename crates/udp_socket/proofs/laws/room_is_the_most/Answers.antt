use Rattle.udp_socket.proofs.Asked.{room_most}
use Rattle.udp_socket.proofs.laws.room_is_the_most.Goals as goal

pub returns : goal.returns
returns c = room_most
